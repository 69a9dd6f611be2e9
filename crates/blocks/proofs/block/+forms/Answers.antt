-- Blocks and the four forms call each other. Assumes nothing.
use mathlib.Core.Path.{refl, sym, ◌∙◌}
use native.Mathlib.Omega.{arith}
use borrow.Author.Tests.{lt-leb}
use Rattle.blocks.specs.declared.arm.BlockArm.{BlockArm}
use Rattle.blocks.specs.Arms.{by_block_arm}
use Rattle.blocks.proofs.Laws.{meant, deeper, round, said_no_item, gives, at_form, at_end, from_form, repeat_here, formed, finish_at, no_condition, condition, at_while, no_else, with_else}
use Rattle.parser.proofs.Kit.{on_to, off_to, node_to, bind_to, yes_to, no_to}
use Rattle.grammar.specs.Block.{parse_block, parse_control_flow, do_condition, parse_do_while, parse_if, ended, parse_repeat, parse_while}
use Rattle.grammar.specs.Words.{is, DO, IF, WHILE}
use Rattle.parser.proofs.Ahead.{at_here, at_not, at_other}
use Rattle.blocks.specs.Shapes.{any_depth, any_place, else_part}
use Rattle.grammar.specs.declared.block.BlockOwner.{BlockOwner}
use borrow.Author.Rules.{rules}
use Rattle.blocks.proofs.block.+forms.Goals.{parse_do_while-then-found_terminator, parse_do_while-else-found_terminator, parse_if-then-goes_to_else, parse_if-else-goes_to_else}
use Rattle.blocks.proofs.block.+forms.Goals as goal

pub block_from-parse_control_flow-f-requires : goal.block_from-parse_control_flow-f-requires
block_from-parse_control_flow-f-requires t c =
    let begun = c.first_rounds-s.ensures in
    let rounds = at_form c.loop-s.parser c.in-Form.is (c.loop-s.invariant.on _ begun.rounds) in
    let control = meant c.args.start.place.terminators _ BlockArm.Control refl rounds.there.arm in
    (omega (arith, begun.wrote.pos, rounds.onward), control)

pub block_from-returns-then-f : goal.block_from-returns-then-f
unfolding parse_block by_block_arm
block_from-returns-then-f t c =
    let begun = c.first_rounds-s.ensures in
    let here = (at_form c.loop-s.parser c.in-Form.is (c.loop-s.invariant.on _ begun.rounds)).there in
    let form = deeper (any_depth c.args.start.place.depth) (any_depth c.deeper.result) c.deeper.ensures c.parse_control_flow-f.ensures.ran in
    let rest = bind_to _ form (on_to _ c.if-f.true (gives c.ended_file.ensures.outcome)) in
    let inside = here.on _ _ (round (any_place c.args.start.place) BlockArm.Control (sym here.arm) refl (off_to _ (lt-leb _ _ here.below) rest)) in
    record { ran = node_to _ begun.wrote inside c.ended_file.ensures.wrote; here = said_no_item c.ended_file.ensures.item }

pub block_from-loop-s-preserved : goal.block_from-loop-s-preserved
unfolding by_block_arm
block_from-loop-s-preserved t c =
    let form = deeper (any_depth c.args.start.place.depth) (any_depth c.deeper.result) c.deeper.ensures c.parse_control_flow-f.ensures.ran in
    let i = c.loop-s.invariant in
    record {
      on = λ w r.
          let rounds = at_form c.loop-s.parser c.in-Form.is (i.on w r) in
          let here = rounds.there in
          from_form _ rounds (λ u x h. round (any_place c.args.start.place) BlockArm.Control (sym here.arm) refl (off_to _ (lt-leb _ _ here.below) (bind_to _ form (off_to _ c.if-f.false h))))
          c.parse_control_flow-f.ensures.ran.ran.onward c.next_rounds-s.ensures;
    }

pub block_from-returns-in-Closed : goal.block_from-returns-in-Closed
unfolding parse_block
block_from-returns-in-Closed t c =
    let begun = c.first_rounds-s.ensures in
    let over = (at_end c.loop-s.parser c.in-Closed.is (c.loop-s.invariant.on _ begun.rounds)).there in
    record { ran = node_to _ begun.wrote over.ran over.wrote; here = over.here }

-- parse_control_flow's cases are the words' numbers: 2079 is `if`, 1055 `do`, 4127 `while`
pub parse_control_flow-parse_if-requires : goal.parse_control_flow-parse_if-requires
parse_control_flow-parse_if-requires t c = (omega arith, at_here IF _ refl c.current.ensures c.in-2079.is)

pub parse_control_flow-returns-in-2079 : goal.parse_control_flow-returns-in-2079
unfolding parse_control_flow
parse_control_flow-returns-in-2079 t c =
    record {
      ran = yes_to _ _ refl (at_here IF _ refl c.current.ensures c.in-2079.is) c.parse_if.ensures.ran;
      past = c.parse_if.ensures.past;
      here = c.parse_if.ensures.here;
    }

pub parse_control_flow-parse_do_while-requires : goal.parse_control_flow-parse_do_while-requires
parse_control_flow-parse_do_while-requires t c = (omega arith, at_here DO _ refl c.current.ensures c.in-1055.is)

pub parse_control_flow-returns-in-1055 : goal.parse_control_flow-returns-in-1055
unfolding parse_control_flow
parse_control_flow-returns-in-1055 t c =
    record {
      ran = no_to _ _ refl (at_other (is IF) DO _ refl (at_here DO _ refl c.current.ensures c.in-1055.is)) (yes_to _ _ refl (at_here DO _ refl c.current.ensures c.in-1055.is) c.parse_do_while.ensures.ran);
      past = c.parse_do_while.ensures.past;
      here = c.parse_do_while.ensures.here;
    }

pub parse_control_flow-parse_while-requires : goal.parse_control_flow-parse_while-requires
parse_control_flow-parse_while-requires t c = (omega arith, at_here WHILE _ refl c.current.ensures c.in-4127.is)

pub parse_control_flow-returns-in-4127 : goal.parse_control_flow-returns-in-4127
unfolding parse_control_flow
parse_control_flow-returns-in-4127 t c =
    record {
      ran = no_to _ _ refl (at_other (is IF) WHILE _ refl (at_here WHILE _ refl c.current.ensures c.in-4127.is)) (no_to _ _ refl (at_other (is DO) WHILE _ refl (at_here WHILE _ refl c.current.ensures c.in-4127.is)) (yes_to _ _ refl (at_here WHILE _ refl c.current.ensures c.in-4127.is) c.parse_while.ensures.ran));
      past = c.parse_while.ensures.past;
      here = c.parse_while.ensures.here;
    }

pub parse_control_flow-parse_repeat-requires : goal.parse_control_flow-parse_repeat-requires
parse_control_flow-parse_repeat-requires t c =
    let no-if = at_not IF _ refl c.current.ensures (search rules) in
    let no-do = at_not DO _ refl c.current.ensures (search rules) in
    let no-while = at_not WHILE _ refl c.current.ensures (search rules) in
    (omega arith, repeat_here _ c.requires no-if no-do no-while)

pub parse_control_flow-returns-in_default : goal.parse_control_flow-returns-in_default
unfolding parse_control_flow
parse_control_flow-returns-in_default t c =
    let no-if = at_not IF _ refl c.current.ensures (search rules) in
    let no-do = at_not DO _ refl c.current.ensures (search rules) in
    let no-while = at_not WHILE _ refl c.current.ensures (search rules) in
    record {
      ran = no_to _ _ refl no-if (no_to _ _ refl no-do (no_to _ _ refl no-while c.parse_repeat.ensures.ran));
      past = c.parse_repeat.ensures.past;
      here = c.parse_repeat.ensures.here;
    }

pub parse_do_while-keyword_line-line-requires : goal.parse_do_while-keyword_line-line-requires
parse_do_while-keyword_line-line-requires t c = at_while _ c.args.depth.forms c.inner_block-b.ensures.ran (sym c.found_terminator.ensures ∙ c.if-found_terminator.true)

pub parse_do_while-returns : goal.parse_do_while-returns
unfolding parse_do_while
parse_do_while-returns t c =
    let limit = c.args.depth.limit.forms in
    let depth = c.args.depth.forms in
    let first = c.inner_block-b.ensures.ran in
    elim c.if-found_terminator.branch [
      | parse_do_while-then-found_terminator w ↦
          (let end = finish_at w.parser-is w.b-is c.finish.ensures in
          let last = w.inner_block-b-then-found_terminator.ensures.ran in
          let rest = condition limit depth c.inner_block-b.result.outcome c.found_terminator.ensures w.if-found_terminator.true w.keyword_line-line.ensures last end.ran in
          formed _ (do_condition (parse_block limit) depth) c.do_header-h.ensures first end rest)
      | parse_do_while-else-found_terminator w ↦
          (let end = finish_at w.parser-is w.b-is c.finish.ensures in
          formed _ (do_condition (parse_block limit) depth) c.do_header-h.ensures first end (no_condition limit depth c.inner_block-b.result.outcome c.found_terminator.ensures w.if-found_terminator.false end.ran))
    ]

pub parse_if-returns : goal.parse_if-returns
unfolding parse_if
parse_if-returns t c =
    let limit = c.args.depth.limit.forms in
    let depth = c.args.depth.forms in
    let first = c.inner_block-b.ensures.ran in
    elim c.if-goes_to_else.branch [
      | parse_if-then-goes_to_else w ↦
          (let end = finish_at w.parser-is w.b-is c.finish.ensures in
          let last = w.inner_block-b-then-goes_to_else.ensures.ran in
          let rest = with_else limit depth c.inner_block-b.result.outcome c.goes_to_else.ensures w.if-goes_to_else.true w.keyword_line-line.ensures last end.ran in
          formed _ (else_part (parse_block limit) depth) c.header-h.ensures first end rest)
      | parse_if-else-goes_to_else w ↦
          (let end = finish_at w.parser-is w.b-is c.finish.ensures in
          formed _ (else_part (parse_block limit) depth) c.header-h.ensures first end (no_else limit depth c.inner_block-b.result.outcome c.goes_to_else.ensures w.if-goes_to_else.false end.ran))
    ]

pub parse_repeat-returns : goal.parse_repeat-returns
unfolding parse_repeat
parse_repeat-returns t c =
    let end = c.finish.ensures in
    formed _ (λ o. ended BlockOwner.Repeat o) c.header-h.ensures c.inner_block-b.ensures.ran end end.ran

pub parse_while-returns : goal.parse_while-returns
unfolding parse_while
parse_while-returns t c =
    let end = c.finish.ensures in
    formed _ (λ o. ended BlockOwner.While o) c.header-h.ensures c.inner_block-b.ensures.ran end end.ran
