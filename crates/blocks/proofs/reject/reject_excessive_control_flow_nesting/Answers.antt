-- `blocks::reject::reject_excessive_control_flow_nesting`: the rest of the tokens, one at a time. Assumes nothing.
use mathlib.Core.Bool.{true}
use mathlib.Core.Path.{refl, sym, ◌∙◌}
use native.Mathlib.Omega.{arith}
use Rattle.grammar.specs.Block.{all_round, reject_excessive_control_flow_nesting}
use Rattle.parser.proofs.Kit.{node, ◌then◌, goes_on, scan_end, scan_go}
use Rattle.parser.proofs.Laws.{eof_within}
use Rattle.blocks.proofs.reject.reject_excessive_control_flow_nesting.Goals as goal

pub loop-parser-smaller : goal.loop-parser-smaller
loop-parser-smaller c =
    let h = eof_within c.loop-parser.parser.kinds.now c.loop-parser.c.pos c.eof.ensures c.loop-parser-test.true in
    omega (arith, h, c.bump-c.ensures.moved h)

pub loop-parser-preserved : goal.loop-parser-preserved
unfolding all_round
loop-parser-preserved c =
    goes_on c.loop-parser.invariant (λ w' r k. scan_go all_round true true (sym c.eof.ensures ∙ c.loop-parser-test.true) refl c.bump-c.ensures.ran k)

pub returns : goal.returns
unfolding reject_excessive_control_flow_nesting
returns c =
    let rest = c.loop-parser.invariant.on _ _ (scan_end all_round true (sym c.eof.ensures ∙ c.loop-parser-test.false)) in
    node _ c.start_node-a.ensures (c.error_here-c.ensures.ran then rest.ran) c.finish_node.ensures
