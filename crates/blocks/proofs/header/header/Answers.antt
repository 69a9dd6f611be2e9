-- `blocks::header::header`: the steps of its callees. Assumes nothing.
use mathlib.Core.Path.{ap, ◌∙◌}
use native.Mathlib.Omega.{arith}
use Rattle.grammar.specs.Words.{is, key, word_number}
use Rattle.parser.proofs.Expect.{no_trivia}
use Rattle.grammar.specs.Look.{at}
use Rattle.grammar.specs.Laws.LiveLine.{eats_expect}
use Rattle.grammar.specs.declared.message.Message.{Message}
use Rattle.blocks.proofs.Laws.{opened}
use Rattle.parser.proofs.Kit.{◌farther◌, ◌then_to◌}
use Rattle.parser.proofs.Laws.{past_here}
use Rattle.blocks.proofs.header.header.Goals as goal

pub returns : goal.returns
returns c =
    let keyword = c.args.keyword in
    let here = ap (at (is (key (word_number keyword)))) c.start_node-a.ensures.rest ∙ c.requires in
    let moved = past_here c.expect_keyword-b.ensures.ran ((eats_expect (key (word_number keyword)) (no_trivia keyword) Message.Unreached).eats _ here) in
    let suffixes = c.parse_structured_header_suffixes-s.ensures in
    opened c.start_node-a.ensures
    (λ next u r h. c.expect_keyword-b.ensures.ran then_to suffixes then_to c.parse_line_tail.ensures then_to h)
    (c.expect_keyword-b.ensures.ran.onward farther suffixes.onward farther c.parse_line_tail.ensures.onward)
    (record { on = omega (arith, moved, suffixes.onward, c.parse_line_tail.ensures.onward); within = moved.within })
