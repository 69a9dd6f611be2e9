-- `blocks::header::keyword_line`: the steps of its callees. Assumes nothing.
use native.Mathlib.Omega.{arith}
use Rattle.grammar.specs.Laws.LiveLine.{eats_expect}
use Rattle.grammar.specs.Words.{key, word_number}
use Rattle.parser.proofs.Expect.{no_trivia}
use Rattle.grammar.specs.declared.message.Message.{Message}
use Rattle.parser.proofs.Kit.{◌farther◌}
use Rattle.parser.proofs.Laws.{past_here}
use Rattle.blocks.proofs.header.keyword_line.Goals as goal

pub returns : goal.returns
returns c =
    let keyword = c.args.keyword in
    let moved = past_here c.expect_keyword-b.ensures.ran ((eats_expect (key (word_number keyword)) (no_trivia keyword) Message.Unreached).eats _ c.requires) in
    record {
      mid = _;
      key = c.expect_keyword-b.ensures.ran;
      line = c.parse_line_tail.ensures;
      onward = c.expect_keyword-b.ensures.ran.onward farther c.parse_line_tail.ensures.onward;
      past = record { on = omega (arith, moved, c.parse_line_tail.ensures.onward); within = moved.within };
    }
