-- `blocks::header::symbol_line`: the steps of its callees. Assumes nothing.
use native.Mathlib.Omega.{arith}
use Rattle.grammar.specs.Laws.LiveLine.{eats_expect}
use Rattle.grammar.specs.declared.message.Message.{Message}
use Rattle.parser.proofs.Kit.{◌farther◌}
use Rattle.parser.proofs.Laws.{past_here}
use Rattle.blocks.proofs.header.symbol_line.Goals as goal

pub returns : goal.returns
returns c =
    let moved = past_here c.expect_symbol-b.ensures.ran ((eats_expect c.args.k c.requires.no_trivia Message.Unreached).eats _ c.requires.here) in
    record {
      mid = _;
      key = c.expect_symbol-b.ensures.ran;
      line = c.parse_line_tail.ensures;
      onward = c.expect_symbol-b.ensures.ran.onward farther c.parse_line_tail.ensures.onward;
      past = record { on = omega (arith, moved, c.parse_line_tail.ensures.onward); within = moved.within };
    }
