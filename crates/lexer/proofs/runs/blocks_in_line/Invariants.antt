-- `lexer::runs::blocks_in_line` meets its contract: a block with no line end is passed whole. Assumes nothing.
use lib.ListN.{drop}
use mathlib.Core.Path.{◌≡◌}
use Rattle.std.specs.Slice.Iter.{chunks_exact_rest, chunks_exact_size}
use Rattle.lexer.specs.Lexer.{in_line}
use Rattle.lexer.proofs.Laws.{Reaches}
use Rattle.lexer.proofs.runs.blocks_in_line.Given as goal

abbrev pub invariant-loop-block : goal.invariant-loop-block
invariant-loop-block l =
    (goal.iterator-loop-block).can_next l.block-iterator
    × (goal.iterator-loop-block).is_finite l.block-iterator
    × (chunks_exact_size l.block-iterator ≡ 16)
    × (chunks_exact_rest l.block-iterator ≡ drop l.at l.rest)
    × Reaches in_line l.rest 0 l.at
