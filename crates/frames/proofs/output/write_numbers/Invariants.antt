-- `frames::output::write_numbers`: so far the numbers before the index are written. Assumes nothing.
use Rattle.std.proofs.Common.{ℕ, List, take, flat_map}
use Rattle.std.specs.List.{AllZip}
use Rattle.std.specs.Io.KnownBytes.{Appends}
use Rattle.frames.specs.Text.{spaced}
use Rattle.frames.proofs.output.write_numbers.Given as goal

abbrev pub invariant-loop-number : goal.invariant-loop-number
invariant-loop-number g l =
    (values : List ℕ) × AllZip g.T.Into.converts (take l.number-index l.numbers) values
    × Appends (g.W.Write.contents l.initial.out) (g.W.Write.contents l.out) (flat_map spaced values)
