-- `marks::unmark` meets its contract: what is still to be written, over what has been written, is the whole. Assumes nothing.
use Prim.Native.Nat.{ℕ, ◌≤◌}
use mathlib.Core.Path.{◌≡◌, sym, ap, ◌∙◌}
use mathlib.Core.List.{List, map}
use native.Mathlib.Omega.{arith}
use borrow.Author.Rules.{rules}
use lib.ListN.{length, length-map, drop_of_length-le}
use Rattle.room.specs.Over.{over, over_all}
use Rattle.grammar.specs.Words.{kind_of}
use Rattle.marks.proofs.unmark.Invariants.{Going}
use Rattle.marks.proofs.unmark.Goals as goal

ended : {kinds₀ kinds : List ℕ} {i : ℕ} → Going kinds₀ kinds i → length kinds₀ ≤ i → kinds ≡ map kind_of kinds₀
ended {kinds₀} {kinds} {i} g h =
    let none : length kinds ≤ i = omega (arith, g.len) in
    sym (ap (λ (r : List ℕ). over kinds i (map kind_of r)) (drop_of_length-le kinds none))
    ∙ sym g.done
    ∙ over_all kinds₀ (map kind_of kinds₀) (length-map kinds₀ kind_of)

pub returns : goal.returns
returns c = ended c.loop-kind.invariant (search rules)
