-- `marks::unmark` meets its contract: what is still to be written, over what has been written, is the whole. Assumes nothing.
use Prim.Native.Nat.{ℕ}
use mathlib.Core.Path.{◌≡◌}
use mathlib.Core.List.{List, map}
use lib.ListN.{length, drop}
use Rattle.room.specs.Over.{over}
use Rattle.grammar.specs.Words.{kind_of}
use Rattle.marks.proofs.unmark.Given as goal

pub record Going (kinds₀ kinds : List ℕ) (i : ℕ) : Type 0 where
  pub len : length kinds ≡ length kinds₀
  pub done : over kinds₀ 0 (map kind_of kinds₀) ≡ over kinds i (map kind_of (drop i kinds))

abbrev pub invariant-loop-kind : goal.invariant-loop-kind
invariant-loop-kind l = Going l.initial.kinds l.kinds l.kind-index
