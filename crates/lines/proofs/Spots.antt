-- A spot goes on by a byte.
-- Assumes nothing.
use Rattle.std.specs.Prelude.{ℕ, suc, ◌+◌, ◌<◌, ◌≤◌, ◌≡◌, refl, true, false, not, eqb, List, length, get_or}
use Rattle.std.proofs.Common.{sym, arith, add-one, subst, replicate}
use Rattle.lines.specs.declared.spot.Spot.{Spot}
use Rattle.std.proofs.lemmas.List.{get_or-replicate}
use Rattle.lines.specs.Ends.{completed}
use Rattle.lines.specs.Places.{first_spot, Stands, Mark, Marks}
use Rattle.lines.proofs.Laws.{line_few, start_within}

abbrev spot : ℕ → ℕ → ℕ → Spot
spot at n s = record { at = at; ends = n; line_start = s }

-- behind a CR
pub behind_cr : (source : List ℕ) (n : ℕ) → get_or source n 0 ≡ 13 → not (eqb (get_or source (n + 1) 0) 10) ≡ completed source (n + 1)
behind_cr source n h = rw (add-one n, h) refl

module _ (source : List ℕ) (at n s : ℕ) (m : Stands source (spot at n s)) (h : at < length source) where
  -- where a line end is completed behind the byte
  pub behind_end : completed source (at + 1) ≡ true → Stands source (spot (at + 1) (n + 1) (at + 1))
  behind_end e = subst (λ (i : ℕ). completed source i ≡ true → Stands source (spot i (n + 1) i)) (sym (add-one at)) next e
    where
      next : completed source (suc at) ≡ true → Stands source (spot (suc at) (n + 1) (suc at))
      next k = record { within = omega arith; ends_are = rw k (omega (arith, m.ends_are)); start_is = rw k refl }

  -- and where none is
  pub same_line : completed source (at + 1) ≡ false → Stands source (spot (at + 1) n s)
  same_line e = subst (λ (i : ℕ). completed source i ≡ false → Stands source (spot i n s)) (sym (add-one at)) next e
    where
      next : completed source (suc at) ≡ false → Stands source (spot (suc at) n s)
      next k = record { within = omega arith; ends_are = rw k m.ends_are; start_is = rw k m.start_is }

-- Neither number is above the place.
pub few : (source : List ℕ) (s : Spot) → Stands source s → (s.ends ≤ s.at) × (s.line_start ≤ s.at)
few source s m = (omega (arith, m.ends_are, line_few source s.at), omega (arith, m.start_is, start_within source s.at))

-- The start of a source, and marks that all stand there.
pub start_stands : (source : List ℕ) → Stands source first_spot
start_stands source = record { within = omega arith; ends_are = refl; start_is = refl }

pub start_marks : (source : List ℕ) (n : ℕ) → n ≡ 512 → Marks source (replicate n first_spot)
start_marks source n e j h =
    subst (Mark source j) (sym (get_or-replicate n j first_spot first_spot (omega (arith, e, h))))
    (record { stands = start_stands source; before = omega arith })
