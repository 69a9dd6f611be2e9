-- How long a proper start the bytes begin with, row by row of table 3-7. Assumes nothing.
use Rattle.std.specs.Prelude.{◌≡◌, refl, List, [], ◌∷◌, Bool, true, false, cond, ℕ, zero, suc, pred, ◌≤◌, ◌<◌, ◌⊎◌, leb, min, length, take}
use Rattle.std.proofs.Common.{inl, inr, arith, leb-true, leb-false, length-take-le}
use Rattle.std.proofs.lemmas.Bool.{eqb-true, eq-eqb}
use Rattle.utf8.specs.Table.{Row, table_3_7, in_range, agree}
use Rattle.utf8.specs.ErrorLen.{start_in, start_length}
use Rattle.utf8.specs.ErrorLenLaws.{few_starts}
use Rattle.utf8.proofs.ByRows.{RowAt, fits, found}

agree_take : (k : ℕ) (row : Row) (bs : List ℕ) → agree (take k row) bs ≡ min k (agree row bs)
unfolding agree
agree_take zero row bs = omega arith
agree_take (suc k) [] bs = omega arith
agree_take (suc k) (r ∷ row) [] = omega arith
agree_take (suc k) (r ∷ row) (b ∷ bs) = by_test (in_range r b) (agree_take k row bs)
  where
    by_test : (t : Bool) → agree (take k row) bs ≡ min k (agree row bs)
        → cond t (suc (agree (take k row) bs)) 0 ≡ min (suc k) (cond t (suc (agree row bs)) 0)
    by_test true e = omega (arith, e)
    by_test false e = omega arith

-- the bytes lie in the first k ranges of the row, and of one of the rows, which have more
abbrev pub StartsAs : ℕ → Row → List ℕ → Type 0
StartsAs k row bs = (k < length row) × RowAt (take k row) 0 bs

abbrev pub SomeStart : ℕ → List Row → List ℕ → Type 0
SomeStart k [] bs = ⊥
SomeStart k (row ∷ rows) bs = StartsAs k row bs ⊎ SomeStart k rows bs

-- n is no less than each k for which they do
abbrev pub StartsSay : ℕ → List Row → List ℕ → ℕ → Type 0
StartsSay k [] bs n = Unit {0}
StartsSay k (row ∷ rows) bs n = (StartsAs k row bs → k ≤ n) × StartsSay k rows bs n

starts_as : (k : ℕ) (row : Row) (bs : List ℕ) → StartsAs k row bs → k ≤ min (agree row bs) (pred (length row))
starts_as k row bs h =
    omega (arith, h.0, agree_take k row bs, eqb-true _ _ (fits (take k row) 0 bs h.1), length-take-le k row (omega (arith, h.0)))

as_starts : (k : ℕ) (row : Row) (bs : List ℕ) → 0 < k → k ≤ min (agree row bs) (pred (length row)) → StartsAs k row bs
as_starts k row bs p h =
    (omega arith, found (take k row) 0 bs (eq-eqb _ _ (omega (arith, agree_take k row bs, length-take-le k row (omega arith)))))

module _ (k : ℕ) (bs : List ℕ) where
  says : (n : ℕ) (rows : List Row) → start_in rows bs ≤ n → StartsSay k rows bs n
  unfolding start_in
  says n [] u = tt
  says n (row ∷ rows) u = (λ h. omega (arith, starts_as k row bs h), says n rows (omega arith))

  some : (rows : List Row) → 0 < k → k ≤ start_in rows bs → SomeStart k rows bs
  unfolding start_in
  some [] p h = absurd (omega arith)
  some (row ∷ rows) p h = by_row (leb k (min (agree row bs) (pred (length row)))) refl (some rows p)
    where
      by_row : (t : Bool) → leb k (min (agree row bs) (pred (length row))) ≡ t → (k ≤ start_in rows bs → SomeStart k rows bs)
          → SomeStart k (row ∷ rows) bs
      by_row true t again = inl (as_starts k row bs p (leb-true k _ t))
      by_row false t again = let u = leb-false k _ t in inr (again (omega arith))

abbrev pub Say : ℕ → List ℕ → Type 0
Say k bs = StartsSay k table_3_7 bs (start_length bs) × (k ≤ start_length bs → SomeStart k table_3_7 bs)

say : (k : ℕ) (bs : List ℕ) → 0 < k → Say k bs
say k bs p = (says k bs (start_length bs) table_3_7 (omega arith), some k bs table_3_7 p)

pub starts : (bs : List ℕ) → Say 1 bs × Say 2 bs × Say 3 bs × (start_length bs ≤ 3)
starts bs = (say 1 bs (omega arith), say 2 bs (omega arith), say 3 bs (omega arith), few_starts bs)
