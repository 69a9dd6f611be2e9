-- A character's length by its first byte and those behind it, row by row of table 3-7. Assumes nothing.
use Rattle.std.specs.Prelude.{◌≡◌, refl, List, [], ◌∷◌, Bool, true, false, cond, ℕ, suc, ◌+◌, ◌≤◌, ◌<◌, ◌⊎◌, ltb, length, get_or, drop}
use Rattle.std.proofs.Common.{sym, ap, ◌∙◌, true≢false, inl, inr, arith, ltb-true, ltb-false}
use Rattle.std.proofs.Math.ListN.{drop_of_length-le}
use Rattle.utf8.specs.Table.{◌⋯◌, Row, table_3_7, in_range, agree, row_fits, length_in, char_length}
use Rattle.utf8.specs.TableLaws.{in_range_yes, in_range_over, bounds, fits_on, fits_off, fits_none, RowsRise, rows_rise}
use Rattle.utf8.proofs.Laws.{next_byte}

-- the bytes from k on lie in the row's ranges
abbrev pub RowAt : Row → ℕ → List ℕ → Type 0
RowAt [] k s = Unit {0}
RowAt (low ⋯ high ∷ row) k s = (k < length s) × (low ≤ get_or s k 0) × (get_or s k 0 ≤ high) × RowAt row (k + 1) s

-- the byte b and those behind it start with a sequence of the row, and of one of the rows
abbrev pub StartsRow : Row → ℕ → List ℕ → Type 0
StartsRow [] b bs = Unit {0}
StartsRow (low ⋯ high ∷ row) b bs = (low ≤ b) × (b ≤ high) × RowAt row 0 bs

abbrev pub SomeRow : List Row → ℕ → List ℕ → Type 0
SomeRow [] b bs = ⊥
SomeRow (row ∷ rows) b bs = StartsRow row b bs ⊎ SomeRow rows b bs

-- n is the length of each row that they start with
abbrev pub RowsSay : List Row → ℕ → List ℕ → ℕ → Type 0
RowsSay [] b bs n = Unit {0}
RowsSay (row ∷ rows) b bs n = (StartsRow row b bs → n ≡ length row) × RowsSay rows b bs n

pub fits : (row : Row) (k : ℕ) (s : List ℕ) → RowAt row k s → row_fits row (drop k s) ≡ true
unfolding agree
fits [] k s h = refl
fits (low ⋯ high ∷ row) k s h =
    ap (λ (l : List ℕ). row_fits (low ⋯ high ∷ row) l) (next_byte s k h.0)
    ∙ fits_on (low ⋯ high) row (get_or s k 0) (drop (k + 1) s) (in_range_yes low high (get_or s k 0) h.1 h.2)
    ∙ fits row (k + 1) s h.3

-- a row's first byte and the rest of it
first_of : (low high : ℕ) (row : Row) (b : ℕ) (bs : List ℕ) → row_fits (low ⋯ high ∷ row) (b ∷ bs) ≡ true → (low ≤ b) × (b ≤ high) × (row_fits row bs ≡ true)
first_of low high row b bs e = by_test (in_range (low ⋯ high) b) refl
  where
    by_test : (t : Bool) → in_range (low ⋯ high) b ≡ t → (low ≤ b) × (b ≤ high) × (row_fits row bs ≡ true)
    by_test true i = let w = bounds low high b i in (w.0, w.1, sym (fits_on (low ⋯ high) row b bs i) ∙ e)
    by_test false i = absurd (true≢false (sym e ∙ fits_off (low ⋯ high) row b bs i))

pub found : (row : Row) (k : ℕ) (s : List ℕ) → row_fits row (drop k s) ≡ true → RowAt row k s
found [] k s e = tt
found (low ⋯ high ∷ row) k s e = by_end (ltb k (length s)) refl (found row (k + 1) s)
  where
    by_end : (t : Bool) → ltb k (length s) ≡ t → (row_fits row (drop (k + 1) s) ≡ true → RowAt row (k + 1) s) → RowAt (low ⋯ high ∷ row) k s
    by_end true t again =
        let h = ltb-true k (length s) t in
        let w = first_of low high row (get_or s k 0) (drop (k + 1) s) (rw next_byte at e) in
        (h, w.0, w.1, again w.2)
    by_end false t again =
        let n = ap (λ (l : List ℕ). row_fits (low ⋯ high ∷ row) l) (drop_of_length-le s (ltb-false k (length s) t)) in
        absurd (true≢false (sym e ∙ n ∙ fits_none (low ⋯ high) row))

-- the row's length, where no earlier row is met
module _ (b : ℕ) (bs : List ℕ) where
  later : (n : ℕ) (rows : List Row) → RowsRise n rows → SomeRow rows b bs → n ≤ b
  later n [] u h = absurd h
  later n ([] ∷ rows) u h = absurd u
  later n ((low ⋯ high ∷ row) ∷ rows) u (inl h) = omega arith
  later n ((low ⋯ high ∷ row) ∷ rows) u (inr h) = omega (arith, later (suc high) rows u.2 h)

  says : (n : ℕ) (rows : List Row) → RowsRise n rows → (l : ℕ) → (SomeRow rows b bs → l ≡ length_in rows (b ∷ bs)) → RowsSay rows b bs l
  unfolding length_in
  says n [] u l e = tt
  says n ([] ∷ rows) u l e = absurd u
  says n ((low ⋯ high ∷ row) ∷ rows) u l e =
      let by_fit = λ (t : Bool). cond t (suc (length row)) (length_in rows (b ∷ bs)) in (
        λ h. e (inl h) ∙ ap by_fit (fits_on (low ⋯ high) row b bs (in_range_yes low high b h.0 h.1) ∙ fits row 0 bs h.2),
        says (suc high) rows u.2 l
            (λ h. e (inr h) ∙ ap by_fit (fits_off (low ⋯ high) row b bs (in_range_over low high b (later (suc high) rows u.2 h)))),
      )

  some : (rows : List Row) (n : ℕ) → RowsRise n rows → 0 < length_in rows (b ∷ bs) → SomeRow rows b bs
  unfolding length_in
  some [] n u h = absurd (omega arith)
  some ([] ∷ rows) n u h = absurd u
  some ((low ⋯ high ∷ row) ∷ rows) n u h = by_test (row_fits (low ⋯ high ∷ row) (b ∷ bs)) refl h (some rows (suc high) u.2)
    where
      by_test : (t : Bool) → row_fits (low ⋯ high ∷ row) (b ∷ bs) ≡ t → 0 < cond t (suc (length row)) (length_in rows (b ∷ bs))
          → (0 < length_in rows (b ∷ bs) → SomeRow rows b bs) → SomeRow ((low ⋯ high ∷ row) ∷ rows) b bs
      by_test true e h again = let w = first_of low high row b bs e in inl (w.0, w.1, found row 0 bs w.2)
      by_test false e h again = inr (again h)

  pub by_rows : RowsSay table_3_7 b bs (char_length (b ∷ bs)) × (0 < char_length (b ∷ bs) → SomeRow table_3_7 b bs)
  by_rows = (says 0 table_3_7 rows_rise (char_length (b ∷ bs)) (λ h. refl), some table_3_7 0 rows_rise)
