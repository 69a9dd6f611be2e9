-- The length of a character by its first byte's row.
use Rattle.std.specs.Prelude.{◌≡◌, refl, List, [], ◌∷◌, Bool, true, false, cond, ℕ, zero, suc, ◌≤◌, ◌<◌, length, get_or, drop}
use Rattle.std.proofs.Common.{sym, ◌∙◌, true≢false, arith}
use Rattle.utf8.specs.Table.{Range, ◌⋯◌, Row, table_3_7, in_range, agree, row_fits, length_in, char_length}
use Rattle.utf8.specs.TableLaws.{in_range_yes, in_range_under, in_range_over, fits_on, fits_off, fits_none, RowsRise, rows_rise}

-- the length of a character whose bytes after the first are those of the row, 0 where the bytes do not start so
abbrev pub tail_length : Row → List ℕ → ℕ
tail_length row bs = cond (row_fits row bs) (suc (length row)) 0

-- b lies in the first range of row i
abbrev pub FirstRow : ℕ → List Row → ℕ → Type 0
FirstRow i [] b = ⊥
FirstRow zero ([] ∷ rows) b = ⊥
FirstRow zero ((low ⋯ high ∷ row) ∷ rows) b = (low ≤ b) × (b ≤ high)
FirstRow (suc i) (row ∷ rows) b = FirstRow i rows b

-- b lies above the first ranges of i rows and below that of the next
abbrev pub Between : ℕ → List Row → ℕ → Type 0
Between i [] b = Unit {0}
Between i ([] ∷ rows) b = ⊥
Between zero ((low ⋯ high ∷ row) ∷ rows) b = b < low
Between (suc i) ((low ⋯ high ∷ row) ∷ rows) b = (high < b) × Between i rows b

-- no row from n on has a first byte below n
beyond : (n : ℕ) (rows : List Row) → RowsRise n rows → (b : ℕ) → b < n → (bs : List ℕ) → length_in rows (b ∷ bs) ≡ 0
unfolding length_in
beyond n [] u b h bs = refl
beyond n ([] ∷ rows) u b h bs = absurd u
beyond n ((low ⋯ high ∷ row) ∷ rows) u b h bs =
    rw (fits_off (low ⋯ high) row b bs (in_range_under low high b (omega arith))) (beyond (suc high) rows u.2 b (omega arith) bs)

from_n : (n : ℕ) (rows : List Row) → RowsRise n rows → (i b : ℕ) → FirstRow i rows b → n ≤ b
from_n n [] u i b f = absurd f
from_n n ([] ∷ rows) u i b f = absurd u
from_n n ((low ⋯ high ∷ row) ∷ rows) u zero b f = omega arith
from_n n ((low ⋯ high ∷ row) ∷ rows) u (suc i) b f = omega (arith, from_n (suc high) rows u.2 i b f)

in_row : (n : ℕ) (rows : List Row) → RowsRise n rows → (i b : ℕ) → FirstRow i rows b → (bs : List ℕ)
    → length_in rows (b ∷ bs) ≡ tail_length (drop 1 (get_or rows i [])) bs
unfolding length_in
in_row n [] u i b f bs = absurd f
in_row n ([] ∷ rows) u i b f bs = absurd u
in_row n ((low ⋯ high ∷ row) ∷ rows) u zero b f bs =
    rw (fits_on (low ⋯ high) row b bs (in_range_yes low high b f.0 f.1), beyond (suc high) rows u.2 b (omega arith) bs)
in_row n ((low ⋯ high ∷ row) ∷ rows) u (suc i) b f bs =
    rw (fits_off (low ⋯ high) row b bs (in_range_over low high b (from_n (suc high) rows u.2 i b f))) (in_row (suc high) rows u.2 i b f bs)

in_none : (n : ℕ) (rows : List Row) → RowsRise n rows → (i b : ℕ) → Between i rows b → (bs : List ℕ) → length_in rows (b ∷ bs) ≡ 0
unfolding length_in
in_none n [] u i b f bs = refl
in_none n ([] ∷ rows) u i b f bs = absurd u
in_none n ((low ⋯ high ∷ row) ∷ rows) u zero b f bs = beyond low ((low ⋯ high ∷ row) ∷ rows) (omega arith, u.1, u.2) b f bs
in_none n ((low ⋯ high ∷ row) ∷ rows) u (suc i) b f bs =
    rw (fits_off (low ⋯ high) row b bs (in_range_over low high b f.0)) (in_none (suc high) rows u.2 i b f.1 bs)

-- the character's length where its first byte is one of row i, and where it is one of no row
pub first_row : (i b : ℕ) (bs : List ℕ) → FirstRow i table_3_7 b → char_length (b ∷ bs) ≡ tail_length (drop 1 (get_or table_3_7 i [])) bs
first_row i b bs f = in_row 0 table_3_7 rows_rise i b f bs

pub no_row : (i b : ℕ) (bs : List ℕ) → Between i table_3_7 b → char_length (b ∷ bs) ≡ 0
no_row i b bs f = in_none 0 table_3_7 rows_rise i b f bs

-- a row's bytes one by one
pub fits_one : (r : Range) (b : ℕ) (bs : List ℕ) → row_fits (r ∷ []) (b ∷ bs) ≡ in_range r b
unfolding agree
fits_one r b bs = by_test (in_range r b) refl
  where
    by_test : (t : Bool) → in_range r b ≡ t → row_fits (r ∷ []) (b ∷ bs) ≡ in_range r b
    by_test true e = fits_on r [] b bs e ∙ sym e
    by_test false e = fits_off r [] b bs e ∙ sym e

pub fits_then : (r : Range) (row : Row) (bs : List ℕ) → row_fits (r ∷ []) bs ≡ true → row_fits (r ∷ row) bs ≡ row_fits row (drop 1 bs)
fits_then r row [] e = absurd (true≢false (sym e ∙ fits_none r []))
fits_then r row (b ∷ bs) e = fits_on r row b bs (sym (fits_one r b bs) ∙ e)

pub fits_not : (r : Range) (row : Row) (bs : List ℕ) → row_fits (r ∷ []) bs ≡ false → row_fits (r ∷ row) bs ≡ false
fits_not r row [] e = fits_none r row
fits_not r row (b ∷ bs) e = fits_off r row b bs (sym (fits_one r b bs) ∙ e)
