-- Laws of table 3-7: its sequences and the test for them agree, and no two rows share a first byte.
use Rattle.std.specs.Prelude.{◌≡◌, refl, List, [], ◌∷◌, ◌++◌, Bool, true, false, cond, ℕ, zero, suc, ◌≤◌, ◌<◌, leb, length, take}
use Rattle.std.proofs.Common.{sym, ap, ◌∙◌, true≢false, arith, le-leb, leb-true}
use Rattle.std.proofs.Math.Dec.{eqb-zero-suc, eqb-suc-suc}
use Rattle.std.proofs.Math.Bool.{and-false}
use Rattle.std.proofs.lemmas.Bool.{lt-leb, and_parts}
use Rattle.utf8.specs.Table.{Range, ◌⋯◌, Row, table_3_7, in_range, agree, row_fits, length_in, char_length}
use Rattle.utf8.specs.WellFormed.{Sequence, done, byte, Character, here, there}

-- a byte against a range
module _ (low high b : ℕ) where
  pub in_range_yes : low ≤ b → b ≤ high → in_range (low ⋯ high) b ≡ true
  in_range_yes l h = rw (le-leb low b l, le-leb b high h)

  pub in_range_under : b < low → in_range (low ⋯ high) b ≡ false
  in_range_under l = rw (lt-leb low b l)

  pub in_range_over : high < b → in_range (low ⋯ high) b ≡ false
  in_range_over h = rw (lt-leb b high h) (and-false (leb low b))

  pub bounds : in_range (low ⋯ high) b ≡ true → (low ≤ b) × (b ≤ high)
  bounds e = let w = and_parts (leb low b) (leb b high) e in (leb-true low b w.0, leb-true b high w.1)

-- a row by its first byte
module _ (r : Range) (row : Row) (b : ℕ) (bs : List ℕ) where
  pub fits_on : in_range r b ≡ true → row_fits (r ∷ row) (b ∷ bs) ≡ row_fits row bs
  unfolding agree
  fits_on e = rw (e, eqb-suc-suc)

  pub fits_off : in_range r b ≡ false → row_fits (r ∷ row) (b ∷ bs) ≡ false
  unfolding agree
  fits_off e = rw (e, eqb-zero-suc)

pub fits_none : (r : Range) (row : Row) → row_fits (r ∷ row) [] ≡ false
unfolding agree
fits_none r row = eqb-zero-suc (length row)

-- a row's sequences are what its test accepts
pub sequence_length : {row : Row} {c : List ℕ} → Sequence row c → length c ≡ length row
sequence_length done = refl
sequence_length (byte l h q) = ap suc (sequence_length q)

pub sequence_fits : {row : Row} {c : List ℕ} → Sequence row c → (s : List ℕ) → row_fits row (c ++ s) ≡ true
unfolding agree
sequence_fits done s = refl
sequence_fits (byte {low} {high} {b} {row} {bs} l h q) s =
    fits_on (low ⋯ high) row b (bs ++ s) (in_range_yes low high b l h) ∙ sequence_fits q s

abbrev Starts : Row → List ℕ → Type 0
Starts row s = (length row ≤ length s) × Sequence row (take (length row) s)

pub fits_sequence : (row : Row) (s : List ℕ) → row_fits row s ≡ true → Starts row s
fits_sequence [] s e = (omega arith, done)
fits_sequence (r ∷ row) [] e = absurd (true≢false (sym e ∙ fits_none r row))
fits_sequence (low ⋯ high ∷ row) (b ∷ bs) e = by_test (in_range (low ⋯ high) b) refl (fits_sequence row bs)
  where
    by_test : (t : Bool) → in_range (low ⋯ high) b ≡ t → (row_fits row bs ≡ true → Starts row bs) → Starts (low ⋯ high ∷ row) (b ∷ bs)
    by_test true i again =
        let w = bounds low high b i in
        let q = again (sym (fits_on (low ⋯ high) row b bs i) ∙ e) in
        (omega arith, byte w.0 w.1 q.1)
    by_test false i again = absurd (true≢false (sym e ∙ fits_off (low ⋯ high) row b bs i))

-- the first bytes of the rows lie from n on, each row's above those of the row before
abbrev pub RowsRise : ℕ → List Row → Type 0
RowsRise n [] = Unit {0}
RowsRise n ([] ∷ rows) = ⊥
RowsRise n ((low ⋯ high ∷ row) ∷ rows) = (n ≤ low) × (low ≤ high) × RowsRise (suc high) rows

pub rows_rise : RowsRise 0 table_3_7
unfolding table_3_7
rows_rise = omega arith

-- a sequence of a later row is none of this one
later : (low high : ℕ) (row : Row) {n : ℕ} {rows : List Row} {c : List ℕ} → high < n → RowsRise n rows → Character rows c → (s : List ℕ)
    → row_fits (low ⋯ high ∷ row) (c ++ s) ≡ false
later low high row a u (here done) s = absurd u
later low high row a u (here (byte {b = b} {bs = bs} l h q)) s = fits_off (low ⋯ high) row b (bs ++ s) (in_range_over low high b (omega arith))
later low high row a u (there {row = []} k) s = absurd u
later low high row a u (there {row = low' ⋯ high' ∷ row'} k) s = later low high row (omega arith) u.2 k s

length_in_lem : (n : ℕ) {rows : List Row} {c : List ℕ} → RowsRise n rows → Character rows c → (s : List ℕ) → length_in rows (c ++ s) ≡ length c
unfolding length_in
length_in_lem n u (here q) s = rw (sequence_fits q s) (sym (sequence_length q))
length_in_lem n u (there {row = []} k) s = absurd u
length_in_lem n u (there {row = low ⋯ high ∷ row} k) s = rw (later low high row (omega arith) u.2 k s) (length_in_lem (suc high) u.2 k s)

-- bytes that start with a character have its length
pub char_length_lem : {c : List ℕ} → Character table_3_7 c → (s : List ℕ) → char_length (c ++ s) ≡ length c
char_length_lem k s = length_in_lem 0 rows_rise k s

abbrev Led : List Row → List ℕ → ℕ → Type 0
Led rows s k = (suc k ≤ length s) × Character rows (take (suc k) s)

in_rows : (rows : List Row) (s : List ℕ) (k : ℕ) → length_in rows s ≡ suc k → Led rows s k
unfolding length_in
in_rows [] s k e = absurd (omega arith)
in_rows (row ∷ rows) s k e = by_test (row_fits row s) refl e (in_rows rows s k)
  where
    by_test : (t : Bool) → row_fits row s ≡ t → cond t (length row) (length_in rows s) ≡ suc k → (length_in rows s ≡ suc k → Led rows s k)
        → Led (row ∷ rows) s k
    by_test true f e again = let q = fits_sequence row s f in (omega arith, here (rw e at q.1))
    by_test false f e again = let q = again e in (q.0, there q.1)

-- bytes that have a length start with a character of that length
pub char_of_length : (s : List ℕ) (k : ℕ) → char_length s ≡ suc k → (suc k ≤ length s) × Character table_3_7 (take (suc k) s)
char_of_length s k e = in_rows table_3_7 s k e

pub char_within : (s : List ℕ) → char_length s ≤ length s
char_within s = by_length (char_length s) refl
  where
    by_length : (l : ℕ) → char_length s ≡ l → l ≤ length s
    by_length zero e = omega arith
    by_length (suc k) e = (char_of_length s k e).0

-- no character is empty
some_byte : (n : ℕ) {rows : List Row} {c : List ℕ} → RowsRise n rows → Character rows c → 0 < length c
some_byte n u (here done) = absurd u
some_byte n u (here (byte l h q)) = omega arith
some_byte n u (there {row = []} k) = absurd u
some_byte n u (there {row = low ⋯ high ∷ row} k) = some_byte (suc high) u.2 k

pub char_some : {c : List ℕ} → Character table_3_7 c → 0 < length c
char_some k = some_byte 0 rows_rise k
