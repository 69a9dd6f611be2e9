-- The second number that is computed is the declared one, and no other is.
use Rattle.std.specs.Prelude.{◌≡◌, refl, List, [], ◌∷◌, ◌++◌, Bool, true, false, cond, ℕ, zero, suc, ◌≤◌, ◌<◌, eqb, leb, max, min, pred, length, take}
use Rattle.std.proofs.Common.{sym, ap, ◌∙◌, inl, inr, arith, leb-true, leb-false, length-append, length-take-le}
use Rattle.std.proofs.lemmas.Bool.{eq-eqb}
use Rattle.std.proofs.lemmas.Bool.Decides.{eqb_tells}
use Rattle.std.proofs.Math.Seq.{take-length}
use Rattle.utf8.specs.Table.{◌⋯◌, Row, table_3_7, in_range, agree}
use Rattle.utf8.specs.TableLaws.{in_range_yes, bounds, sequence_length}
use Rattle.utf8.specs.WellFormed.{Sequence, done, byte, Character, here, there}
use Rattle.utf8.specs.ErrorLen.{ProperStart, LongestStart, ErrorLen, cut_off, longest_start, no_start, start_in, start_length, error_len}

-- no range of the table is empty
abbrev RowFilled : Row → Type 0
RowFilled [] = Unit {0}
RowFilled (low ⋯ high ∷ row) = (low ≤ high) × RowFilled row

abbrev Filled : List Row → Type 0
Filled [] = Unit {0}
Filled (row ∷ rows) = RowFilled row × Filled rows

filled : Filled table_3_7
unfolding table_3_7
filled = omega arith

-- bytes in front of a row's sequence lie in its ranges
sequence_agrees : {row : Row} (n : ℕ) (bs rest : List ℕ) → n ≤ length bs → Sequence row (take n bs ++ rest) → n ≤ agree row bs
unfolding agree
sequence_agrees zero bs rest h q = omega arith
sequence_agrees (suc n) [] rest h q = absurd (omega arith)
sequence_agrees (suc n) (b ∷ bs) rest h (byte {low} {high} {row = row} l u q) =
    rw (in_range_yes low high b l u) (omega (arith, sequence_agrees n bs rest (omega arith) q))

agree_within : (row : Row) (bs : List ℕ) → agree row bs ≤ length bs
unfolding agree
agree_within [] bs = omega arith
agree_within (r ∷ row) [] = omega arith
agree_within (r ∷ row) (b ∷ bs) = by_test (in_range r b) (agree_within row bs)
  where
    by_test : (t : Bool) → agree row bs ≤ length bs → cond t (suc (agree row bs)) 0 ≤ length (b ∷ bs)
    by_test true h = omega arith
    by_test false h = omega arith

-- bytes that lie in a row's ranges can be completed to its sequence
completed : (row : Row) (n : ℕ) (bs : List ℕ) → RowFilled row → n ≤ agree row bs → (rest : List ℕ) × Sequence row (take n bs ++ rest)
unfolding agree
completed [] zero bs f h = ([], done)
completed [] (suc n) bs f h = absurd (omega arith)
completed (low ⋯ high ∷ row) zero bs f h =
    let w = completed row zero bs f.1 (omega arith) in
    (low ∷ w.0, byte (omega arith) f.0 w.1)
completed (low ⋯ high ∷ row) (suc n) [] f h = absurd (omega arith)
completed (low ⋯ high ∷ row) (suc n) (b ∷ bs) f h = by_test (in_range (low ⋯ high) b) refl h (completed row n bs f.1)
  where
    by_test : (t : Bool) → in_range (low ⋯ high) b ≡ t → suc n ≤ cond t (suc (agree row bs)) 0
        → (n ≤ agree row bs → (rest : List ℕ) × Sequence row (take n bs ++ rest))
        → (rest : List ℕ) × Sequence (low ⋯ high ∷ row) (b ∷ take n bs ++ rest)
    by_test true i h again =
        let w = again (omega arith) in
        let v = bounds low high b i in
        (w.0, byte v.0 v.1 w.1)
    by_test false i h again = absurd (omega arith)

-- of the rows: a proper start is no longer than what is computed
module _ (n : ℕ) (bs rest : List ℕ) (within : n ≤ length bs) (proper : 0 < length rest) where
  rows_agree : {rows : List Row} {c : List ℕ} → Character rows c → c ≡ take n bs ++ rest → n ≤ start_in rows bs
  unfolding start_in
  rows_agree (here {row} {rows} q) e =
      let a = sequence_agrees n bs rest within (rw e at q) in
      omega (arith, a, sequence_length q, ap length e, length-append (take n bs) rest, length-take-le n bs within)
  rows_agree (there {row} {rows} k) e = omega (arith, rows_agree k e)

-- and what is computed can be completed
rows_completed : (rows : List Row) (n : ℕ) (bs : List ℕ) → Filled rows → 0 < n → n ≤ start_in rows bs
    → (rest : List ℕ) × (0 < length rest) × Character rows (take n bs ++ rest)
unfolding start_in
rows_completed [] n bs f p h = absurd (omega arith)
rows_completed (row ∷ rows) n bs f p h = by_row (leb n (min (agree row bs) (pred (length row)))) refl (rows_completed rows n bs f.1 p)
  where
    least : ℕ
    least = min (agree row bs) (pred (length row))

    by_row : (t : Bool) → leb n least ≡ t → (n ≤ start_in rows bs → (rest : List ℕ) × (0 < length rest) × Character rows (take n bs ++ rest))
        → (rest : List ℕ) × (0 < length rest) × Character (row ∷ rows) (take n bs ++ rest)
    by_row true t again =
        let u = leb-true n least t in
        let w = completed row n bs f.0 (omega arith) in
        let l = length-take-le n bs (omega (arith, agree_within row bs)) in
        (w.0, omega (arith, l, sequence_length w.1, length-append (take n bs) w.0), here w.1)
    by_row false t again = let u = leb-false n least t in let w = again (omega arith) in (w.0, w.1, there w.2)

start_within : (rows : List Row) (bs : List ℕ) → start_in rows bs ≤ length bs
unfolding start_in
start_within [] bs = omega arith
start_within (row ∷ rows) bs = omega (arith, agree_within row bs, start_within rows bs)

-- no proper start has four bytes
pub few_starts : (bs : List ℕ) → start_length bs ≤ 3
unfolding start_in table_3_7
few_starts bs = omega arith

module _ (bs : List ℕ) where
  -- the first n bytes are a proper start exactly where n is not 0 and not above what is computed
  proper_start : (n : ℕ) → 0 < n → n ≤ start_length bs → ProperStart (take n bs)
  proper_start n p h =
      let w = rows_completed table_3_7 n bs filled p h in
      record {
        rest = w.0;
        sequence = w.2;
        begun = omega (arith, length-take-le n bs (omega (arith, start_within table_3_7 bs)));
        proper = w.1;
      }

  start_most : (n : ℕ) → n ≤ length bs → ProperStart (take n bs) → n ≤ start_length bs
  start_most n h p = rows_agree n bs p.rest h p.proper p.sequence refl

  whole_start : ProperStart bs → start_length bs ≡ length bs
  whole_start p = omega (arith, start_within table_3_7 bs, start_most (length bs) (omega arith) (rw take-length p))

  start_whole : 0 < length bs → start_length bs ≡ length bs → ProperStart bs
  start_whole h e = rw take-length at (proper_start (length bs) h (omega (arith, e)))

  -- the computed number where the bytes are a proper start, and where they are none
  pub zero_of_start : ProperStart bs → error_len bs ≡ 0
  zero_of_start p = rw (eq-eqb (start_length bs) (length bs) (whole_start p)) refl

  not_cut : 0 < length bs → (ProperStart bs → ⊥) → error_len bs ≡ max 1 (start_length bs)
  not_cut h np = elim (eqb_tells (start_length bs) (length bs)) [ inl w ↦ absurd (np (start_whole h w.1)) | inr w ↦ rw (w.0) refl ]

  longest_is : (n : ℕ) → LongestStart bs n → n ≡ max 1 (start_length bs)
  longest_is n w =
      let begun = w.start.begun in
      let l = length-take-le n bs w.within in
      let least = start_most n w.within w.start in
      let most = w.most (start_length bs) (start_within table_3_7 bs) (proper_start (start_length bs) (omega arith) (omega arith)) in
      omega (arith, most)

  none_found : ((m : ℕ) → m ≤ length bs → ProperStart (take m bs) → ⊥) → start_length bs ≡ 0
  none_found nm = by_length (start_length bs) refl
    where
      by_length : (n : ℕ) → start_length bs ≡ n → n ≡ 0
      by_length zero e = refl
      by_length (suc n) e =
          absurd (nm (start_length bs) (start_within table_3_7 bs) (proper_start (start_length bs) (omega (arith, e)) (omega arith)))

  -- The declared number is the one computed, and no other is.
  pub error_len_only : (n : ℕ) → 0 < length bs → ErrorLen bs n → n ≡ error_len bs
  error_len_only n h (cut_off p) = sym (zero_of_start p)
  error_len_only n h (longest_start np w) = longest_is n w ∙ sym (not_cut h np)
  error_len_only n h (no_start np nm) = sym (not_cut h np ∙ ap (λ (m : ℕ). max 1 m) (none_found nm))

  by_start : (n : ℕ) → start_length bs ≡ n → (ProperStart bs → ⊥) → ErrorLen bs (max 1 n)
  by_start zero l np = no_start np (λ m j p. absurd (omega (arith, start_most m j p, p.begun, length-take-le m bs j)))
  by_start (suc n) l np =
      longest_start np record {
        within = omega (arith, start_within table_3_7 bs);
        start = proper_start (max 1 (suc n)) (omega arith) (omega arith);
        most = λ m j p. omega (arith, start_most m j p);
      }

  pub error_len_is : 0 < length bs → ErrorLen bs (error_len bs)
  error_len_is h =
      elim (eqb_tells (start_length bs) (length bs)) [
        | inl w ↦ rw (w.0) (cut_off (start_whole h w.1))
        | inr w ↦ rw (w.0) (by_start (start_length bs) refl (λ p. w.1 (whole_start p)))
      ]

  pub start_of_zero : 0 < length bs → error_len bs ≡ 0 → ProperStart bs
  start_of_zero h e =
      elim (eqb_tells (start_length bs) (length bs)) [ inl w ↦ start_whole h w.1 | inr w ↦ absurd (omega (arith, rw (w.0) at e)) ]

  pub error_len_few : error_len bs ≤ 3
  error_len_few = by_end (eqb (start_length bs) (length bs))
    where
      by_end : (t : Bool) → cond t 0 (max 1 (start_length bs)) ≤ 3
      by_end true = omega arith
      by_end false = omega (arith, few_starts bs)

-- There must be a byte: of none the declared number is 1, and the computed one 0.
none_at_all : ErrorLen [] 1 × (error_len [] ≡ 0)
unfolding start_in table_3_7 agree
none_at_all =
    let some : (m : ℕ) → m ≤ 0 → ProperStart (take m []) → ⊥ = λ m h p. absurd (omega (arith, p.begun, length-take-le {A = ℕ} m [] h)) in
    (no_start (λ p. absurd (omega (arith, p.begun))) some, refl)
