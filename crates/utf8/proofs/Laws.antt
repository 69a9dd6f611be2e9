-- The definitions at an offset of the source. Assumes nothing.
use mathlib.Core.Path.{◌≡◌, refl, sym, ap, ◌∙◌, subst}
use mathlib.Core.List.{List, [], ◌∷◌}
use Prim.Native.Nat.{ℕ, zero, suc, ◌+◌, ◌-◌, ◌*◌, ◌/◌, ◌≤◌, ◌<◌}
use native.Mathlib.Omega.{arith}
use native.Mathlib.Numerals.{add-one}
use native.Mathlib.Nat.{add-zero}
use lib.ListN.{length, get_or, take, drop, length-drop, drop_of_length-le}
use lib.Seq.{drop-cons, drop-drop}
use Rattle.std.specs.Prelude.{Ok, Err}
use Rattle.std.specs.Simd.{first_chunks}
use Rattle.std.proofs.lemmas.List.{take_rest, get_or-take, get_or-drop}
use Rattle.utf8.specs.Table.{table_3_7, agree, char_length}
use Rattle.utf8.specs.TableLaws.{char_within}
use Rattle.utf8.specs.Rows.{first_row}
use Rattle.utf8.specs.Validate.{error_at, validate_from}
use Rattle.utf8.specs.Passes.{Passes}
use Rattle.utf8.specs.Laws.{steps, stops}

module _ (s : List ℕ) (at : ℕ) where
  pub next_byte : at < length s → drop at s ≡ get_or s at 0 ∷ drop (at + 1) s
  next_byte h = rw (add-one, drop-cons s at 0)

  -- the first byte and those behind it as the code reads them
  first_and_tail : at < length s → get_or s at 0 ∷ take (length s - (at + 1)) (drop (at + 1) s) ≡ drop at s
  first_and_tail h = rw take_rest (sym (next_byte h))

  ascii_length : at < length s → get_or s at 0 < 0x80 → char_length (drop at s) ≡ 1
  unfolding table_3_7 agree
  ascii_length h b = rw (next_byte h) (first_row 0 (get_or s at 0) (drop (at + 1) s) (omega arith))

  -- no step; a character's bytes
  passes_none : at ≤ length s → Passes s at at
  passes_none h = record { forth = omega arith; within = h; same = refl }

  passes_char : (n : ℕ) → at ≤ length s → 0 < n → char_length (drop at s) ≡ n → Passes s at (at + n)
  passes_char zero h p e = absurd (omega arith)
  passes_char (suc k) h p e =
      record {
        forth = omega arith;
        within = omega (arith, char_within (drop at s), length-drop at s);
        same = steps at (drop at s) k e ∙ ap (λ (l : List ℕ). validate_from 0 (at + suc k) l) (drop-drop (suc k) at s);
      }

  -- the answer at the end, and where no character stands
  pub ends : length s ≤ at → validate_from 0 at (drop at s) ≡ Ok tt
  unfolding validate_from
  ends h = rw (drop_of_length-le s h)

  pub stops_at : at < length s → char_length (drop at s) ≡ 0 → validate_from 0 at (drop at s) ≡ Err (error_at at (drop at s))
  stops_at h e = stops at (drop at s) (omega (arith, length-drop at s)) e

pub passes_both : {s : List ℕ} {a b c : ℕ} → Passes s a b → Passes s b c → Passes s a c
passes_both p q = record { forth = omega arith; within = q.within; same = p.same ∙ q.same }

-- one character more
pub passes_next : {s : List ℕ} {a b n : ℕ} → Passes s a b → b < length s
    → (0 < char_length (get_or s b 0 ∷ take (length s - (b + 1)) (drop (b + 1) s)))
    × (n ≡ char_length (get_or s b 0 ∷ take (length s - (b + 1)) (drop (b + 1) s)))
    → Passes s a (b + n)
passes_next {s} {b = b} {n = n} p h l =
    let k = rw (first_and_tail s b h) at l in
    passes_both p (passes_char s b n p.within (omega arith) (sym k.1))

-- no character at the next byte
pub none_next : (s : List ℕ) (b : ℕ) → b < length s
    → (0 < char_length (get_or s b 0 ∷ take (length s - (b + 1)) (drop (b + 1) s)) → ⊥) → char_length (drop b s) ≡ 0
none_next s b h none = by_length (char_length (drop b s)) (rw (first_and_tail s b h) at none)
  where
    by_length : (n : ℕ) → (0 < n → ⊥) → n ≡ 0
    by_length zero k = refl
    by_length (suc n) k = absurd (k (omega arith))

-- a run of ASCII
passes_ascii : (s : List ℕ) (n at : ℕ) → at + n ≤ length s → ((k : ℕ) → k < n → get_or s (at + k) 0 < 0x80) → Passes s at (at + n)
passes_ascii s zero at h a = rw add-zero (passes_none s at (omega arith))
passes_ascii s (suc n) at h a =
    let b : get_or s at 0 < 0x80 = rw add-zero at (a 0 (omega arith)) in
    let first = passes_char s at 1 (omega arith) (omega arith) (ascii_length s at (omega arith) b) in
    let rest = passes_ascii s n (at + 1) (omega arith) (λ k i. subst (λ (m : ℕ). get_or s m 0 < 0x80) (omega arith) (a (suc k) (omega arith))) in
    subst (λ (m : ℕ). Passes s at m) (omega arith) (passes_both first rest)

-- a byte of a block of 64, and a block of ASCII more
block_byte : (n : ℕ) (s : List ℕ) (i k : ℕ) → i < n → k < 64 → get_or (get_or (first_chunks 64 n s) i []) k 0 ≡ get_or s (64 * i + k) 0
block_byte zero s i k h j = absurd (omega arith)
block_byte (suc n) s zero k h j = get_or-take 64 s k 0 j ∙ ap (λ (m : ℕ). get_or s m 0) (omega arith)
block_byte (suc n) s (suc i) k h j =
    block_byte n (drop 64 s) i k (omega arith) j ∙ get_or-drop 64 s (64 * i + k) 0 ∙ ap (λ (m : ℕ). get_or s m 0) (omega arith)

pub passes_block : {s : List ℕ} {a i : ℕ} {blocks : List (List ℕ)}
    → blocks ≡ first_chunks 64 (length (take (length s - a) (drop a s)) / 64) (take (length s - a) (drop a s))
    → length blocks ≡ length (take (length s - a) (drop a s)) / 64 → i < length blocks → Passes s a (a + 64 * i)
    → ((k : ℕ) → k < 64 → get_or (get_or blocks i []) k 0 < 0x80) → Passes s a (a + 64 * (i + 1))
passes_block {s} {a} {i} {blocks} e n j p b =
    let bytes = rw take_rest at e in
    let many = rw take_rest at n in
    let rest = length-drop a s in
    let here : (k : ℕ) → k < 64 → get_or (get_or blocks i []) k 0 ≡ get_or s (a + 64 * i + k) 0 = λ k l.
    ap (λ (bs : List (List ℕ)). get_or (get_or bs i []) k 0) bytes
    ∙ block_byte (length (drop a s) / 64) (drop a s) i k (omega arith) l
    ∙ get_or-drop a s (64 * i + k) 0
    ∙ ap (λ (m : ℕ). get_or s m 0) (omega arith) in
    let next : Passes s (a + 64 * i) (a + 64 * i + 64) = passes_ascii s 64 (a + 64 * i) (omega arith) (λ k l. rw (here k l) at (b k l)) in
    subst (λ (m : ℕ). Passes s a m) (omega arith) (passes_both p next)
