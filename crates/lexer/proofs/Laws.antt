-- Laws that the functions' proofs share: a table's entry, and what stands at an offset of the source. Assumes nothing.
use mathlib.Core.Path.{◌≡◌, refl, sym, ap, ◌∙◌}
use mathlib.Core.Bool.{Bool, true, false, not, cond, false≢true}
use mathlib.Core.List.{List, [], ◌∷◌}
use Prim.Native.Nat.{ℕ, zero, suc, ◌+◌, ◌≤◌, ◌<◌}
use native.Mathlib.Nat.{add-zero, zero-add, add-suc, suc-add, add_assoc, le_of_suc-le-suc, not-suc-le-zero}
use native.Mathlib.Numerals.{one-add}
use native.Mathlib.Omega.{arith}
use borrow.Author.Tests.{ltb-true, ltb-false, eq-eqb, ne_eqb}
use denote.Bor.{Bor}
use Rattle.std.proofs.Common.{Option, Some, None}
use Rattle.std.specs.Option.{is_some, unwrap_or, option_map}
use Rattle.std.specs.List.{position_or_len}
use Rattle.std.proofs.lemmas.List.Recursion.{is_position_or_len}
use lib.Dec.{ltb}
use lib.ListN.{length, get_or, drop, drop_of_length-le}
use lib.Seq.{drop-drop}
-- the byte at an offset, and those behind it
pub use Rattle.utf8.proofs.Laws.{next_byte}
use Rattle.lexer.specs.Chars.{tabulate}
use Rattle.lexer.specs.Lexer.{LexRule, later, follow, advance_while}
use Rattle.lexer.specs.Code.{Placed, placed, starts_with, AllHold}

from : (f : ℕ → ℕ) (i n k : ℕ) → k < n → get_or (tabulate f i n) k 0 ≡ f (i + k)
from f i zero k h = absurd (not-suc-le-zero h)
from f i (suc n) zero h = ap f (sym (add-zero i))
from f i (suc n) (suc k) h = from f (suc i) n k (le_of_suc-le-suc h) ∙ ap f (suc-add i k ∙ sym (add-suc i k))

-- the entry at k of the table of f is f at k
pub entry : (f : ℕ → ℕ) (n k : ℕ) → k < n → get_or (tabulate f 0 n) k 0 ≡ f k
entry f n k h = from f 0 n k h ∙ ap f (zero-add k)

-- advance_while, at a byte that goes on and at another
module _ (p : ℕ → Bool) (s : List ℕ) (at : ℕ) where
  run_more : at < length s → p (get_or s at 0) ≡ true → advance_while p (drop at s) ≡ suc (advance_while p (drop (at + 1) s))
  unfolding advance_while
  run_more h e = rw (next_byte s at h, e)

  run_stop : at < length s → p (get_or s at 0) ≡ false → advance_while p (drop at s) ≡ 0
  unfolding advance_while
  run_stop h e = rw (next_byte s at h, e)

-- how many bytes stand before the first one that does not go on
module _ (p : ℕ → Bool) where
  at_position : (r : List ℕ) → advance_while p r ≡ position_or_len (λ b. not (p b)) r
  unfolding advance_while
  at_position = is_position_or_len (advance_while p) (λ b. not (p b)) refl (λ b r. by_test (p b) (advance_while p r))
    where
      by_test : (t : Bool) (n : ℕ) → cond t (suc n) 0 ≡ cond (not t) 0 (1 + n)
      by_test true n = omega arith
      by_test false n = refl

  run_within : (r : List ℕ) → advance_while p r ≤ length r
  unfolding advance_while
  run_within [] = omega arith
  run_within (b ∷ r) = by_test (p b) (run_within r)
    where
      by_test : (t : Bool) → advance_while p r ≤ length r → cond t (suc (advance_while p r)) 0 ≤ suc (length r)
      by_test true h = omega arith
      by_test false h = omega arith

  pub run_to_position : (r : List ℕ) (found : Option ℕ) → found ≡ cond (ltb (position_or_len (λ b. not (p b)) r) (length r)) (Some (position_or_len (λ b. not (p b)) r)) None
      → unwrap_or found (length r) ≡ advance_while p r
  run_to_position r found e = ap (λ (o : Option ℕ). unwrap_or o (length r)) e ∙ by_test (ltb k (length r)) refl ∙ sym (at_position r)
    where
      k : ℕ
      k = position_or_len (λ b. not (p b)) r

      by_test : (t : Bool) → ltb k (length r) ≡ t → unwrap_or (cond t (Some k) None) (length r) ≡ k
      by_test true h = refl
      by_test false h = omega (arith, ltb-false k (length r) h, run_within r, at_position r)

-- the run from `a` on comes to `at`
pub record Reaches (p : ℕ → Bool) (s : List ℕ) (a at : ℕ) : Type 0 where
  pub within : at ≤ length s
  pub goes : a + advance_while p (drop a s) ≡ at + advance_while p (drop at s)

-- a byte further, and the end of the run
module _ {p : ℕ → Bool} {s : List ℕ} {a at : ℕ} (g : Reaches p s a at) (h : at < length s) where
  pub reaches_next : {n : ℕ} → n ≡ at + 1 → p (get_or s at 0) ≡ true → Reaches p s a n
  reaches_next {n} q e = rw q (record { within = omega arith; goes = omega (arith, run_more p s at h e) })

  pub reaches_end : p (get_or s at 0) ≡ false → at ≡ a + advance_while p (drop a s)
  reaches_end e = omega (arith, run_stop p s at h e)

-- what `get` gives of the source: the byte there, or nothing behind the end
module _ (s : List ℕ) (at : ℕ) where
  pub got_some : (r : Option (Bor ℕ)) (v : Bor ℕ) → is_some r ≡ ltb at (length s) → unwrap_or (option_map (λ w. w.now) r) 0 ≡ get_or s at 0
      → r ≡ Some v → drop at s ≡ v.now ∷ drop (at + 1) s
  got_some r v p q e =
      let within : ltb at (length s) ≡ true = sym p ∙ ap is_some e in
      let byte : v.now ≡ get_or s at 0 = sym (ap (λ (o : Option (Bor ℕ)). unwrap_or (option_map (λ w. w.now) o) 0) e) ∙ q in
      next_byte s at (ltb-true at (length s) within) ∙ ap (λ (b : ℕ). b ∷ drop (at + 1) s) (sym byte)

  pub got_none : (r : Option (Bor ℕ)) → is_some r ≡ ltb at (length s) → r ≡ None → drop at s ≡ []
  got_none r p e = drop_of_length-le s (ltb-false at (length s) (sym p ∙ ap is_some e))

-- whether x stands at an offset
module _ (s : List ℕ) (at x : ℕ) where
  pub stands : at < length s → get_or s at 0 ≡ x → starts_with x (drop at s) ≡ true
  unfolding starts_with
  stands h e = ap (starts_with x) (next_byte s at h) ∙ eq-eqb _ x e

  pub stands_not : at < length s → (get_or s at 0 ≡ x → ⊥) → starts_with x (drop at s) ≡ false
  unfolding starts_with
  stands_not h n = ap (starts_with x) (next_byte s at h) ∙ ne_eqb _ x n

  pub stands_none : length s ≤ at → starts_with x (drop at s) ≡ false
  unfolding starts_with
  stands_none h = ap (starts_with x) (drop_of_length-le s h)

-- the byte x follows, or not
module _ (x : ℕ) (f g : LexRule) where
  yes : (r : List ℕ) → starts_with x r ≡ true → follow x f g r ≡ later (f (drop 1 r))
  unfolding starts_with follow
  yes [] e = absurd (false≢true e)
  yes (b ∷ r) e = rw e

  pub follow_no : (r : List ℕ) → starts_with x r ≡ false → follow x f g r ≡ g r
  unfolding starts_with follow
  follow_no [] e = refl
  follow_no (b ∷ r) e = rw e

  pub follow_yes : (s : List ℕ) (at : ℕ) → starts_with x (drop at s) ≡ true → follow x f g (drop at s) ≡ later (f (drop (at + 1) s))
  follow_yes s at e = yes (drop at s) e ∙ ap (λ (r : List ℕ). later (f r)) (drop-drop 1 at s)

  -- the same, as a token in its place
  pub placed_yes : (s : List ℕ) (at : ℕ) → starts_with x (drop at s) ≡ true → placed (at + 1) (f (drop (at + 1) s)) ≡ placed at (follow x f g (drop at s))
  placed_yes s at e =
      ap (λ (n : ℕ). record { kind = (f (drop (at + 1) s)).kind; end = n }) (omega arith)
      ∙ ap (placed at) (sym (follow_yes s at e))

-- a token of one byte in its place
pub one_here : (k n : ℕ) → ◌≡◌ {A = Placed} (record { kind = k; end = n }) (placed n (record { kind = k; more = 0 }))
one_here k n = ap (λ (m : ℕ). record { kind = k; end = m }) (omega arith)

pub placed_no : (x : ℕ) (f g : LexRule) (n : ℕ) (r : List ℕ) → starts_with x r ≡ false → placed n (g r) ≡ placed n (follow x f g r)
placed_no x f g n r e = ap (placed n) (sym (follow_no x f g r e))

-- a run goes over bytes that all hold
run_over : (p : ℕ → Bool) (s : List ℕ) (n at : ℕ) → at + n ≤ length s → AllHold p s at n → advance_while p (drop at s) ≡ n + advance_while p (drop (at + n) s)
run_over p s zero at h all = rw (add-zero, zero-add)
run_over p s (suc n) at h all =
    let e = run_more p s at (omega arith) (rw add-zero at (all 0 (omega arith))) in
    let i = run_over p s n (at + 1) (omega arith) (λ k l. rw (add_assoc, one-add) (all (suc k) (omega arith))) in
    e ∙ ap suc i ∙ rw (add_assoc, one-add, suc-add)

pub reaches_over : {p : ℕ → Bool} {s : List ℕ} {a at : ℕ} → Reaches p s a at → (n : ℕ) → at + n ≤ length s → AllHold p s at n → Reaches p s a (at + n)
reaches_over {p} {s} {a} {at} g n h all = record { within = h; goes = omega (arith, run_over p s n at h all) }
