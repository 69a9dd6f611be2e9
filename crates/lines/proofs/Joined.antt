-- Lines of joined texts. Where the first ends in LF, what stands in it keeps its lines and columns, and of what stands in the second the lines
-- go up by the line ends of the first, and the columns stay.
-- Assumes nothing.
use Rattle.std.specs.Prelude.{ℕ, zero, suc, ◌+◌, ◌-◌, ◌≤◌, ◌<◌, ◌≡◌, refl, Bool, true, false, cond, List, [], ◌∷◌, ◌++◌, length, get_or, map, min}
use Rattle.std.proofs.Common.{sym, ap, ap₂, subst, ◌∙◌, arith, ◌⊎◌, inl, inr, add-zero, length-append}
use Rattle.std.proofs.lemmas.List.{length-map, get_or-append-add, get_or_append_left}
use Rattle.std.proofs.Math.Nat.{eq-or-lt_of_le}
use Rattle.lexer.specs.Laws.{last}
use Rattle.lines.specs.JoinedLines.{line_ends_in, NoneAbove}
use Rattle.lines.specs.MasmLines.{at_offsets}
use Rattle.lines.specs.Ends.{completed, ends_by, line, column}

last_byte : (d : ℕ) (a : List ℕ) (n : ℕ) → suc n ≡ length a → get_or a n 0 ≡ last d a
last_byte d [] n e = absurd (omega (arith, e))
last_byte d (x ∷ []) zero e = refl
last_byte d (x ∷ []) (suc n) e = absurd (omega (arith, e))
last_byte d (x ∷ y ∷ a) zero e = absurd (omega (arith, e))
last_byte d (x ∷ y ∷ a) (suc n) e = last_byte x (y ∷ a) n (omega (arith, e))

-- a line end more, as `ends_by` has it
abbrev one_more : Bool → ℕ → List ℕ → List ℕ
one_more u e l = cond u (e ∷ l) l

-- moved on by m, before others
moved_on : (m e : ℕ) (u : Bool) (l r : List ℕ) → one_more u (m + e) (map (λ n. m + n) l ++ r) ≡ map (λ n. m + n) (one_more u e l) ++ r
moved_on m e true l r = refl
moved_on m e false l r = refl

module _ (a b : List ℕ) (line_feed : last 0 a ≡ 10) where
  first_completed : (o : ℕ) → o ≤ length a → completed (a ++ b) o ≡ completed a o
  first_completed zero h = refl
  first_completed (suc n) h = by_place (get_or_append_left a b 0 n (omega arith)) (eq-or-lt_of_le h)
    where
      by_place : get_or (a ++ b) n 0 ≡ get_or a n 0 → (suc n ≡ length a) ⊎ (suc n < length a) → completed (a ++ b) (suc n) ≡ completed a (suc n)
      by_place e (inl k) = rw (e, last_byte 0 a n k, line_feed) refl
      by_place e (inr k) = rw (e, get_or_append_left a b 0 (suc n) k) refl

  behind : (n : ℕ) → length a + suc n ≡ suc (length a + n)
  behind n = omega arith

  second_completed : (n : ℕ) → completed (a ++ b) (suc (length a + n)) ≡ completed b (suc n)
  second_completed n =
      rw (get_or-append-add a b n 0, ap (λ (i : ℕ). get_or (a ++ b) i 0) (sym (behind n)) ∙ get_or-append-add a b (suc n) 0) refl

  pub first_ends : (o : ℕ) → o ≤ length a → ends_by (a ++ b) o ≡ ends_by a o
  first_ends zero h = refl
  first_ends (suc n) h = ap₂ (λ (u : Bool) (l : List ℕ). one_more u (suc n) l) (first_completed (suc n) h) (first_ends n (omega arith))

  pub second_ends : (o : ℕ) → ends_by (a ++ b) (length a + o) ≡ map (λ e. length a + e) (ends_by b o) ++ ends_by a (length a)
  second_ends zero = ap (ends_by (a ++ b)) (add-zero (length a)) ∙ first_ends (length a) (omega arith)
  second_ends (suc n) =
      ap (ends_by (a ++ b)) (behind n)
      ∙ ap₂ (λ (u : Bool) (l : List ℕ). one_more u (suc (length a + n)) l) (second_completed n) (second_ends n)
      ∙ ap (λ (e : ℕ). one_more (completed b (suc n)) e (map (λ e. length a + e) (ends_by b n) ++ ends_by a (length a))) (sym (behind n))
      ∙ moved_on (length a) (suc n) (completed b (suc n)) (ends_by b n) (ends_by a (length a))

  -- A's lines and columns stay.
  pub first_line : (o : ℕ) → o ≤ length a → line (a ++ b) o ≡ line a o
  first_line o h = ap (λ (l : List ℕ). 1 + length l) (first_ends o h)

  pub first_column : (o : ℕ) → o ≤ length a → column (a ++ b) o ≡ column a o
  first_column o h = ap (λ (l : List ℕ). 1 + (o - get_or l 0 0)) (first_ends o h)

  -- B's lines go up by the line ends of A, and its columns stay.
  pub second_line : (o : ℕ) → line (a ++ b) (length a + o) ≡ line b o + line_ends_in a
  second_line o =
      ap (λ (l : List ℕ). 1 + length l) (second_ends o)
      ∙ omega (arith, length-append (map (λ e. length a + e) (ends_by b o)) (ends_by a (length a)), length-map (ends_by b o) (λ e. length a + e))

  -- the last line end of A is completed where it ends
  ended : (n : ℕ) → suc n ≡ length a → get_or (ends_by a (length a)) 0 0 ≡ length a
  ended n e = subst (λ (k : ℕ). get_or (ends_by a k) 0 0 ≡ k) e (rw (last_byte 0 a n e, line_feed) refl)

  some : (n : ℕ) × (suc n ≡ length a)
  some = by_length a line_feed
    where
      by_length : (l : List ℕ) → last 0 l ≡ 10 → (n : ℕ) × (suc n ≡ length l)
      by_length [] h = absurd (omega (arith, h))
      by_length (x ∷ l) h = (length l, refl)

  pub second_column : (o : ℕ) → column (a ++ b) (length a + o) ≡ column b o
  second_column o = ap (λ (l : List ℕ). 1 + (length a + o - get_or l 0 0)) (second_ends o) ∙ by_ends (ends_by b o)
    where
      by_ends : (l : List ℕ) → 1 + (length a + o - get_or (map (λ e. length a + e) l ++ ends_by a (length a)) 0 0) ≡ 1 + (o - get_or l 0 0)
      by_ends [] = omega (arith, ended some.0 some.1)
      by_ends (e ∷ l) = omega arith

  -- numbers of places in A, and of places in B as the join has them
  module _ (f : List ℕ → ℕ → ℕ) (g : ℕ → ℕ) (first : (o : ℕ) → o ≤ length a → f (a ++ b) o ≡ f a o)
      (second : (o : ℕ) → f (a ++ b) (length a + o) ≡ g (f b o)) where
    of_second : (os : List ℕ) → at_offsets f (a ++ b) (map (λ o. length a + o) os) ≡ map g (at_offsets f b os)
    of_second [] = refl
    of_second (o ∷ os) = ap₂ ◌∷◌ (ap (f (a ++ b)) (omega (arith, length-append a b)) ∙ second (min o (length b))) (of_second os)

    pub of_both : (oa ob : List ℕ) → NoneAbove (length a) oa
        → at_offsets f (a ++ b) (oa ++ map (λ o. length a + o) ob) ≡ at_offsets f a oa ++ map g (at_offsets f b ob)
    of_both [] ob h = of_second ob
    of_both (o ∷ oa) ob h =
        ap₂ ◌∷◌
        (ap (f (a ++ b)) (omega (arith, length-append a b)) ∙ first (min o (length a)) (omega arith))
        (of_both oa ob h.1)
