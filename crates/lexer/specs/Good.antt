-- What every function of the lexer keeps: it takes no more than there is, and a token that ends before the bytes do is the same
-- whatever follows them. Once for each way to put functions together, then for `next`.
-- Assumes nothing.
use Prim.Native.Nat.{ℕ, suc, pred, ◌≤◌, ◌<◌, zero-le, suc-le-suc}
use Rattle.std.specs.Prelude.{◌≡◌, refl, not, ◌&&◌, eqb}
use Rattle.std.proofs.Math.Path.{ap}
use Rattle.std.proofs.Math.Bool.{Bool, true, false, cond}
use mathlib.Core.List.{List, [], ◌∷◌, ◌++◌}
use Rattle.std.proofs.Common.{arith, le_of_suc-le-suc, not-suc-le-zero, length-take}
use Rattle.std.proofs.Math.ListN.{length}
use Rattle.std.proofs.lemmas.List.{take-append-le}
use Rattle.utf8.specs.Width.{width}
use Rattle.lexer.specs.Chars.{line_end, graphic, word, class}
use Rattle.lexer.specs.Lexer.{Lexeme, LexRule, lex_one, later, choose, follow, advance_while, lex_while, special, unescaped, quoted, stray, arm, next}

pub record GoodLex (f : LexRule) : Type 0 where
  pub within : (r : List ℕ) → (f r).more ≤ length r
  pub local : (x y : List ℕ) → (f x).more < length x → f (x ++ y) ≡ f x

pub good_one : (k : ℕ) → GoodLex (lex_one k)
good_one k = record { within = λ r. zero-le; local = λ x y h. refl }

pub good_lex_choose : (t : Bool) {f g : LexRule} → GoodLex f → GoodLex g → GoodLex (choose t f g)
good_lex_choose true p q = p
good_lex_choose false p q = q

module _ (x : ℕ) (f g : LexRule) (p : GoodLex f) (q : GoodLex g) where
  follow_within : (r : List ℕ) → (follow x f g r).more ≤ length r
  unfolding follow
  follow_within [] = q.within []
  follow_within (b ∷ r) = go (eqb b x)
    where
      go : (t : Bool) → (cond t (later (f r)) (g (b ∷ r))).more ≤ suc (length r)
      go true = suc-le-suc (p.within r)
      go false = q.within (b ∷ r)

  follow_local : (r y : List ℕ) → (follow x f g r).more < length r → follow x f g (r ++ y) ≡ follow x f g r
  unfolding follow
  follow_local [] y h = absurd (not-suc-le-zero h)
  follow_local (b ∷ r) y h = go (eqb b x) h
    where
      go : (t : Bool) → (cond t (later (f r)) (g (b ∷ r))).more < suc (length r)
          → cond t (later (f (r ++ y))) (g (b ∷ (r ++ y))) ≡ cond t (later (f r)) (g (b ∷ r))
      go true k = ap later (p.local r y (le_of_suc-le-suc k))
      go false k = q.local (b ∷ r) y k

pub good_follow : (x : ℕ) {f g : LexRule} → GoodLex f → GoodLex g → GoodLex (follow x f g)
good_follow x {f} {g} p q = record { within = follow_within x f g p q; local = follow_local x f g p q }

-- advance_while
module _ (p : ℕ → Bool) where
  pub advance_within : (r : List ℕ) → advance_while p r ≤ length r
  unfolding advance_while
  advance_within [] = zero-le
  advance_within (b ∷ r) = go (p b) (advance_within r)
    where
      go : (t : Bool) → advance_while p r ≤ length r → cond t (suc (advance_while p r)) 0 ≤ suc (length r)
      go true h = suc-le-suc h
      go false h = zero-le

  advance_local : (x y : List ℕ) → advance_while p x < length x → advance_while p (x ++ y) ≡ advance_while p x
  unfolding advance_while
  advance_local [] y h = absurd (not-suc-le-zero h)
  advance_local (b ∷ x) y h = go (p b) h (advance_local x y)
    where
      count : Bool → List ℕ → ℕ
      count t s = cond t (suc (advance_while p s)) 0

      go : (t : Bool) → count t x < suc (length x) → (advance_while p x < length x → advance_while p (x ++ y) ≡ advance_while p x) → count t (x ++ y) ≡ count t x
      go true k ih = ap suc (ih (le_of_suc-le-suc k))
      go false k ih = refl

pub good_lex_while : (k : ℕ) (p : ℕ → Bool) → GoodLex (lex_while k p)
unfolding lex_while
good_lex_while k p = record {
  within = advance_within p;
  local = λ x y h. ap (λ (n : ℕ). record { kind = k; more = n }) (advance_local p x y h);
}

pub good_special : GoodLex special
unfolding special
good_special = record {
  within = λ r. advance_within word r;
  local = λ x y h. let e = advance_local word x y h in rw e (rw (take-append-le (advance_while word x) x y (omega arith)));
}

-- lex_quoted
unescaped_within : (l c i : Bool) (t : Lexeme) (n : ℕ) → t.more ≤ n → (unescaped l c i t).more ≤ suc n
unescaped_within true c i t n h = zero-le
unescaped_within false true i t n h = suc-le-suc zero-le
unescaped_within false false i t n h = suc-le-suc h

unescaped_local : (l c i : Bool) (t u : Lexeme) (n : ℕ) → (t.more < n → u ≡ t) → (unescaped l c i t).more < suc n → unescaped l c i u ≡ unescaped l c i t
unescaped_local true c i t u n e h = refl
unescaped_local false true i t u n e h = refl
unescaped_local false false i t u n e h = ap later (e (le_of_suc-le-suc h))

quoted_within : (t i : Bool) (r : List ℕ) → (quoted t i r).more ≤ length r
unfolding quoted
quoted_within t i [] = zero-le
quoted_within true i (b ∷ r) = suc-le-suc (quoted_within false i r)
quoted_within false i (b ∷ r) =
    unescaped_within (line_end b) (eqb b 34) i _ (length r) (quoted_within (eqb b 92) (i && (graphic b && not (eqb b 92))) r)

quoted_local : (t i : Bool) (x y : List ℕ) → (quoted t i x).more < length x → quoted t i (x ++ y) ≡ quoted t i x
unfolding quoted
quoted_local t i [] y h = absurd (not-suc-le-zero h)
quoted_local true i (b ∷ x) y h = ap later (quoted_local false i x y (le_of_suc-le-suc h))
quoted_local false i (b ∷ x) y h =
    unescaped_local (line_end b) (eqb b 34) i _ _ (length x) (quoted_local (eqb b 92) (i && (graphic b && not (eqb b 92))) x y) h

pub good_quoted : (t i : Bool) → GoodLex (quoted t i)
good_quoted t i = record { within = quoted_within t i; local = quoted_local t i }

pub good_stray : (b : ℕ) → GoodLex (stray b)
unfolding stray
good_stray b = record {
  within = λ r. omega (arith, length-take (pred (width b)) r);
  local = λ x y h. rw (take-append-le (pred (width b)) x y (omega (arith, length-take (pred (width b)) x)));
}

pub good_arm : (c b : ℕ) → GoodLex (arm c b)
unfolding arm
good_arm c b = search (good_one, good_lex_choose, good_follow, good_lex_while, good_special, good_quoted, good_stray) depth 30

pub good_next : (b : ℕ) → GoodLex (next b)
unfolding next
good_next b = good_arm (class b) b
