-- When two texts are the same: 'exactly where the lengths and all bytes agree' (M-101), said with and without going byte by byte.
-- Assumes nothing.
use Rattle.std.specs.Prelude.{ℕ, ◌<◌, ◌≡◌, refl, Bool, true, false, ◌||◌, cond, Decides, ◌⊎◌, ◌↔◌, List, [], ◌∷◌, length, get_or}
use Rattle.std.proofs.Common.{subst, arith, inl, inr, eq-eqb}
use Rattle.std.proofs.Math.Bool.{or-true}
use Rattle.std.proofs.lemmas.List.{ext_get_or}
use Rattle.lexer.specs.Syntax.{Error, SpecialIdent}
use Rattle.lexer.specs.Lexer.{same, kernel, exec}
use Rattle.lexer.specs.Laws.{same_equal}
use Rattle.lexer.specs.Code.{special_kind}

pub record Agree (a b : List ℕ) : Type 0 where
  pub lengths : length a ≡ length b
  pub bytes : (i : ℕ) → i < length a → get_or a i 0 ≡ get_or b i 0

pub agree_self : (a : List ℕ) → Agree a a
agree_self a = record { lengths = refl; bytes = λ i l. refl }

pub agree_equal : (a b : List ℕ) → Agree a b → a ≡ b
agree_equal a b h = ext_get_or 0 a b h.lengths h.bytes

same_self : (a : List ℕ) → same a a ≡ true
unfolding same
same_self [] = refl
same_self (x ∷ a) = rw (eq-eqb x x refl, same_self a)

-- yes just where they agree
pub same_decides : (a b : List ℕ) → Decides (same a b) (Agree a b)
same_decides a b = (
  λ e. subst (Agree a) (same_equal a b e) (agree_self a),
  λ h. subst (λ (t : List ℕ). same a t ≡ true) (agree_equal a b h) (same_self a),
)

-- what stands behind `$` makes a SpecialIdent just where it agrees with `kernel` or `exec`
pub special_where_agrees : (text : List ℕ) → (special_kind text ≡ SpecialIdent) ↔ (Agree text kernel ⊎ Agree text exec)
unfolding special_kind
special_where_agrees text = (
  by_test (same text kernel) (same text exec) (same_decides text kernel).0 (same_decides text exec).0,
  either,
)
  where
    by_test : (u v : Bool) → (u ≡ true → Agree text kernel) → (v ≡ true → Agree text exec)
        → cond (u || v) SpecialIdent Error ≡ SpecialIdent → Agree text kernel ⊎ Agree text exec
    by_test true v f g e = inl (f refl)
    by_test false true f g e = inr (g refl)
    by_test false false f g e = absurd (omega arith)

    either : Agree text kernel ⊎ Agree text exec → cond (same text kernel || same text exec) SpecialIdent Error ≡ SpecialIdent
    either (inl h) = rw ((same_decides text kernel).1 h)
    either (inr h) = rw ((same_decides text exec).1 h, or-true (same text kernel))
