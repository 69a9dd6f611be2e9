-- A text by its length and its bytes. Assumes nothing.
use Prim.Native.Nat.{ℕ, suc, ◌+◌}
use mathlib.Core.Path.{◌≡◌, refl, sym, ap, ◌∙◌}
use mathlib.Core.Bool.{Bool, true, false}
use mathlib.Core.List.{List, [], ◌∷◌}
use native.Mathlib.Nat.{add-zero}
use native.Mathlib.Omega.{arith}
use lib.ListN.{length, get_or, drop}
use lib.Seq.{drop-drop, get_or-drop}
use Rattle.std.proofs.lemmas.Slice.Eq.{HasBytesAt, text_from_reads}
use Rattle.lexer.specs.Syntax.{SpecialIdent, Error}
use Rattle.lexer.specs.Lexer.{same, kernel, exec}
use Rattle.lexer.specs.Laws.{same_equal}
use Rattle.lexer.specs.Code.{special_kind}

-- t has the length and the bytes of w
abbrev pub Spells : List ℕ → List ℕ → Type 0
Spells w t = (length t ≡ length w) × HasBytesAt t 0 w

abbrev pub SpellsNone : List (List ℕ) → List ℕ → Type 0
SpellsNone [] t = Unit {0}
SpellsNone (w ∷ ws) t = (Spells w t → ⊥) × SpellsNone ws t

has_bytes : (p s : List ℕ) (i : ℕ) → drop i s ≡ p → HasBytesAt s i p
has_bytes [] s i e = tt
has_bytes (c ∷ p) s i e =
    let next : suc i ≡ i + 1 = omega arith in (
      ap (λ (n : ℕ). get_or s n 0) (sym (add-zero i)) ∙ sym (get_or-drop i s 0 0) ∙ ap (λ (l : List ℕ). get_or l 0 0) e,
      has_bytes p s (suc i) (ap (λ (n : ℕ). drop n s) next ∙ sym (drop-drop 1 i s) ∙ ap (drop 1) e),
    )

pub spelled_is : (w t : List ℕ) → Spells w t → t ≡ w
spelled_is w t s = text_from_reads t w s.0 s.1

pub equal_spells : (w t : List ℕ) → w ≡ t → Spells w t
equal_spells w t e = (ap length (sym e), has_bytes w t 0 (sym e))

not_same : (t w : List ℕ) → (Spells w t → ⊥) → same t w ≡ false
not_same t w h = by_test (same t w) refl
  where
    by_test : (u : Bool) → same t w ≡ u → u ≡ false
    by_test true e = absurd (h (equal_spells w t (sym (same_equal t w e))))
    by_test false e = refl

kernel_kind : SpecialIdent ≡ special_kind kernel
unfolding special_kind same
kernel_kind = refl

exec_kind : SpecialIdent ≡ special_kind exec
unfolding special_kind same
exec_kind = refl

pub special_spelled : (t : List ℕ) → (Spells kernel t → SpecialIdent ≡ special_kind t) × (Spells exec t → SpecialIdent ≡ special_kind t)
special_spelled t = (
  λ s. kernel_kind ∙ ap special_kind (sym (spelled_is kernel t s)),
  λ s. exec_kind ∙ ap special_kind (sym (spelled_is exec t s)),
)

pub none_spelled : (t : List ℕ) → SpellsNone (kernel ∷ exec ∷ []) t → Error ≡ special_kind t
unfolding special_kind
none_spelled t h = rw (not_same t kernel h.0, not_same t exec h.1.0)
