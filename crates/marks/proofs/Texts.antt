-- The number of a text, by its length and its bytes. Assumes nothing.
use Prim.Native.Nat.{ℕ, suc}
use mathlib.Core.Path.{◌≡◌, refl, sym, ap, ◌∙◌}
use mathlib.Core.Bool.{Bool, true, false, cond}
use mathlib.Core.List.{List, [], ◌∷◌, ◌++◌, map}
use lib.ListN.{length, get_or, drop}
use Rattle.std.specs.Prelude.{eqb}
use Rattle.std.proofs.Common.{eq-eqb}
use Rattle.std.proofs.lemmas.Bool.{false≢true}
use Rattle.lexer.specs.Chars.{tabulate}
use Rattle.lexer.specs.Lexer.{same}
use Rattle.lexer.specs.Laws.{same_equal}
use Rattle.lexer.proofs.Texts.{Spells, SpellsNone, spelled_is, equal_spells}
use Rattle.grammar.specs.Words.{words, number_in}
use Rattle.marks.specs.Code.{refused_texts, text_number}

-- the texts that have a number, in its order
abbrev pub letters : List (List ℕ)
letters =
    (97 ∷ 100 ∷ 118 ∷ 95 ∷ 109 ∷ 97 ∷ 112 ∷ []) ∷
    (98 ∷ 101 ∷ 103 ∷ 105 ∷ 110 ∷ []) ∷
    (99 ∷ 111 ∷ 110 ∷ 115 ∷ 116 ∷ []) ∷
    (100 ∷ 111 ∷ []) ∷
    (101 ∷ 108 ∷ 115 ∷ 101 ∷ []) ∷
    (101 ∷ 110 ∷ 100 ∷ []) ∷
    (101 ∷ 110 ∷ 117 ∷ 109 ∷ []) ∷
    (105 ∷ 102 ∷ []) ∷
    (109 ∷ 111 ∷ 100 ∷ []) ∷
    (110 ∷ 97 ∷ 109 ∷ 101 ∷ 115 ∷ 112 ∷ 97 ∷ 99 ∷ 101 ∷ []) ∷
    (112 ∷ 97 ∷ 99 ∷ 107 ∷ 97 ∷ 103 ∷ 101 ∷ []) ∷
    (112 ∷ 114 ∷ 111 ∷ 99 ∷ []) ∷
    (112 ∷ 117 ∷ 98 ∷ []) ∷
    (114 ∷ 101 ∷ 112 ∷ 101 ∷ 97 ∷ 116 ∷ []) ∷
    (116 ∷ 121 ∷ 112 ∷ 101 ∷ []) ∷
    (119 ∷ 104 ∷ 105 ∷ 108 ∷ 101 ∷ []) ∷
    (117 ∷ 115 ∷ 101 ∷ []) ∷
    (101 ∷ 120 ∷ 116 ∷ 101 ∷ 114 ∷ 110 ∷ []) ∷
    []

spells_none : (n : ℕ) (ws : List (List ℕ)) (t : List ℕ) → SpellsNone ws t → number_in n ws t ≡ 0
unfolding number_in
spells_none n [] t h = refl
spells_none n (w ∷ ws) t h = by_test (same w t) refl (spells_none (suc n) ws t h.1)
  where
    by_test : (u : Bool) → same w t ≡ u → number_in (suc n) ws t ≡ 0 → cond u n (number_in (suc n) ws t) ≡ 0
    by_test true e again =
        let q = same_equal w t e in
        absurd (h.0 (equal_spells w t q))
    by_test false e again = again

same_letters : words ++ refused_texts ≡ letters
unfolding words
same_letters = refl

-- what spells the n-th of them, and so on
abbrev pub Numbered : ℕ → List (List ℕ) → List ℕ → Type 0
Numbered n [] t = Unit {0}
Numbered n (w ∷ ws) t = (Spells w t → n ≡ text_number t) × Numbered (suc n) ws t

in_order : (n : ℕ) (ws : List (List ℕ)) (t : List ℕ) → map text_number ws ≡ tabulate (λ k. k) n (length ws) → Numbered n ws t
in_order n [] t e = tt
in_order n (w ∷ ws) t e = (
  λ s. sym (ap (λ (l : List ℕ). get_or l 0 0) e) ∙ ap text_number (sym (spelled_is w t s)),
  in_order (suc n) ws t (ap (drop 1) e),
)

their_numbers : map text_number letters ≡ tabulate (λ k. k) 1 18
unfolding text_number number_in words same
their_numbers = refl

pub spelled : (t : List ℕ) → Numbered 1 letters t
spelled t = in_order 1 letters t their_numbers

none_spelled : (t : List ℕ) → SpellsNone letters t → 0 ≡ text_number t
unfolding text_number
none_spelled t h = sym (ap (λ (ws : List (List ℕ)). number_in 1 ws t) same_letters ∙ spells_none 1 letters t h)

-- no word is as long as t
abbrev pub NoneAsLong : List (List ℕ) → List ℕ → Type 0
NoneAsLong [] t = Unit {0}
NoneAsLong (w ∷ ws) t = (length t ≡ length w → ⊥) × NoneAsLong ws t

other_lengths : (ws : List (List ℕ)) (t : List ℕ) → NoneAsLong ws t → SpellsNone ws t
other_lengths [] t h = tt
other_lengths (w ∷ ws) t h = (λ s. h.0 s.0, other_lengths ws t h.1)

pub none_as_long : (t : List ℕ) → NoneAsLong letters t → 0 ≡ text_number t
none_as_long t h = none_spelled t (other_lengths letters t h)

-- the words of n letters
abbrev pub of_length : ℕ → List (List ℕ) → List (List ℕ)
of_length n [] = []
of_length n (w ∷ ws) = cond (eqb (length w) n) (w ∷ of_length n ws) (of_length n ws)

none_else : (n : ℕ) (ws : List (List ℕ)) (t : List ℕ) → length t ≡ n → SpellsNone (of_length n ws) t → SpellsNone ws t
none_else n [] t l h = tt
none_else n (w ∷ ws) t l h = by_test (eqb (length w) n) refl h (none_else n ws t l)
  where
    by_test : (u : Bool) → eqb (length w) n ≡ u → SpellsNone (cond u (w ∷ of_length n ws) (of_length n ws)) t
        → (SpellsNone (of_length n ws) t → SpellsNone ws t) → SpellsNone (w ∷ ws) t
    by_test true e h rest = (h.0, rest h.1)
    by_test false e h rest = (λ s. false≢true (sym e ∙ eq-eqb (length w) n (sym s.0 ∙ l)), rest h)

-- a text of n letters need only be none of the words of n letters
pub none_of_length : (n : ℕ) (t : List ℕ) → length t ≡ n → SpellsNone (of_length n letters) t → 0 ≡ text_number t
none_of_length n t l h = none_spelled t (none_else n letters t l h)
