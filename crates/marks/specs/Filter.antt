-- A filter before the words: where two tables of lengths let every word pass, a text that they leave out is none. The code needs none.
-- Assumes nothing.
use Rattle.std.specs.Prelude.{ℕ, suc, ◌-◌, ◌/◌, ◌%◌, ◌^◌, ◌≡◌, Bool, ◌&&◌, eqb, length, get_or}
use Rattle.std.proofs.Math.Path.{refl, sym}
use Rattle.std.proofs.Common.{ap, ◌∙◌}
use Rattle.std.proofs.Math.Bool.{true, false, cond}
use Rattle.std.proofs.lemmas.Bool.{false≢true}
use mathlib.Core.List.{List, [], ◌∷◌, ◌++◌}
use Rattle.std.specs.Int.Bits.{bit_and}
use Rattle.lexer.specs.Lexer.{same}
use Rattle.lexer.specs.Laws.{same_equal}
use Rattle.grammar.specs.Words.{words, number_in}
use Rattle.marks.specs.Code.{refused_texts, text_number}

-- No text with the first byte b, the last byte z and the length n has a number.
abbrev pub Unnumbered : ℕ → ℕ → ℕ → Type 0
Unnumbered b z n = (t : List ℕ) → get_or t 0 0 ≡ b → get_or t (length t - 1) 0 ≡ z → length t ≡ n → text_number t ≡ 0

-- Two tables give lengths as bits, at a first byte and at a last byte: whether n is in both.
unfoldable pub may_be : List ℕ → List ℕ → ℕ → ℕ → ℕ → Bool
may_be first last b z n = eqb (bit_and (get_or first b 0) (get_or last z 0) / 2 ^ (n % 16) % 2) 1

module _ (first last : List ℕ) where
  unfoldable pub passes : List ℕ → Bool
  passes t = may_be first last (get_or t 0 0) (get_or t (length t - 1) 0) (length t)

  unfoldable pub all_pass : List (List ℕ) → Bool
  all_pass [] = true
  all_pass (w ∷ ws) = passes w && all_pass ws

  none_is : (n : ℕ) (ws : List (List ℕ)) (t : List ℕ) → all_pass ws ≡ true → passes t ≡ false → number_in n ws t ≡ 0
  unfolding number_in all_pass
  none_is n [] t a e = refl
  none_is n (w ∷ ws) t a e = by_test (passes w) (same w t) refl refl a (λ f. none_is (suc n) ws t f e)
    where
      by_test : (u v : Bool) → passes w ≡ u → same w t ≡ v → u && all_pass ws ≡ true → (all_pass ws ≡ true → number_in (suc n) ws t ≡ 0) → cond v n (number_in (suc n) ws t) ≡ 0
      by_test true true p q f again = absurd (false≢true (sym e ∙ sym (ap passes (same_equal w t q)) ∙ p))
      by_test true false p q f again = again f
      by_test false v p q f again = absurd (false≢true f)

  -- The tables let every word pass.
  abbrev pub WordsPass : Type 0
  WordsPass = all_pass (words ++ refused_texts) ≡ true

  pub left_out : (b z n : ℕ) → WordsPass → may_be first last b z n ≡ false → Unnumbered b z n
  unfolding text_number passes
  left_out b z n a e t p q r = none_is 1 (words ++ refused_texts) t a (rw (q, p, r) e)
