-- The tokens that are left at an offset of the source. Assumes nothing.
use Prim.Native.Nat.{ℕ, ◌+◌, ◌≤◌, ◌<◌}
use mathlib.Core.Path.{◌≡◌, ap, ◌∙◌}
use mathlib.Core.List.{List, [], ◌∷◌}
use native.Mathlib.Omega.{arith}
use lib.ListN.{length, get_or, drop, length-drop, drop_of_length-le}
use lib.Seq.{drop-drop, length-take-le}
use Rattle.lexer.specs.Lexer.{Token, next, tokenize}
use Rattle.lexer.specs.Tokens.{ends}
use Rattle.lexer.specs.Good.{good_next}
use Rattle.lexer.specs.Laws.{token, tokenize_nil, tokenize_cons}
use Rattle.lexer.proofs.Laws.{next_byte}

abbrev pub rest : List ℕ → ℕ → List Token
rest s at = tokenize (drop at s)

pub rest_none : (s : List ℕ) (at : ℕ) → length s ≤ at → rest s at ≡ []
rest_none s at h = ap tokenize (drop_of_length-le s h) ∙ tokenize_nil

module _ (s : List ℕ) (at : ℕ) (h : at < length s) where
  abbrev more : ℕ
  more = (next (get_or s at 0) (drop (at + 1) s)).more

  -- a token ends within the source
  pub end_within : at + 1 + more ≤ length s
  end_within = omega (arith, (good_next (get_or s at 0)).within (drop (at + 1) s), length-drop (at + 1) s)

  pub rest_more : rest s at ≡ token (get_or s at 0) (drop (at + 1) s) ∷ rest s (at + 1 + more)
  rest_more =
      ap tokenize (next_byte s at h)
      ∙ tokenize_cons (get_or s at 0) (drop (at + 1) s)
      ∙ ap (λ (l : List ℕ). token (get_or s at 0) (drop (at + 1) s) ∷ tokenize l) (drop-drop more (at + 1) s)

  -- and that is the end of its text
  pub end_is : at + length (token (get_or s at 0) (drop (at + 1) s)).text ≡ at + 1 + more
  end_is = omega (arith, length-take-le more (drop (at + 1) s) ((good_next (get_or s at 0)).within (drop (at + 1) s)))

  -- the first of the ends, and the others
  pub ends_more : ends at (rest s at) ≡ (at + 1 + more) ∷ ends (at + 1 + more) (rest s (at + 1 + more))
  unfolding ends
  ends_more =
      ap (ends at) rest_more
      ∙ ap (λ (e : ℕ). e ∷ ends e (rest s (at + 1 + more))) end_is
