-- Texts numbered from n: a number that is not 0 stands for one text.
-- Assumes nothing.
use Rattle.std.specs.Prelude.{ℕ, zero, suc, ◌+◌, ◌<◌, ◌≡◌, refl, Bool, true, false, cond, List, [], ◌∷◌, get_or}
use Rattle.std.proofs.Common.{arith}
use Rattle.lexer.specs.Lexer.{same}
use Rattle.grammar.specs.Words.{number_in}

no_less : (n m : ℕ) (ws : List (List ℕ)) (t : List ℕ) → 0 < m → m < n → number_in n ws t ≡ m → ⊥
unfolding number_in
no_less n m [] t p q e = omega arith
no_less n m (w ∷ ws) t p q e = by_test (same w t) e (no_less (suc n) m ws t p (omega arith))
  where
    by_test : (u : Bool) → cond u n (number_in (suc n) ws t) ≡ m → (number_in (suc n) ws t ≡ m → ⊥) → ⊥
    by_test true e ih = omega arith
    by_test false e ih = ih e

-- the text with the number n + k is the k-th of the list
pub text_of_number : (n k : ℕ) (ws : List (List ℕ)) (t : List ℕ) → 0 < n → number_in n ws t ≡ n + k → same (get_or ws k []) t ≡ true
unfolding number_in
text_of_number n k [] t p e = absurd (omega arith)
text_of_number n k (w ∷ ws) t p e = by_test k (same w t) refl e (λ k. text_of_number (suc n) k ws t (omega arith))
  where
    by_test : (k : ℕ) (u : Bool) → same w t ≡ u → cond u n (number_in (suc n) ws t) ≡ n + k
        → ((k : ℕ) → number_in (suc n) ws t ≡ suc n + k → same (get_or ws k []) t ≡ true) → same (get_or (w ∷ ws) k []) t ≡ true
    by_test zero true h e ih = h
    by_test zero false h e ih = absurd (no_less (suc n) n ws t p (omega arith) (omega arith))
    by_test (suc k) true h e ih = absurd (omega arith)
    by_test (suc k) false h e ih = ih k (omega arith)
