-- How many nodes are open at most. FewOpen in proofs/ bounds it.
-- Assumes nothing: this is a definition.
use Rattle.std.specs.Prelude.{ℕ, suc, pred, max, cond, List, [], ◌∷◌, eqb, ltb}

-- The most nodes open at once, with n open before.
abbrev pub peak : ℕ → List ℕ → ℕ
peak n [] = n
peak n (e ∷ es) = max n (peak (cond (eqb 0 e) (pred n) (cond (ltb e 27) (suc n) n)) es)
