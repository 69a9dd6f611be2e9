-- The three line ends, and what `ends_by` and `line_start` are in their terms. That they are stands in proofs/LineEnds.
-- Assumes nothing: these are definitions.
use Rattle.std.specs.Prelude.{ℕ, suc, ◌≡◌, ◌≤◌, ◌<◌, ◌↔◌, ◌⊎◌, List, [], ◌∷◌, get_or, Contains}

-- A line end of a source, from its first byte to the offset behind its last, at which it is completed.
pub data LineEnd (source : List ℕ) : ℕ → ℕ → Type 0 where
  cr_lf : (n : ℕ) → get_or source n 0 ≡ 13 → get_or source (suc n) 0 ≡ 10 → LineEnd source n (suc (suc n))
  lone_cr : (n : ℕ) → get_or source n 0 ≡ 13 → (get_or source (suc n) 0 ≡ 10 → ⊥) → LineEnd source n (suc n)
  lone_lf : (n : ℕ) → get_or source n 0 ≡ 10 → ((m : ℕ) → suc m ≡ n → get_or source m 0 ≡ 13 → ⊥) → LineEnd source n (suc n)

-- a line end is completed at an offset
abbrev pub EndsAt : List ℕ → ℕ → Type 0
EndsAt source e = (n : ℕ) × LineEnd source n e

-- each below the one before it, and the first below n
abbrev pub FallingFrom : ℕ → List ℕ → Type 0
FallingFrom n [] = Unit {0}
FallingFrom n (e ∷ l) = (e < n) × FallingFrom e l

-- The line ends completed by an offset: each once, and no others.
pub record EndsBy (source : List ℕ) (o : ℕ) (l : List ℕ) : Type 0 where
  pub once : FallingFrom (suc o) l
  pub these : (e : ℕ) → Contains l e ↔ (e ≤ o) × EndsAt source e

-- The last of them, or the start of the source where there is none.
pub record LastEnd (source : List ℕ) (o s : ℕ) : Type 0 where
  pub within : s ≤ o
  pub ends : (s ≡ 0) ⊎ EndsAt source s
  pub last : (e : ℕ) → s < e → e ≤ o → EndsAt source e → ⊥
