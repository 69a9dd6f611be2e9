-- The last byte that is no continuation byte, as a search from the end finds it. Assumes nothing.
use Rattle.std.specs.Prelude.{◌≡◌, List, ℕ, ◌+◌, ◌≤◌, ◌<◌, length, get_or, Option, Some, None, MatchOption, unwrap_or}
use Rattle.std.proofs.Common.{sym, arith}
use Rattle.utf8.specs.WellFormed.{WellFormed}
use Rattle.utf8.specs.Last.{Continuation, last_char, last_is, last_none}

abbrev pub Behind : List ℕ → ℕ → Type 0
Behind s at = (k : ℕ) → at ≤ k → k < length s → Continuation (get_or s k 0)

abbrev pub FoundLast : List ℕ → ℕ → Type 0
FoundLast s at = (at < length s) × (Continuation (get_or s at 0) → ⊥) × Behind s (at + 1)

pub last_found : (r : Option ℕ) (s : List ℕ) → WellFormed s → MatchOption r (Behind s 0) (FoundLast s) → unwrap_or r 0 ≡ last_char s
last_found None s w h = sym (last_none w (λ k p. h k (omega arith) p))
last_found (Some at) s w h = sym (last_is w at h.0 h.1 (λ k p q. h.2 k (omega arith) q))
