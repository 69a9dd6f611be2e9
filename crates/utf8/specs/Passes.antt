-- What the loops over a text keep.
use Rattle.std.specs.Prelude.{◌≡◌, List, ℕ, ◌≤◌, length, drop}
use Rattle.utf8.specs.Validate.{validate_from}

-- what is left at `at` comes to the same as what was left at `start`
pub record Passes (s : List ℕ) (start at : ℕ) : Type 0 where
  pub forth : start ≤ at
  pub within : at ≤ length s
  pub same : validate_from 0 start (drop start s) ≡ validate_from 0 at (drop at s)
