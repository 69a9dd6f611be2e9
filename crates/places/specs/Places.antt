-- From the index of a token to its place in bytes: grammar's `place`, start and stop by themselves.
-- Assumes nothing: these are definitions.
use Rattle.std.specs.Prelude.{ℕ, ◌≡◌, List, ◌++◌, map, take, drop}
use Rattle.grammar.specs.Out.{place}

unfoldable pub start_of : List ℕ → ℕ → ℕ → ℕ
start_of ends anchor i = (place 0 ends 0 anchor i).start

unfoldable pub stop_of : List ℕ → ℕ → ℕ → ℕ
stop_of ends anchor i = (place 0 ends 0 anchor i).stop

-- The first `count` indices in `starts`, or all if there are fewer, become starts and stops; the rest stays.
pub record Places (ends : List ℕ) (anchor count : ℕ) (starts stops starts' stops' : List ℕ) : Type 0 where
  pub starts_are : starts' ≡ map (start_of ends anchor) (take count starts) ++ drop count starts
  pub stops_are : stops' ≡ map (stop_of ends anchor) (take count starts) ++ drop count stops
