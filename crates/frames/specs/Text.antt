-- The text of numbers on a line.
use Rattle.std.specs.Prelude.{List, ℕ, [], ◌∷◌, ◌++◌, drop, flat_map}
use Rattle.std.specs.Fmt.{decimal}

-- A number behind a space.
abbrev pub spaced : ℕ → List ℕ
spaced n = 32 ∷ decimal n

-- A line of numbers with spaces between them.
abbrev pub number_line : List ℕ → List ℕ
number_line ns = drop 1 (flat_map spaced ns) ++ 10 ∷ []

-- A line of a tag and numbers, each behind a space.
abbrev pub tagged_line : List ℕ → List ℕ → List ℕ
tagged_line tag ns = (tag ++ flat_map spaced ns) ++ 10 ∷ []
