-- A text is its characters, one after another.
-- Assumes nothing: these are definitions.
use Rattle.std.specs.Prelude.{ℕ, List, [], ◌∷◌, ◌++◌}
use Rattle.utf8.specs.Scalar.{Scalar, encode}

abbrev pub Scalars : List ℕ → Type 0
Scalars [] = Unit {0}
Scalars (c ∷ cs) = Scalar c × Scalars cs

-- the bytes of a text
unfoldable pub encode_all : List ℕ → List ℕ
encode_all [] = []
encode_all (c ∷ cs) = encode c ++ encode_all cs
