-- The scalar value that is read off a sequence of bytes, and that they are its encoding.
-- Assumes nothing: these are definitions.
use Rattle.std.specs.Prelude.{ℕ, ◌+◌, ◌-◌, ◌*◌, ◌≡◌, List, [], ◌∷◌}
use Rattle.utf8.specs.Scalar.{Scalar, encode}

-- the number that a sequence encodes
unfoldable pub scalar_of : List ℕ → ℕ
scalar_of [] = 0
scalar_of (a ∷ []) = a
scalar_of (a ∷ b ∷ []) = (a - 0xC0) * 64 + (b - 0x80)
scalar_of (a ∷ b ∷ c ∷ []) = (a - 0xE0) * 4096 + (b - 0x80) * 64 + (c - 0x80)
scalar_of (a ∷ b ∷ c ∷ d ∷ bs) = (a - 0xF0) * 262144 + (b - 0x80) * 4096 + (c - 0x80) * 64 + (d - 0x80)

-- the bytes are the encoding of the scalar value that is read off them
pub record Decoded (bs : List ℕ) : Type 0 where
  pub scalar : Scalar (scalar_of bs)
  pub encodes : encode (scalar_of bs) ≡ bs
