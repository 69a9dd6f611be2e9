-- What a character is: a Unicode scalar value; and its bytes in UTF-8. Rust's `char` and `encode_utf8`.
-- Assumes nothing: these are definitions.
use Rattle.std.specs.Prelude.{ℕ, ◌+◌, ◌/◌, ◌%◌, ◌≤◌, ◌<◌, cond, List, [], ◌∷◌, ltb}

-- The code points without the surrogates: 0 to D7FF and E000 to 10FFFF (definition D76 of the Unicode Standard).
pub data Scalar : ℕ → Type 0 where
  below : {c : ℕ} → c < 0xD800 → Scalar c
  above : {c : ℕ} → 0xE000 ≤ c → c ≤ 0x10FFFF → Scalar c

-- Table 3-6: a first byte that tells how many follow, and behind it six bits a byte.
unfoldable pub encode : ℕ → List ℕ
encode c =
    cond (ltb c 0x80) (c ∷ [])
    (cond (ltb c 0x800) ((0xC0 + c / 64) ∷ (0x80 + c % 64) ∷ [])
    (cond (ltb c 0x10000) ((0xE0 + c / 4096) ∷ (0x80 + c / 64 % 64) ∷ (0x80 + c % 64) ∷ [])
    ((0xF0 + c / 262144) ∷ (0x80 + c / 4096 % 64) ∷ (0x80 + c / 64 % 64) ∷ (0x80 + c % 64) ∷ [])))
