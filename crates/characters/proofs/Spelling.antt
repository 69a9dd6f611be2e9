-- The bytes of a character, as the lexer meets them: an ASCII character is its own byte; any other has bytes of 0x80 and more,
-- as many as the first tells.
-- Assumes nothing.
use Rattle.std.specs.Prelude.{ℕ, suc, ◌≤◌, ◌<◌, ◌≡◌, List, [], ◌∷◌, length}
use Rattle.std.proofs.Common.{arith}
use Rattle.utf8.specs.Width.{width, width_two, width_three, width_four}
use Rattle.utf8.specs.Scalar.{encode}
use Rattle.characters.proofs.Encoding.{below_or_from, encode_one, encode_two, encode_three, encode_four}

-- all bytes are 0x80 or more
abbrev pub HighBytes : List ℕ → Type 0
HighBytes [] = Unit {0}
HighBytes (b ∷ bs) = (0x80 ≤ b) × HighBytes bs

pub data Spelling (c : ℕ) : Type 0 where
  ascii : c < 0x80 → encode c ≡ c ∷ [] → Spelling c
  wide : (b : ℕ) (bs : List ℕ) → 0x80 ≤ c → encode c ≡ b ∷ bs → HighBytes (b ∷ bs) → width b ≡ suc (length bs) → Spelling c

pub spelling : (c : ℕ) → Spelling c
spelling c =
    below_or_from c 0x80 _ (λ a. ascii a (encode_one c a)) (λ a.
    below_or_from c 0x800 _ (λ b. wide _ _ a (encode_two c a b) (omega arith) (width_two _ (omega arith) (omega arith))) (λ b.
    below_or_from c 0x10000 _ (λ d. wide _ _ a (encode_three c b d) (omega arith) (width_three _ (omega arith) (omega arith)))
    (λ d. wide _ _ a (encode_four c d) (omega arith) (width_four _ (omega arith)))))
