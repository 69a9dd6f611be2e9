-- A character's length in bytes, by its first byte.
use Rattle.std.specs.Prelude.{◌≡◌, Bool, true, false, cond, ℕ, ◌≤◌, ◌<◌, ltb}
use Rattle.std.proofs.Common.{arith}
use borrow.Author.Tests.{lt-ltb, le-ltb}

unfoldable pub width : ℕ → ℕ
width b = cond (ltb b 0xC0) 1 (cond (ltb b 0xE0) 2 (cond (ltb b 0xF0) 3 4))

module _ (b : ℕ) where
  pub width_one : b < 0xC0 → width b ≡ 1
  unfolding width
  width_one h = rw (lt-ltb b 0xC0 h)

  pub width_two : 0xC0 ≤ b → b < 0xE0 → width b ≡ 2
  unfolding width
  width_two l h = rw (le-ltb b 0xC0 l, lt-ltb b 0xE0 h)

  pub width_three : 0xE0 ≤ b → b < 0xF0 → width b ≡ 3
  unfolding width
  width_three l h = rw (le-ltb b 0xC0 (omega arith), le-ltb b 0xE0 l, lt-ltb b 0xF0 h)

  pub width_four : 0xF0 ≤ b → width b ≡ 4
  unfolding width
  width_four l = rw (le-ltb b 0xC0 (omega arith), le-ltb b 0xE0 (omega arith), le-ltb b 0xF0 l)

step : (t : Bool) {m n : ℕ} → 1 ≤ m → 1 ≤ n → 1 ≤ cond t m n
step true p q = p
step false p q = q

pub width_pos : (b : ℕ) → 1 ≤ width b
unfolding width
width_pos b = step (ltb b 0xC0) (omega arith) (step (ltb b 0xE0) (omega arith) (step (ltb b 0xF0) (omega arith) (omega arith)))
