-- The lexer's tests on numbers from 0x80 on: none of them asks for one, so a byte and its character give the same answer.
-- Assumes nothing.
use Rattle.std.specs.Prelude.{ℕ, ◌≤◌, ◌≡◌, refl, Bool, true, false, ◌||◌, eqb, ltb}
use Rattle.std.proofs.Common.{arith, ne_eqb, ltb-true}
use Rattle.utf8.specs.TableLaws.{in_range_over}
use Rattle.lexer.specs.Chars.{within, blank, line_end, decimal, hex, binary, letter, word, graphic}
use Rattle.lexer.specs.Lexer.{LexRule, choose, in_line}
use Rattle.characters.specs.CharLexer.{char_match}

neither : (x y : Bool) → x ≡ false → y ≡ false → x || y ≡ false
neither true y e f = e
neither false y e f = f

past : (t : Bool) (f g h : LexRule) → t ≡ false → g ≡ h → choose t f g ≡ h
past true f g h e i = absurd (let z : ◌≡◌ {A = ℕ} 0 1 = cc in omega arith)
past false f g h e i = i

module _ (n : ℕ) (h : 0x80 ≤ n) where
  pub not_at : (k : ℕ) → ltb k 0x80 ≡ true → eqb n k ≡ false
  not_at k l = ne_eqb n k (λ e. omega (arith, ltb-true k 0x80 l))

  pub not_in : (a z : ℕ) → ltb z 0x80 ≡ true → within a z n ≡ false
  not_in a z l = in_range_over a z n (omega (arith, ltb-true z 0x80 l))

  pub no_blank : blank n ≡ false
  no_blank = neither (eqb n 32) (eqb n 9) (not_at 32 refl) (not_at 9 refl)

  pub no_line_end : line_end n ≡ false
  no_line_end = neither (eqb n 10) (eqb n 13) (not_at 10 refl) (not_at 13 refl)

  pub no_decimal : decimal n ≡ false
  no_decimal = not_in 48 57 refl

  pub no_hex : hex n ≡ false
  no_hex = search (neither, not_in, no_decimal)

  pub no_binary : binary n ≡ false
  no_binary = search (neither, not_at)

  pub no_letter : letter n ≡ false
  no_letter = search (neither, not_in, not_at)

  pub no_word : word n ≡ false
  no_word = neither (letter n) (decimal n) no_letter no_decimal

  pub no_graphic : graphic n ≡ false
  no_graphic = not_in 33 126 refl

  pub all_in_line : in_line n ≡ true
  all_in_line = rw no_line_end

  -- it starts nothing
  pub match_other : (f : LexRule) → char_match n f ≡ f
  unfolding char_match
  match_other f = search (past, neither, no_blank, no_letter, no_decimal, not_at) depth 40
