-- The well-formed byte sequences of UTF-8: table 3-7 of the Unicode Standard.
use Rattle.std.specs.Prelude.{List, [], ◌∷◌, Bool, cond, ◌&&◌, ℕ, suc, leb, eqb, length}

-- the bytes from the first number to the second
infix 68 ◌⋯◌
pub data Range : Type 0 where
  ◌⋯◌ : ℕ → ℕ → Range

-- a row: a range for each byte
abbrev pub Row : Type 0
Row = List Range

unfoldable pub table_3_7 : List Row
table_3_7 =
    (0x00 ⋯ 0x7F ∷ [])
    ∷ (0xC2 ⋯ 0xDF ∷ 0x80 ⋯ 0xBF ∷ [])
    ∷ (0xE0 ⋯ 0xE0 ∷ 0xA0 ⋯ 0xBF ∷ 0x80 ⋯ 0xBF ∷ [])
    ∷ (0xE1 ⋯ 0xEC ∷ 0x80 ⋯ 0xBF ∷ 0x80 ⋯ 0xBF ∷ [])
    ∷ (0xED ⋯ 0xED ∷ 0x80 ⋯ 0x9F ∷ 0x80 ⋯ 0xBF ∷ [])
    ∷ (0xEE ⋯ 0xEF ∷ 0x80 ⋯ 0xBF ∷ 0x80 ⋯ 0xBF ∷ [])
    ∷ (0xF0 ⋯ 0xF0 ∷ 0x90 ⋯ 0xBF ∷ 0x80 ⋯ 0xBF ∷ 0x80 ⋯ 0xBF ∷ [])
    ∷ (0xF1 ⋯ 0xF3 ∷ 0x80 ⋯ 0xBF ∷ 0x80 ⋯ 0xBF ∷ 0x80 ⋯ 0xBF ∷ [])
    ∷ (0xF4 ⋯ 0xF4 ∷ 0x80 ⋯ 0x8F ∷ 0x80 ⋯ 0xBF ∷ 0x80 ⋯ 0xBF ∷ [])
    ∷ []

abbrev pub in_range : Range → ℕ → Bool
in_range (low ⋯ high) b = leb low b && leb b high

-- how many leading bytes lie in the row's ranges, one after another
unfoldable pub agree : Row → List ℕ → ℕ
agree [] bs = 0
agree (r ∷ row) [] = 0
agree (r ∷ row) (b ∷ bs) = cond (in_range r b) (suc (agree row bs)) 0

-- whether the bytes start with a sequence of the row
abbrev pub row_fits : Row → List ℕ → Bool
row_fits row bs = eqb (agree row bs) (length row)

-- the length of the first row whose sequence the bytes start with, 0 where there is none
unfoldable pub length_in : List Row → List ℕ → ℕ
length_in [] bs = 0
length_in (row ∷ rows) bs = cond (row_fits row bs) (length row) (length_in rows bs)

-- the length of the character that the bytes start with, 0 where there is none
abbrev pub char_length : List ℕ → ℕ
char_length bs = length_in table_3_7 bs
