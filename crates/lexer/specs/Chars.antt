-- The characters that lexer.rs asks for, as bytes, and the class of a token's first byte.
-- Every byte of a character of several bytes is 128 or more, so no test on ASCII below holds of one.
-- Assumes nothing: these are definitions.
use Rattle.std.specs.Prelude.{ℕ, zero, suc, ◌+◌, Bool, not, ◌&&◌, ◌||◌, cond, List, [], ◌∷◌, eqb, leb}
use Rattle.lexer.specs.Syntax.{Error, Whitespace, Newline, Comment, Ident, SpecialIdent, Number, QuotedIdent, At, Bang, Colon, Comma, Dot, Equal, LAngle, LBrace, LBracket, LParen, Minus, Plus, RAngle, RBrace, RBracket, RParen, Semicolon, Slash, Star}

-- a ..= z
abbrev pub within : ℕ → ℕ → ℕ → Bool
within a z b = leb a b && leb b z

-- ' ' | '\t'
abbrev pub blank : ℕ → Bool
blank b = eqb b 32 || eqb b 9

-- '\n' | '\r'
abbrev pub line_end : ℕ → Bool
line_end b = eqb b 10 || eqb b 13

-- is_ascii_digit, is_ascii_hexdigit, '0' | '1'
abbrev pub decimal : ℕ → Bool
decimal b = within 48 57 b

abbrev pub hex_letter : ℕ → Bool
hex_letter b = within 65 70 b || within 97 102 b

abbrev pub hex : ℕ → Bool
hex b = decimal b || hex_letter b

abbrev pub binary : ℕ → Bool
binary b = eqb b 48 || eqb b 49

-- 'a'..='z' | 'A'..='Z', and '_' beside them
abbrev pub alphabetic : ℕ → Bool
alphabetic b = within 97 122 b || within 65 90 b

abbrev pub letter : ℕ → Bool
letter b = alphabetic b || eqb b 95

-- is_ascii_alphanumeric or '_'
abbrev pub word : ℕ → Bool
word b = letter b || decimal b

-- is_ascii_graphic
abbrev pub graphic : ℕ → Bool
graphic b = within 33 126 b

-- neither a quote nor a backslash
abbrev pub inside : ℕ → Bool
inside b = not (eqb b 34) && not (eqb b 92)

-- what a quote passes over, while it is identifier-like and after
abbrev pub graphic_inside : ℕ → Bool
graphic_inside b = graphic b && inside b

abbrev pub line_inside : ℕ → Bool
line_inside b = not (line_end b) && inside b

-- CR starts a newline that may be longer: it has a class of its own, a number that no token has as its kind.
abbrev pub Cr : ℕ
Cr = 0

-- Letters and digits go on with a word: their classes are their tokens' kinds with 64 more.
abbrev pub Letter : ℕ
Letter = 64 + Ident

abbrev pub Digit : ℕ
Digit = 64 + Number

-- The class of a character is the kind of the shortest token that starts with it. Error: it starts nothing.
unfoldable pub punctuation : ℕ → ℕ
punctuation b =
    cond (eqb b 64) At
    (cond (eqb b 33) Bang
    (cond (eqb b 58) Colon
    (cond (eqb b 44) Comma
    (cond (eqb b 46) Dot
    (cond (eqb b 61) Equal
    (cond (eqb b 60) LAngle
    (cond (eqb b 62) RAngle
    (cond (eqb b 123) LBrace
    (cond (eqb b 125) RBrace
    (cond (eqb b 91) LBracket
    (cond (eqb b 93) RBracket
    (cond (eqb b 40) LParen
    (cond (eqb b 41) RParen
    (cond (eqb b 45) Minus
    (cond (eqb b 43) Plus
    (cond (eqb b 47) Slash
    (cond (eqb b 42) Star
    (cond (eqb b 59) Semicolon
    Error))))))))))))))))))

-- The arms of `next`, by the first byte.
unfoldable pub class : ℕ → ℕ
class b =
    cond (blank b) Whitespace
    (cond (eqb b 10) Newline
    (cond (eqb b 13) Cr
    (cond (eqb b 35) Comment
    (cond (letter b) Letter
    (cond (eqb b 36) SpecialIdent
    (cond (decimal b) Digit
    (cond (eqb b 34) QuotedIdent
    (punctuation b))))))))

-- f at i, i + 1, ..: n numbers
abbrev pub tabulate : (ℕ → ℕ) → ℕ → ℕ → List ℕ
tabulate f i zero = []
tabulate f i (suc n) = f i ∷ tabulate f (suc i) n

-- the class of every byte
unfoldable pub class_table : List ℕ
class_table = tabulate class 0 256
