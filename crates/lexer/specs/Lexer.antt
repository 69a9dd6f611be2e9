-- lexer.rs: advance_while, lex_trivia, lex_identifier, lex_number, lex_quoted, next, tokenize, on the bytes of a source.
-- Assumes nothing: these are definitions.
use Rattle.std.specs.Prelude.{ℕ, zero, suc, pred, Bool, true, false, not, ◌&&◌, ◌||◌, cond, List, [], ◌∷◌, eqb, length, take}
use Rattle.utf8.specs.Width.{width}
use Rattle.lexer.specs.Syntax.{Error, Whitespace, Newline, Comment, DocComment, Ident, SpecialIdent, Number, QuotedIdent, QuotedString, Colon, ColonColon, Dot, DotDot, DotDotDot, Minus, RArrow, Slash, SlashSlash}
use Rattle.lexer.specs.Chars.{blank, line_end, decimal, hex, binary, word, graphic, Cr, Letter, Digit, class}

-- The token that starts at a byte: its kind, and how many bytes it takes behind that one.
pub record Lexeme : Type 0 where
  pub kind : ℕ
  pub more : ℕ

-- A function of the lexer reads the bytes behind the token's first one.
abbrev pub LexRule : Type 0
LexRule = List ℕ → Lexeme

-- nothing is taken
abbrev pub lex_one : ℕ → LexRule
lex_one k r = record { kind = k; more = 0 }

abbrev pub later : Lexeme → Lexeme
later t = record { kind = t.kind; more = suc t.more }

abbrev pub choose : Bool → LexRule → LexRule → LexRule
choose true f g = f
choose false f g = g

-- if self.current_char() == Some(x) { self.advance_char(); f } else { g }
unfoldable pub follow : ℕ → LexRule → LexRule → LexRule
follow x f g [] = g []
follow x f g (b ∷ r) = let t = later (f r) in let u = g (b ∷ r) in cond (eqb b x) t u

-- how many bytes
unfoldable pub advance_while : (ℕ → Bool) → List ℕ → ℕ
advance_while p [] = 0
advance_while p (b ∷ r) = let n = suc (advance_while p r) in cond (p b) n 0

unfoldable pub lex_while : ℕ → (ℕ → Bool) → LexRule
lex_while k p r = record { kind = k; more = advance_while p r }

abbrev pub in_line : ℕ → Bool
in_line b = not (line_end b)

-- lex_trivia: CR LF is one newline; `#!` opens a doc comment
abbrev pub cr : LexRule
cr = follow 10 (lex_one Newline) (lex_one Newline)

abbrev pub comment : LexRule
comment = follow 33 (lex_while DocComment in_line) (lex_while Comment in_line)

-- two texts are the same
unfoldable pub same : List ℕ → List ℕ → Bool
same [] [] = true
same [] (y ∷ ys) = false
same (x ∷ xs) [] = false
same (x ∷ xs) (y ∷ ys) = eqb x y && same xs ys

abbrev pub kernel : List ℕ
kernel = 107 ∷ 101 ∷ 114 ∷ 110 ∷ 101 ∷ 108 ∷ []

abbrev pub exec : List ℕ
exec = 101 ∷ 120 ∷ 101 ∷ 99 ∷ []

-- lex_identifier: behind `$` only `kernel` and `exec`
unfoldable pub special : LexRule
special r = let n = advance_while word r in
    record { kind = cond (same (take n r) kernel || same (take n r) exec) SpecialIdent Error; more = n }

-- lex_number: `0x` and `0b` need no digit behind them
abbrev pub zero_led : LexRule
zero_led =
    follow 120 (lex_while Number hex)
    (follow 88 (lex_while Number hex)
    (follow 98 (lex_while Number binary)
    (follow 66 (lex_while Number binary)
    (lex_while Number decimal))))

abbrev pub lex_number : ℕ → LexRule
lex_number b = choose (eqb b 48) zero_led (lex_while Number decimal)

-- lex_quoted, at a byte that no backslash stands before: a line end, the closing quote, or else it is taken and t follows
abbrev pub unescaped : (line closes identifier_like : Bool) → Lexeme → Lexeme
unescaped true c i t = record { kind = Error; more = 0 }
unescaped false true i t = record { kind = cond i QuotedIdent QuotedString; more = 1 }
unescaped false false i t = later t

-- lex_quoted: `taken`, a backslash stands before; `identifier_like`, no backslash so far and all of it graphic
unfoldable pub quoted : (taken identifier_like : Bool) → LexRule
quoted t i [] = record { kind = Error; more = 0 }
quoted true i (b ∷ r) = later (quoted false i r)
quoted false i (b ∷ r) = let t = quoted (eqb b 92) (i && (graphic b && not (eqb b 92))) r in unescaped (line_end b) (eqb b 34) i t

-- `.`, `..` and `...`
abbrev pub dots : LexRule
dots = follow 46 (follow 46 (lex_one DotDotDot) (lex_one DotDot)) (lex_one Dot)

-- a character that starts nothing: all its bytes
unfoldable pub stray : ℕ → LexRule
stray b r = record { kind = Error; more = length (take (pred (width b)) r) }

-- `next`, by the class of the first byte
unfoldable pub arm : ℕ → ℕ → LexRule
arm c b =
    choose (eqb c Whitespace) (lex_while Whitespace blank)
    (choose (eqb c Cr) cr
    (choose (eqb c Comment) comment
    (choose (eqb c Letter) (lex_while Ident word)
    (choose (eqb c SpecialIdent) special
    (choose (eqb c Digit) (lex_number b)
    (choose (eqb c QuotedIdent) (quoted false true)
    (choose (eqb c Colon) (follow 58 (lex_one ColonColon) (lex_one Colon))
    (choose (eqb c Dot) dots
    (choose (eqb c Minus) (follow 62 (lex_one RArrow) (lex_one Minus))
    (choose (eqb c Slash) (follow 47 (lex_one SlashSlash) (lex_one Slash))
    (choose (eqb c Error) (stray b)
    (lex_one c))))))))))))

unfoldable pub next : ℕ → LexRule
next b = arm (class b) b

-- A token: its kind and its bytes.
pub record Token : Type 0 where
  pub kind : ℕ
  pub text : List ℕ

-- tokenize, with as many bytes to pass over first: those of the token before
unfoldable pub tokens : ℕ → List ℕ → List Token
tokens k [] = []
tokens zero (b ∷ r) = let t = next b r in record { kind = t.kind; text = b ∷ take t.more r } ∷ tokens t.more r
tokens (suc k) (b ∷ r) = tokens k r

unfoldable pub tokenize : List ℕ → List Token
tokenize s = tokens 0 s
