-- lexer.rs over characters. A source is a list of characters, each by its scalar value.
-- What lexer/specs/Lexer and Chars say as lexer.rs does is taken from there: they read lists of numbers, and an ASCII character's
-- number is its byte. What they say in another form stands here as in lexer.rs: `match` where they go by classes, the loop of
-- lex_quoted, and a character that starts nothing, which is one character and not some bytes.
-- Assumes nothing: these are definitions.
use Rattle.std.specs.Prelude.{ℕ, zero, suc, Bool, true, false, not, ◌&&◌, ◌||◌, cond, List, [], ◌∷◌, eqb, take}
use Prim.Native.Char.{Char, code}
use Rattle.lexer.specs.Syntax.{Error, Whitespace, Newline, Ident, QuotedIdent, QuotedString, At, Bang, Colon, ColonColon, Comma, Equal, LAngle, LBrace, LBracket, LParen, Minus, Plus, RAngle, RArrow, RBrace, RBracket, RParen, Semicolon, Slash, SlashSlash, Star}
use Rattle.lexer.specs.Chars.{blank, line_end, decimal, letter, word, graphic}
use Rattle.lexer.specs.Lexer.{Lexeme, LexRule, lex_one, later, choose, follow, lex_while, cr, comment, special, lex_number, dots, Token}
use Rattle.characters.specs.Text.{encode_all}

-- ch == x
abbrev pub is_char : Char → ℕ → Bool
is_char x c = eqb c (code x)

-- lex_trivia
abbrev pub char_trivia : ℕ → LexRule
char_trivia first =
    choose (blank first) (lex_while Whitespace blank)
    (choose (is_char "\n" first) (lex_one Newline)
    (choose (is_char "\r" first) cr
    comment))

-- lex_identifier
abbrev pub char_identifier : ℕ → LexRule
char_identifier first = choose (is_char "$" first) special (lex_while Ident word)

-- what lex_quoted gives where the quote was not closed, and where it was, by its flags
abbrev pub unclosed_quote : Lexeme
unclosed_quote = record { kind = Error; more = 0 }

abbrev pub closed_quote : (escaped identifier_like : Bool) → Lexeme
closed_quote escaped identifier_like = record { kind = cond (escaped || not identifier_like) QuotedString QuotedIdent; more = 1 }

-- while let Some(ch) = self.current_char() { match ch { .. } }; behind a backslash the next character is taken, if there is one
unfoldable mutual
  pub char_quoted : (escaped identifier_like : Bool) → LexRule
  char_quoted escaped identifier_like [] = unclosed_quote
  char_quoted escaped identifier_like (c ∷ r) =
      let t = later (char_escaped r) in
      let u = later (char_quoted escaped (identifier_like && graphic c) r) in
      cond (line_end c) unclosed_quote
      (cond (is_char "\\" c) t
      (cond (is_char "\"" c) (closed_quote escaped identifier_like)
      u))

  pub char_escaped : LexRule
  char_escaped [] = unclosed_quote
  char_escaped (c ∷ r) = later (char_quoted true false r)

-- match current { .. }; `other` stands for what its last arm, `_`, does
unfoldable pub char_match : ℕ → LexRule → LexRule
char_match c other =
    choose (blank c || (is_char "\n" c || (is_char "\r" c || is_char "#" c))) (char_trivia c)
    (choose (letter c || is_char "$" c) (char_identifier c)
    (choose (decimal c) (lex_number c)
    (choose (is_char "\"" c) (char_quoted false true)
    (choose (is_char "@" c) (lex_one At)
    (choose (is_char "!" c) (lex_one Bang)
    (choose (is_char ":" c) (follow (code ":") (lex_one ColonColon) (lex_one Colon))
    (choose (is_char "," c) (lex_one Comma)
    (choose (is_char "." c) dots
    (choose (is_char "=" c) (lex_one Equal)
    (choose (is_char "<" c) (lex_one LAngle)
    (choose (is_char ">" c) (lex_one RAngle)
    (choose (is_char "{" c) (lex_one LBrace)
    (choose (is_char "}" c) (lex_one RBrace)
    (choose (is_char "[" c) (lex_one LBracket)
    (choose (is_char "]" c) (lex_one RBracket)
    (choose (is_char "(" c) (lex_one LParen)
    (choose (is_char ")" c) (lex_one RParen)
    (choose (is_char "-" c) (follow (code ">") (lex_one RArrow) (lex_one Minus))
    (choose (is_char "+" c) (lex_one Plus)
    (choose (is_char "/" c) (follow (code "/") (lex_one SlashSlash) (lex_one Slash))
    (choose (is_char "*" c) (lex_one Star)
    (choose (is_char ";" c) (lex_one Semicolon)
    other))))))))))))))))))))))

-- _ => { self.advance_char(); Error }
unfoldable pub char_next : ℕ → LexRule
char_next c = char_match c (lex_one Error)

-- tokenize, with as many characters to pass over first: those of the token before
unfoldable pub char_tokens : ℕ → List ℕ → List Token
char_tokens k [] = []
char_tokens zero (c ∷ r) = let t = char_next c r in record { kind = t.kind; text = c ∷ take t.more r } ∷ char_tokens t.more r
char_tokens (suc k) (c ∷ r) = char_tokens k r

unfoldable pub char_tokenize : List ℕ → List Token
char_tokenize cs = char_tokens 0 cs

-- a token of characters as a token of bytes: the kind, and the bytes of the text
abbrev pub encoded : Token → Token
encoded t = record { kind = t.kind; text = encode_all t.text }
