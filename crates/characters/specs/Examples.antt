-- Sources with characters of two, three and four bytes, and where their tokens end, in characters and in bytes.
-- Assumes nothing.
use Rattle.std.specs.Prelude.{ℕ, ◌≡◌, refl, List, [], ◌∷◌, map}
use Prim.Native.Char.{code}
use Prim.Native.String.{String, [] as empty, ◌∷◌ as ◌before◌}
use Rattle.utf8.specs.Width.{width}
use Rattle.utf8.specs.Scalar.{encode}
use Rattle.lexer.specs.Syntax.{Error, Newline, Comment, Ident, Number, QuotedString}
use Rattle.lexer.specs.Chars.{class, punctuation}
use Rattle.lexer.specs.Lexer.{follow, advance_while, lex_while, same, special, quoted, stray, arm, next, tokens, tokenize}
use Rattle.lexer.specs.Tokens.{token_kind, ends, token_ends}
use Rattle.characters.specs.Text.{encode_all}
use Rattle.characters.specs.CharLexer.{char_quoted, char_match, char_next, char_tokens, char_tokenize}

unfoldable pub characters_of : String → List ℕ
characters_of empty = []
characters_of (c before s) = code c ∷ characters_of s

-- the kinds of a source's tokens, and where they end
pub record WideExample : Type 0 where
  pub source : String
  pub kinds : List ℕ
  pub in_characters : List ℕ
  pub in_bytes : List ℕ

-- by characters: the kinds and the ends; by bytes: the ends
unfoldable pub lexed_both_ways : WideExample → WideExample
lexed_both_ways e =
    let cs = characters_of e.source in
    record {
      source = e.source;
      kinds = map token_kind (char_tokenize cs);
      in_characters = ends 0 (char_tokenize cs);
      in_bytes = token_ends (encode_all cs);
    }

-- Stray characters are a token each, behind a word too. A comment, a quote and a backslash take whole characters.
pub wide_examples : List WideExample
wide_examples =
    record { source = "é€😀"; kinds = Error ∷ Error ∷ Error ∷ []; in_characters = 1 ∷ 2 ∷ 3 ∷ []; in_bytes = 2 ∷ 5 ∷ 9 ∷ [] }
    ∷ record { source = "aé1"; kinds = Ident ∷ Error ∷ Number ∷ []; in_characters = 1 ∷ 2 ∷ 3 ∷ []; in_bytes = 1 ∷ 3 ∷ 4 ∷ [] }
    ∷ record { source = "$é"; kinds = Error ∷ Error ∷ []; in_characters = 1 ∷ 2 ∷ []; in_bytes = 1 ∷ 3 ∷ [] }
    ∷ record { source = "# 😀\n"; kinds = Comment ∷ Newline ∷ []; in_characters = 3 ∷ 4 ∷ []; in_bytes = 6 ∷ 7 ∷ [] }
    ∷ record { source = "\"é\""; kinds = QuotedString ∷ []; in_characters = 3 ∷ []; in_bytes = 4 ∷ [] }
    ∷ record { source = "\"\\€\"a"; kinds = QuotedString ∷ Ident ∷ []; in_characters = 4 ∷ 5 ∷ []; in_bytes = 6 ∷ 7 ∷ [] }
    ∷ record { source = "\"é\n"; kinds = Error ∷ Newline ∷ []; in_characters = 2 ∷ 3 ∷ []; in_bytes = 3 ∷ 4 ∷ [] }
    ∷ []

pub wide_shown : map lexed_both_ways wide_examples ≡ wide_examples
unfolding wide_examples lexed_both_ways characters_of encode_all encode char_tokenize char_tokens char_next char_match char_quoted
    tokenize tokens next arm class punctuation follow advance_while lex_while same special quoted stray ends width
wide_shown = refl
