-- What it says that a source is lexed by its bytes as by its characters, and that a token is whole characters.
-- Assumes nothing: these are definitions.
use Rattle.std.specs.Prelude.{◌≡◌, List, map, ℕ}
use Rattle.lexer.specs.Lexer.{Token, tokenize}
use Rattle.utf8.specs.WellFormed.{WellFormed}
use Rattle.characters.specs.Text.{Scalars, encode_all}
use Rattle.characters.specs.CharLexer.{char_tokenize, encoded}

-- s is the bytes of one text alone, and its tokens are the tokens of that text's characters, encoded
pub record ByCharacters (s : List ℕ) : Type 0 where
  pub characters : List ℕ
  pub scalars : Scalars characters
  pub bytes : encode_all characters ≡ s
  pub only : (cs : List ℕ) → Scalars cs → encode_all cs ≡ s → cs ≡ characters
  pub tokens : tokenize s ≡ map encoded (char_tokenize characters)

abbrev pub WholeCharacters : Token → Type 0
WholeCharacters t = WellFormed t.text
