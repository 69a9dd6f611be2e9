-- The reading of a source, from its bytes: its tokens as the grammar reads them, its events and its diagnostics in bytes.
-- Assumes nothing: these are definitions.
use Rattle.std.specs.Prelude.{ℕ, List, map}
use Rattle.utf8.specs.Last.{last_char}
use Rattle.lexer.specs.Lexer.{Token, tokenize}
use Rattle.lexer.specs.Tokens.{token_kinds, token_ends}
use Rattle.grammar.specs.Words.{Sym, sym_of}
use Rattle.grammar.specs.Out.{events, diags, Place, places}

abbrev pub token_symbol : Token → Sym
token_symbol t = sym_of t.kind t.text

abbrev pub syms : List Token → List Sym
syms ts = map token_symbol ts

abbrev pub symbols : List ℕ → List Sym
symbols s = syms (tokenize s)

abbrev pub source_events : ℕ → List ℕ → List ℕ
source_events limit s = events limit (symbols s)

-- A diagnostic at the end of the file stands at the last character.
abbrev pub source_places : ℕ → List ℕ → List Place
source_places limit s = places (token_ends s) (last_char s) (diags limit (symbols s))

-- All of it, with the tokens' kinds and ends.
pub record Reading : Type 0 where
  pub source : List ℕ
  pub kinds : List ℕ
  pub ends : List ℕ
  pub events : List ℕ
  pub diagnostics : List Place

abbrev pub reading : ℕ → List ℕ → Reading
reading limit s = record {
  source = s;
  kinds = token_kinds s;
  ends = token_ends s;
  events = source_events limit s;
  diagnostics = source_places limit s;
}
