-- T3 to T6 of document 01's table, shown of the definitions by one statement over the table.
-- Assumes nothing.
use Rattle.std.specs.Prelude.{ℕ, Bool, true, ◌&&◌, List, [], ◌∷◌, T}
use Rattle.utf8.specs.Width.{width}
use Rattle.lexer.specs.Syntax.{Error, Newline, Number, QuotedIdent, QuotedString}
use Rattle.lexer.specs.Chars.{class}
use Rattle.lexer.specs.Lexer.{follow, advance_while, lex_while, same, special, quoted, stray, arm, next, tokens, tokenize}
use Rattle.lexer.specs.Tokens.{ends, token_kinds, token_ends}

-- a source, and the kinds and the ends of its tokens
pub record Example : Type 0 where
  pub source : List ℕ
  pub kinds : List ℕ
  pub ends : List ℕ

-- T3: CR CR LF. T4: `""`, `"a b"`. T5: a quote that takes a line break behind a backslash, and one that ends at it. T6: `0b12`.
pub lexer_table : List Example
lexer_table =
    record { source = 13 ∷ 13 ∷ 10 ∷ []; kinds = Newline ∷ Newline ∷ []; ends = 1 ∷ 3 ∷ [] }
    ∷ record { source = 34 ∷ 34 ∷ []; kinds = QuotedIdent ∷ []; ends = 2 ∷ [] }
    ∷ record { source = 34 ∷ 97 ∷ 32 ∷ 98 ∷ 34 ∷ []; kinds = QuotedString ∷ []; ends = 5 ∷ [] }
    ∷ record { source = 34 ∷ 97 ∷ 92 ∷ 10 ∷ 98 ∷ 34 ∷ []; kinds = QuotedString ∷ []; ends = 6 ∷ [] }
    ∷ record { source = 34 ∷ 97 ∷ 10 ∷ []; kinds = Error ∷ Newline ∷ []; ends = 2 ∷ 3 ∷ [] }
    ∷ record { source = 48 ∷ 98 ∷ 49 ∷ 50 ∷ []; kinds = Number ∷ Number ∷ []; ends = 3 ∷ 4 ∷ [] }
    ∷ []

pub right : Example → Bool
right e = same (token_kinds e.source) e.kinds && same (token_ends e.source) e.ends

pub every : List Example → Bool
every [] = true
every (e ∷ es) = right e && every es

pub lexer_shown : T (every lexer_table)
unfolding every lexer_table right tokenize tokens next arm class follow advance_while lex_while same special quoted stray ends width
lexer_shown = tt
