-- Delimiter counts: they step by value, and a closer without its opener leaves them as they are.
-- Defines: Nesting::default, Nesting::is_root, Nesting::bump, closing_delimiter_text (by its message), bump_nesting.
-- Assumes nothing: these are definitions.
use Rattle.std.specs.Prelude.{◌≡◌, ℕ, suc, pred, ◌<◌, Bool, cond, ◌&&◌, eqb, Result, Ok, Err}
use Rattle.lexer.specs.Syntax.{LBrace, LBracket, LParen, RBrace, RBracket, RParen}
use Rattle.grammar.specs.Words.{Sym, is}
use Rattle.grammar.specs.Run.{Round, go, warn}
use Rattle.grammar.specs.Message.{Message, number}
pub use Rattle.grammar.specs.declared.nesting.Closer.{Closer}
pub use Rattle.grammar.specs.declared.nesting.Nesting.{Nesting}

abbrev pub default : Nesting
default = record { parens = 0; brackets = 0; braces = 0 }

unfoldable pub is_root : Nesting → Bool
is_root n = eqb 0 n.parens && (eqb 0 n.brackets && eqb 0 n.braces)

abbrev pub open_paren : Nesting → Nesting
open_paren n = record { parens = suc n.parens; brackets = n.brackets; braces = n.braces }

abbrev pub open_bracket : Nesting → Nesting
open_bracket n = record { parens = n.parens; brackets = suc n.brackets; braces = n.braces }

abbrev pub open_brace : Nesting → Nesting
open_brace n = record { parens = n.parens; brackets = n.brackets; braces = suc n.braces }

abbrev pub close_paren : Nesting → Result Nesting Closer
close_paren n = cond (eqb 0 n.parens) (Err Closer.Paren) (Ok (record { parens = pred n.parens; brackets = n.brackets; braces = n.braces }))

abbrev pub close_bracket : Nesting → Result Nesting Closer
close_bracket n = cond (eqb 0 n.brackets) (Err Closer.Bracket) (Ok (record { parens = n.parens; brackets = pred n.brackets; braces = n.braces }))

abbrev pub close_brace : Nesting → Result Nesting Closer
close_brace n = cond (eqb 0 n.braces) (Err Closer.Brace) (Ok (record { parens = n.parens; brackets = n.brackets; braces = pred n.braces }))

-- Nesting::bump
unfoldable pub bump_by : Nesting → Sym → Result Nesting Closer
bump_by n kind =
    cond (is LParen kind) (Ok (open_paren n))
    (cond (is LBracket kind) (Ok (open_bracket n))
    (cond (is LBrace kind) (Ok (open_brace n))
    (cond (is RParen kind) (close_paren n)
    (cond (is RBracket kind) (close_bracket n)
    (cond (is RBrace kind) (close_brace n)
    (Ok n))))))

-- bump_nesting and then bump, in a loop whose locals are `locals counts`.
unfoldable pub counted : {L : Type 0} → Nesting → (Nesting → L) → Result Nesting Closer → Round L
counted n locals (Ok n') = go (locals n')
counted n locals (Err c) = warn (number (Message.UnexpectedCloser c)) (locals n)

unfoldable pub bump_nesting : {L : Type 0} → Nesting → Sym → (Nesting → L) → Round L
bump_nesting n kind locals = counted n locals (bump_by n kind)

-- ---- For the code: each count is below n.
pub record NestingBelow (n : ℕ) (c : Nesting) : Type 0 where
  pub parens : c.parens < n
  pub brackets : c.brackets < n
  pub braces : c.braces < n

-- The count that a token of this kind adds one to is below n. A closer, and any other token, adds to none.
pub record OpensBelow (n : ℕ) (kind : Sym) (c : Nesting) : Type 0 where
  pub parens : kind ≡ LParen → c.parens < n
  pub brackets : kind ≡ LBracket → c.brackets < n
  pub braces : kind ≡ LBrace → c.braces < n
