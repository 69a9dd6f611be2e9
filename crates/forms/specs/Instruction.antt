-- Where instructions end, and what their first tokens are taken as. Assumes nothing: these are definitions.
use Rattle.std.specs.Prelude.{◌≡◌, ℕ, Bool, cond, not, ◌&&◌, ◌||◌, List, [], ◌∷◌, Option, Some, None, is_some}
use Rattle.lexer.specs.Syntax.{Whitespace, Newline, Comment, DocComment}
use Rattle.grammar.specs.Words.{Sym}
use Rattle.grammar.specs.Look.{expects_continuation_operand, one_of, at, at_kind, at_terminator, can_start_operation, at_block_recovery_boundary}
use Rattle.grammar.specs.declared.block.Terminators.{Terminators}
use Rattle.grammar.specs.declared.nesting.Nesting.{Nesting}
use Rattle.grammar.specs.Nesting.{default, is_root}
use Rattle.grammar.specs.Instruction.{Inst, instruction_round, before_first, should_continue_instruction_after_whitespace, should_stop_instruction_before}
use Rattle.grammar.specs.Run.{scan}
use Rattle.parser.specs.Rep.{World, Onward, RanTo}

-- a terminator, an operation, or what ends a block that lacks its `end`
abbrev pub starts_next : List Sym → Bool
starts_next r = at_terminator Terminators.ElseEnd r || (can_start_operation r || at_block_recovery_boundary r)

-- an instruction ends before the token here
unfoldable pub instruction_ends : Option Sym → Nesting → List Sym → Bool
instruction_ends previous n r =
    cond (at_kind Whitespace r) (not (should_continue_instruction_after_whitespace previous n r))
    (cond (at (one_of (Newline ∷ Comment ∷ DocComment ∷ [])) r) (is_root n)
    (is_some previous && should_stop_instruction_before previous n r))

-- the loop's locals behind a token, outside delimiters
abbrev pub behind : Option Sym → Inst
behind previous = record { nesting = default; previous = previous }

-- as bits: the kinds that neither change the counts nor are trivia or Error, and those of them that continue an instruction wherever they stand
abbrev pub plain_kinds : ℕ
plain_kinds = 0xf1e3fff80000000

abbrev pub plain_punctuation : ℕ
plain_punctuation = 0xe161fc000000000

-- the plain kinds that an instruction goes on with behind `previous`, outside delimiters
unfoldable pub open_behind : Option Sym → ℕ
open_behind None = plain_kinds
open_behind (Some k) = cond (expects_continuation_operand k) plain_kinds plain_punctuation

-- The loop's first rounds, from w to v, leave the counts as they were: what goes on behind them goes on from the start. Events are all
-- that is written.
pub record PlainTokens (w v : World) (previous : Option Sym) : Type 0 where
  pub leads : (w' : World) (l : Inst) → RanTo (scan instruction_round (behind previous)) v w' l → RanTo (scan instruction_round before_first) w w' l
  pub onward : Onward w v
  pub messages : v.p.messages ≡ w.p.messages
  pub starts : v.p.starts ≡ w.p.starts
