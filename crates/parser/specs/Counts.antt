-- What bump_nesting does: it reports a closer that is refused, and hands back the counts. Assumes nothing: these are definitions.
use Rattle.std.specs.Prelude.{◌≡◌, Bool, ℕ, ◌+◌, Result, Ok, Err}
use Rattle.grammar.specs.Words.{Sym}
use Rattle.grammar.specs.Look.{current}
use Rattle.grammar.specs.Run.{P, take_token, ◌>>◌}
use Rattle.grammar.specs.declared.message.Message.{Message}
use Rattle.grammar.specs.declared.nesting.Nesting.{Nesting}
use Rattle.grammar.specs.declared.nesting.Closer.{Closer}
use Rattle.grammar.specs.Bump.{error_here, nop}
use Rattle.grammar.specs.Nesting.{bump_by, NestingBelow}
use Rattle.parser.specs.Rep.{World, remaining, Past, Ran}

unfoldable pub reported : Result Nesting Closer → P Bool
reported (Ok n) = nop
reported (Err c) = error_here (Message.UnexpectedCloser c)

unfoldable pub counts : Nesting → Result Nesting Closer → Nesting
counts n (Ok n') = n'
counts n (Err c) = n

-- the contract: a token of kind k makes of n the counts n'
pub record BumpNesting (n : Nesting) (k : Sym) (w w' : World) (n' : Nesting) : Type 0 where
  pub ran : Ran (reported (bump_by n k)) w w'
  pub is : n' ≡ counts n (bump_by n k)
  pub below : (b : ℕ) → NestingBelow b n → NestingBelow (b + 1) n'
  pub pos : w'.c.pos ≡ w.c.pos
  pub events : w'.p.events ≡ w.p.events

-- the same at a token, which is then taken; no count is more than the tokens taken
pub record BumpNested (n : Nesting) (w w' : World) (n' : Nesting) : Type 0 where
  pub ran : Ran (reported (bump_by n (current (remaining w))) >> take_token) w w'
  pub is : n' ≡ counts n (bump_by n (current (remaining w)))
  pub below : NestingBelow (w'.c.pos + 1) n'
  pub past : Past w w'
