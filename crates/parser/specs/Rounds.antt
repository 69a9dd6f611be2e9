-- The rounds of a loop. Assumes nothing: these are definitions.
use Rattle.std.specs.Prelude.{Bool}
use Rattle.std.specs.Borrow.{MutBor}
use Rattle.grammar.specs.Run.{P}
use Rattle.grammar.specs.Laws.Live.{Truly}
use Rattle.parser.specs.Rep.{world, RanTo}
use Rattle.parser.specs.declared.cursor.Cursor.{Cursor}
use Rattle.parser.specs.declared.cursor.Flow.{Flow}
use Rattle.parser.specs.declared.state.Parser.{Parser}

-- a function of the code, by what its calls may give, does as f, which takes a token where it says that there is another round
pub record RoundOf (f : P Bool) (gives : MutBor Parser → Cursor → Flow → MutBor Parser → Type 0) : Type 0 where
  pub ran : (p : MutBor Parser) (c : Cursor) (r : Flow) (q : MutBor Parser) → gives p c r q → RanTo f (world p.now c) (world q.now r.c) r.ok
  pub takes : Truly f
