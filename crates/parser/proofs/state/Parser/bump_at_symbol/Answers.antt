-- `parser::bump::bump_at_symbol`: the token where it is of this number. Assumes nothing.
use mathlib.Core.Bool.{true}
use Rattle.parser.proofs.Kit.{yes, no, done}
use Rattle.parser.proofs.state.Parser.bump_at_symbol.Goals as goal

pub returns-then-at_symbol : goal.returns-then-at_symbol
returns-then-at_symbol c =
    yes _ _ c.at_symbol.ensures c.if-at_symbol.true c.bump.ensures.ran

pub returns : goal.returns
returns c =
    no _ _ c.at_symbol.ensures c.if-at_symbol.false (done true)
