-- `declarations::visibility::optional_visibility`: one test. Assumes nothing.
use mathlib.Core.Bool.{true}
use Rattle.grammar.specs.Item.{optional_visibility}
use Rattle.parser.proofs.Kit.{yes, no, done}
use Rattle.declarations.proofs.visibility.optional_visibility.Goals as goal

pub returns-then-at_keyword : goal.returns-then-at_keyword
unfolding optional_visibility
returns-then-at_keyword c =
    yes _ _ c.at_keyword.ensures c.if-at_keyword.true c.parse_visibility.ensures

pub returns : goal.returns
unfolding optional_visibility
returns c =
    no _ _ c.at_keyword.ensures c.if-at_keyword.false (done true)
