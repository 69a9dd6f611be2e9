-- `declarations::parts::optional_parens`: one test. Assumes nothing.
use mathlib.Core.Bool.{true}
use Rattle.parser.proofs.Kit.{yes, no, done}
use Rattle.declarations.proofs.parts.optional_parens.Goals as goal

pub returns-then-at_kind : goal.returns-then-at_kind
returns-then-at_kind c =
    yes _ _ c.at_kind.ensures c.if-at_kind.true c.parse_balanced_group.ensures

pub returns : goal.returns
returns c =
    no _ _ c.at_kind.ensures c.if-at_kind.false (done true)
