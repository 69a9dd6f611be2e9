-- `items::procedure::optional_signature`: one test. Assumes nothing.
use mathlib.Core.Bool.{true}
use Rattle.parser.proofs.Kit.{yes, no, done}
use Rattle.items.proofs.procedure.optional_signature.Goals as goal

pub returns-then-at_kind : goal.returns-then-at_kind
returns-then-at_kind c =
    yes _ _ c.at_kind.ensures c.if-at_kind.true c.parse_signature.ensures

pub returns : goal.returns
returns c =
    no _ _ c.at_kind.ensures c.if-at_kind.false (done true)
