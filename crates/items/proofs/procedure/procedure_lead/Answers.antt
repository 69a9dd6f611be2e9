-- `items::procedure::procedure_lead`: the steps of its callees. Assumes nothing.
use Rattle.parser.proofs.Kit.{◌then_to◌}
use Rattle.items.proofs.procedure.procedure_lead.Goals as goal

pub returns : goal.returns
returns c =
    c.attributes-a.ensures then_to c.bump_regular_trivia-b.ensures then_to c.optional_visibility-d.ensures then_to c.bump_regular_trivia-e.ensures then_to c.expect_keyword.ensures
