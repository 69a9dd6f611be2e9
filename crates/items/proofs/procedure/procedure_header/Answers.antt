-- `items::procedure::procedure_header`: the steps of its callees. Assumes nothing.
use Rattle.declarations.proofs.Steps.{two, steps}
use Rattle.parser.proofs.Kit.{◌then◌}
use Rattle.items.proofs.procedure.procedure_header.Goals as goal

pub returns : goal.returns
returns c =
    steps (two _ _ _) (c.name_behind-a.ensures then c.bump_regular_trivia-b.ensures then c.optional_signature-d.ensures then c.parse_line_tail.ensures)
