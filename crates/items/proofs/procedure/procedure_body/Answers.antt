-- `items::procedure::procedure_body`: the steps of its callees; the block's outcome says what closes it. Assumes nothing.
use Rattle.grammar.specs.Block.{closing}
use Rattle.grammar.specs.Item.{procedure_body}
use Rattle.grammar.specs.declared.block.BlockOwner.{BlockOwner}
use Rattle.declarations.proofs.Steps.{five, steps}
use Rattle.parser.proofs.Kit.{bind, ◌then◌}
use Rattle.items.proofs.procedure.procedure_body.Goals as goal

pub returns : goal.returns
unfolding procedure_body
returns c =
    steps (five _ _ _ _ _ _) (c.procedure_header-a.ensures then bind (closing BlockOwner.Procedure) c.parse_block-b.ensures.ran c.closing.ensures)
