-- `items::procedure::parse_begin_block`: its node around the steps of its callees. Assumes nothing.
use Rattle.grammar.specs.Block.{closing}
use Rattle.grammar.specs.Item.{parse_begin_block}
use Rattle.grammar.specs.declared.block.BlockOwner.{BlockOwner}
use Rattle.parser.proofs.Kit.{node, bind, ◌then◌}
use Rattle.items.proofs.procedure.parse_begin_block.Goals as goal

pub returns : goal.returns
unfolding parse_begin_block
returns c =
    node _ c.start_node-a.ensures (c.expect_keyword-b.ensures.ran then c.parse_line_tail-d.ensures then bind (closing BlockOwner.Begin) c.parse_block-e.ensures.ran c.closing-g.ensures) c.finish_node.ensures
