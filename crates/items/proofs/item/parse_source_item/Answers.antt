-- `items::item::parse_source_item`: the arm that is found, and its function. Assumes nothing.
use Rattle.grammar.specs.Block.{parse_block}
use Rattle.items.proofs.Arms.{by_item}
use Rattle.items.proofs.item.parse_source_item.Goals as goal

pub returns : goal.returns
returns c =
    by_item c.item_arm_here-a.result (parse_block c.args.limit.forms) c.item_arm_here-a.ensures c.parse_arm.ensures
