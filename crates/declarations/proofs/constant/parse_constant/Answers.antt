-- `declarations::constant::parse_constant`: its node around the steps of its callees. Assumes nothing.
use Rattle.grammar.specs.Item.{parse_constant}
use Rattle.declarations.proofs.Steps.{three, steps}
use Rattle.parser.proofs.Kit.{node, ◌then◌}
use Rattle.declarations.proofs.constant.parse_constant.Goals as goal

pub returns : goal.returns
unfolding parse_constant
returns c =
    node _ c.start_node-a.ensures (c.optional_visibility-b.ensures then steps (three _ _ _ _) (c.keyword_and_name-d.ensures then c.value_line-e.ensures)) c.finish_node.ensures
