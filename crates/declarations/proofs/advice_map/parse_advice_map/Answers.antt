-- `declarations::advice_map::parse_advice_map`: its node around the steps of its callees. Assumes nothing.
use Rattle.grammar.specs.Item.{parse_advice_map}
use Rattle.declarations.proofs.Steps.{three, steps}
use Rattle.parser.proofs.Kit.{node, ◌then◌}
use Rattle.declarations.proofs.advice_map.parse_advice_map.Goals as goal

pub returns : goal.returns
unfolding parse_advice_map
returns c =
    node _ c.start_node-a.ensures (steps (three _ _ _ _) (c.keyword_and_name-b.ensures then c.bump_inline_whitespace-d.ensures then c.optional_parens-e.ensures then c.value_line-f.ensures)) c.finish_node.ensures
