-- `declarations::attribute::parse_attribute`: its node around the steps of its callees. Assumes nothing.
use Rattle.grammar.specs.Item.{parse_attribute}
use Rattle.declarations.proofs.Steps.{two, steps}
use Rattle.parser.proofs.Kit.{node, ◌then◌}
use Rattle.declarations.proofs.attribute.parse_attribute.Goals as goal

pub returns : goal.returns
unfolding parse_attribute
returns c =
    node _ c.start_node-a.ensures (c.expect_kind-b.ensures.ran then steps (two _ _ _) (c.name_behind-d.ensures then c.bump_inline_whitespace-e.ensures then c.optional_parens-f.ensures)) c.finish_node.ensures
