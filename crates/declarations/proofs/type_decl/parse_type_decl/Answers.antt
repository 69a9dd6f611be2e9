-- `declarations::type_decl::parse_type_decl`: its node around the steps of its callees. Assumes nothing.
use Rattle.grammar.specs.Item.{parse_type_decl}
use Rattle.parser.proofs.Kit.{node, ◌then◌}
use Rattle.declarations.proofs.type_decl.parse_type_decl.Goals as goal

pub returns : goal.returns
unfolding parse_type_decl
returns c =
    node _ c.start_node-a.ensures (c.optional_visibility-b.ensures then c.bump_regular_trivia-d.ensures then c.type_keyword-e.ensures) c.finish_node.ensures
