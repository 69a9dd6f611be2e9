-- `declarations::namespace::parse_namespace`: its node around the steps of its callees. Assumes nothing.
use Rattle.grammar.specs.Item.{parse_namespace}
use Rattle.parser.proofs.Kit.{node, ◌then◌}
use Rattle.declarations.proofs.namespace.parse_namespace.Goals as goal

pub returns : goal.returns
unfolding parse_namespace
returns c =
    node _ c.start_node-a.ensures (c.expect_keyword-b.ensures.ran then c.bump_regular_trivia-d.ensures then c.parse_path_with_message-e.ensures then c.parse_line_tail-f.ensures) c.finish_node.ensures
