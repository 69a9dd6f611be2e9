-- `forms::path::parse_path_with_message`: the steps of its callees. Assumes nothing.
use Rattle.forms.specs.Path.{path_names}
use Rattle.grammar.specs.Path.{parse_path_with_message}
use Rattle.parser.proofs.Kit.{node, ◌then◌}
use Rattle.forms.proofs.path.parse_path_with_message.Goals as goal

pub returns : goal.returns
unfolding parse_path_with_message path_names
returns c =
    node _ c.start_node-a.ensures (c.bump_at-b.ensures then c.bump_non_comment_trivia-d.ensures then c.path_names-e.ensures)
    c.finish_node.ensures
