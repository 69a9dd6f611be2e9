-- `parser::bump::error_token`: the steps of its callees. Assumes nothing.
use Rattle.grammar.specs.Bump.{error_token}
use Rattle.parser.proofs.Kit.{node, ◌then◌}
use Rattle.parser.proofs.state.Parser.error_token.Goals as goal

pub returns : goal.returns
unfolding error_token
returns c =
    node _ (c.start_node-a.ensures) (c.error_here-b.ensures.ran then c.bump-d.ensures.ran) (c.finish_node.ensures)
