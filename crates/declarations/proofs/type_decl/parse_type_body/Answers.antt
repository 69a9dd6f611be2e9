-- `declarations::type_decl::parse_type_body`: its node around the loop. Assumes nothing.
use Rattle.grammar.specs.Line.{parse_type_body}
use Rattle.parser.proofs.Kit.{node}
use Rattle.declarations.proofs.type_decl.parse_type_body.Goals as goal

pub returns : goal.returns
unfolding parse_type_body
returns c =
    node _ c.start_node-a.ensures c.type_tokens-b.ensures c.finish_node.ensures
