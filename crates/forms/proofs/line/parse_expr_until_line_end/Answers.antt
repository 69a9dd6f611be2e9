-- `forms::line::parse_expr_until_line_end`: the steps of its callees. Assumes nothing.
use Rattle.grammar.specs.Line.{parse_expr_until_line_end}
use Rattle.parser.proofs.Kit.{node, ◌then◌}
use Rattle.forms.proofs.line.parse_expr_until_line_end.Goals as goal

pub returns : goal.returns
unfolding parse_expr_until_line_end
returns c =
    c.bump_regular_trivia-a.ensures then node _ c.start_node-b.ensures c.expr_tokens-d.ensures c.finish_node.ensures
