-- `declarations::parts::value_line`: the steps of its callees. Assumes nothing.
use Rattle.parser.proofs.Kit.{◌then◌}
use Rattle.declarations.proofs.parts.value_line.Goals as goal

pub returns : goal.returns
returns c =
    c.expect_kind-a.ensures.ran then c.parse_expr_until_line_end-b.ensures then c.parse_line_tail.ensures
