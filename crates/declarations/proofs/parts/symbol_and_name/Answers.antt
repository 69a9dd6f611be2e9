-- `declarations::parts::symbol_and_name`: the steps of its callees. Assumes nothing.
use Rattle.parser.proofs.Kit.{◌then◌}
use Rattle.declarations.proofs.parts.symbol_and_name.Goals as goal

pub returns : goal.returns
returns c =
    c.expect_symbol-a.ensures.ran then c.name_behind.ensures
