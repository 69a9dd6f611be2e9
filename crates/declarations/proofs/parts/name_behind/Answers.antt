-- `declarations::parts::name_behind`: the steps of its callees. Assumes nothing.
use Rattle.parser.proofs.Kit.{◌then◌}
use Rattle.declarations.proofs.parts.name_behind.Goals as goal

pub returns : goal.returns
returns c =
    c.bump_regular_trivia-a.ensures then c.expect_name.ensures
