-- `declarations::visibility::package_in_parens`: the steps of its callees. Assumes nothing.
use Rattle.grammar.specs.Item.{package_in_parens}
use Rattle.parser.proofs.Kit.{◌then◌}
use Rattle.declarations.proofs.visibility.package_in_parens.Goals as goal

pub returns : goal.returns
unfolding package_in_parens
returns c =
    c.bump_regular_trivia-a.ensures then c.bump-b.ensures.ran then c.expect_keyword-d.ensures.ran then c.expect_kind-e.ensures.ran
