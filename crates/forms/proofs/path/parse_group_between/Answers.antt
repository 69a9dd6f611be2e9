-- `forms::path::parse_group_between`: the steps of its callees. Assumes nothing.
use mathlib.Core.Bool.{true}
use borrow.Author.Tests.{not-true, not-false}
use Rattle.forms.specs.Path.{group_rest}
use Rattle.grammar.specs.Path.{parse_balanced_group}
use Rattle.parser.proofs.Kit.{done, bind, ◌then◌, answers}
use Rattle.forms.proofs.path.parse_group_between.Goals as goal

pub returns-then-not-b : goal.returns-then-not-b
unfolding parse_balanced_group group_rest
returns-then-not-b c =
    let o = (not-true _ c.if-not-b.true) in
    c.bump_regular_trivia-a.ensures then bind _ (answers c.expect_symbol-b.ensures o) (done true)

pub returns : goal.returns
unfolding parse_balanced_group group_rest
returns c =
    let o = (not-false _ c.if-not-b.false) in
    c.bump_regular_trivia-a.ensures then bind _ (answers c.expect_symbol-b.ensures o) c.group_rest.ensures
