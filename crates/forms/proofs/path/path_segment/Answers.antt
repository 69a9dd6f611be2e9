-- `forms::path::path_segment`: the steps of its callees. Assumes nothing.
use mathlib.Core.Bool.{true, false}
use mathlib.Core.Path.{refl}
use Rattle.grammar.specs.Look.{one_of, name_like}
use Rattle.grammar.specs.Path.{path_segment}
use Rattle.parser.proofs.Kit.{yes_to, no_to, done_to, ◌then_to◌}
use Rattle.parser.proofs.Laws.{at_by}
use Rattle.forms.proofs.path.path_segment.Goals as goal

pub returns-then-is_name_like : goal.returns-then-is_name_like
unfolding path_segment name_like one_of
returns-then-is_name_like c =
    let e = at_by name_like _ refl c.is_name_like.ensures c.current.ensures in
    c.bump_non_comment_trivia-a.ensures then_to c.bump-b.ensures.ran then_to c.bump_non_comment_trivia-d.ensures then_to
    yes_to _ _ e c.if-is_name_like.true (c.bump.ensures.ran then_to done_to true)

pub returns : goal.returns
unfolding path_segment name_like one_of
returns c =
    let e = at_by name_like _ refl c.is_name_like.ensures c.current.ensures in
    c.bump_non_comment_trivia-a.ensures then_to c.bump-b.ensures.ran then_to c.bump_non_comment_trivia-d.ensures then_to
    no_to _ _ e c.if-is_name_like.false (c.error_here.ensures.ran then_to done_to false)
