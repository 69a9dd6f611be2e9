-- `forms::path::path_names`: the steps of its callees. Assumes nothing.
use mathlib.Core.Path.{refl}
use Rattle.forms.specs.Path.{path_names}
use Rattle.grammar.specs.Look.{one_of, name_like}
use Rattle.parser.proofs.Kit.{yes, no, ◌then◌}
use Rattle.parser.proofs.Laws.{at_by}
use Rattle.forms.proofs.path.path_names.Goals as goal

pub returns-then-is_name_like : goal.returns-then-is_name_like
unfolding path_names name_like one_of
returns-then-is_name_like c =
    let e = at_by name_like _ refl c.is_name_like.ensures c.current.ensures in
    yes _ _ e c.if-is_name_like.true (c.bump-d.ensures.ran then c.path_segments.ensures)

pub returns : goal.returns
unfolding path_names name_like one_of
returns c =
    let e = at_by name_like _ refl c.is_name_like.ensures c.current.ensures in
    no _ _ e c.if-is_name_like.false (c.error_here.ensures.ran)
