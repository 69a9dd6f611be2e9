-- `parser::bump::expect_name`: the name or a report. Assumes nothing.
use mathlib.Core.Path.{refl}
use Rattle.grammar.specs.Bump.{expect_name}
use Rattle.grammar.specs.Look.{one_of, name_like}
use Rattle.parser.proofs.Kit.{yes, no}
use Rattle.parser.proofs.Laws.{at_by}
use Rattle.parser.proofs.state.Parser.expect_name.Goals as goal

pub returns-then-is_name_like : goal.returns-then-is_name_like
unfolding expect_name name_like one_of
returns-then-is_name_like c =
    let e = at_by name_like _ refl c.is_name_like.ensures c.current.ensures in
    yes _ _ e c.if-is_name_like.true c.bump.ensures.ran

pub returns : goal.returns
unfolding expect_name name_like one_of
returns c =
    let e = at_by name_like _ refl c.is_name_like.ensures c.current.ensures in
    no _ _ e c.if-is_name_like.false (c.error_here.ensures.ran)
