-- `blocks::close::closing`: one test of the outcome. Assumes nothing.
use mathlib.Core.Bool.{true}
use mathlib.Core.Path.{sym, ◌∙◌}
use Rattle.grammar.specs.Block.{closing}
use Rattle.parser.proofs.Kit.{on, off, done}
use Rattle.blocks.proofs.close.closing.Goals as goal

pub returns-then-found_terminator : goal.returns-then-found_terminator
unfolding closing
returns-then-found_terminator c =
    on _ (sym c.found_terminator.ensures ∙ c.if-found_terminator.true) c.expect_keyword.ensures.ran

pub returns : goal.returns
unfolding closing
returns c =
    off _ (sym c.found_terminator.ensures ∙ c.if-found_terminator.false) (done true)
