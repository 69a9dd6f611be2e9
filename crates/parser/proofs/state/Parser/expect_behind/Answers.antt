-- `parser::bump::expect_behind`: trivia, then the token or a report. Assumes nothing.
use mathlib.Core.Bool.{true, false}
use Rattle.grammar.specs.Bump.{expect_kind}
use Rattle.parser.proofs.Kit.{yes_to, no_to, done_to, ◌then_to◌}
use Rattle.parser.proofs.state.Parser.expect_behind.Goals as goal

pub returns-then-at_symbol : goal.returns-then-at_symbol
unfolding expect_kind
returns-then-at_symbol c =
    c.bump_regular_trivia-c.ensures then_to yes_to _ _ c.at_symbol.ensures c.if-at_symbol.true (c.bump.ensures.ran then_to done_to true)

pub returns : goal.returns
unfolding expect_kind
returns c =
    c.bump_regular_trivia-c.ensures then_to no_to _ _ c.at_symbol.ensures c.if-at_symbol.false (c.error_here.ensures.ran then_to done_to false)
