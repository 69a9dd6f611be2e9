-- `blocks::suffix::suffix_round`: the steps of its callees. Assumes nothing.
use mathlib.Core.Bool.{false}
use Rattle.grammar.specs.Block.{suffix_round}
use Rattle.parser.proofs.Kit.{yes_to, no_to, done_to, ◌then_to◌}
use Rattle.blocks.proofs.suffix.suffix_round.Goals as goal

pub returns-then-not-at_kind : goal.returns-then-not-at_kind
unfolding suffix_round
returns-then-not-at_kind c =
    let no-dot = c.if-not-at_kind.true in
    c.bump_inline_whitespace-a.ensures then_to no_to _ _ c.at_kind.ensures no-dot (done_to false)

pub returns : goal.returns
unfolding suffix_round
returns c =
    let dot = c.if-not-at_kind.false in
    let operand = c.bump-b.ensures.ran then_to c.bump_inline_whitespace-d.ensures then_to c.suffix_operand.ensures in
    c.bump_inline_whitespace-a.ensures then_to yes_to _ _ c.at_kind.ensures dot operand
