-- `declarations::attribute::attribute_round`: trivia, then an attribute or none. Assumes nothing.
use mathlib.Core.Bool.{true, false}
use Rattle.grammar.specs.Item.{attribute_round}
use Rattle.parser.proofs.Kit.{yes_to, no_to, done_to, ◌then_to◌}
use Rattle.declarations.proofs.attribute.attribute_round.Goals as goal

pub returns-then-at_kind : goal.returns-then-at_kind
unfolding attribute_round
returns-then-at_kind c =
    c.bump_regular_trivia-a.ensures then_to yes_to _ _ c.at_kind.ensures c.if-at_kind.true (c.parse_attribute.ensures then_to done_to true)

pub returns : goal.returns
unfolding attribute_round
returns c =
    c.bump_regular_trivia-a.ensures then_to no_to _ _ c.at_kind.ensures c.if-at_kind.false (done_to false)
