-- `blocks::suffix::suffix_operand`: the tests in their order. Assumes nothing.
use mathlib.Core.Bool.{true, false}
use mathlib.Core.List.{[], ◌∷◌}
use mathlib.Core.Path.{refl}
use Rattle.grammar.specs.Block.{suffix_operand}
use Rattle.grammar.specs.Look.{at, one_of, name_like}
use Rattle.lexer.specs.Syntax.{LBracket, Number, QuotedString}
use Rattle.blocks.proofs.Laws.{operand_here, either, neither}
use Rattle.parser.proofs.Ahead.{at_here, at_not}
use Rattle.parser.proofs.Kit.{yes_to, no_to, done_to, ◌then_to◌}
use Rattle.blocks.proofs.suffix.suffix_operand.Goals as goal

pub returns-then-k-eq-L_BRACKET : goal.returns-then-k-eq-L_BRACKET
unfolding suffix_operand
returns-then-k-eq-L_BRACKET c =
    let group = at_here LBracket _ refl c.current-k.ensures c.if-k-eq-L_BRACKET.true in
    yes_to _ _ refl group (c.parse_balanced_group.ensures then_to done_to true)

pub returns-then-is_operand : goal.returns-then-is_operand
unfolding suffix_operand
returns-then-is_operand c =
    let no-group = at_not LBracket _ refl c.current-k.ensures c.if-k-eq-L_BRACKET.false in
    no_to _ _ refl no-group
    (either (at name_like) (at (one_of (Number ∷ QuotedString ∷ []))) (operand_here _ c.is_operand.ensures c.current-k.ensures) _ c.if-is_operand.true (c.bump.ensures.ran then_to done_to true))

pub returns : goal.returns
unfolding suffix_operand
returns c =
    let no-group = at_not LBracket _ refl c.current-k.ensures c.if-k-eq-L_BRACKET.false in
    no_to _ _ refl no-group
    (neither (at name_like) (at (one_of (Number ∷ QuotedString ∷ []))) (operand_here _ c.is_operand.ensures c.current-k.ensures) _ c.if-is_operand.false (c.error_here.ensures.ran then_to done_to false))
