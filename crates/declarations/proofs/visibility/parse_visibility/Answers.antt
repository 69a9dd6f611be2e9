-- `declarations::visibility::parse_visibility`: its node, with and without the parentheses. Assumes nothing.
use mathlib.Core.Bool.{true}
use mathlib.Core.Path.{ap, ◌∙◌}
use Rattle.grammar.specs.Item.{parse_visibility}
use Rattle.grammar.specs.Look.{at}
use Rattle.grammar.specs.Words.{is}
use Rattle.lexer.specs.Syntax.{LParen}
use Rattle.declarations.proofs.Steps.{reaches}
use Rattle.parser.proofs.Kit.{yes, no, node, done, ◌then◌}
use Rattle.declarations.proofs.visibility.parse_visibility.Goals as goal
use Rattle.declarations.proofs.visibility.parse_visibility.Goals.{then-at_kind, else-at_kind}

pub returns : goal.returns
unfolding parse_visibility
returns c =
    let a = c.at_kind.ensures ∙ ap (at (is LParen)) c.next_relevant_top_level_token-next.ensures.is in
    node _ c.start_node-a.ensures (c.expect_keyword-b.ensures.ran then elim c.if-at_kind.branch [
      | then-at_kind w ↦ reaches w.parser-is w.d-is (yes _ _ a w.if-at_kind.true w.package_in_parens-d.ensures)
      | else-at_kind w ↦ reaches w.parser-is w.d-is (no _ _ a w.if-at_kind.false (done true))
    ]) c.finish_node.ensures
