-- `declarations::signature::parse_signature`: its node, with and without results. Assumes nothing.
use mathlib.Core.Bool.{true}
use mathlib.Core.Path.{ap, ◌∙◌}
use Rattle.grammar.specs.Item.{parse_signature}
use Rattle.grammar.specs.Look.{at}
use Rattle.grammar.specs.Words.{is}
use Rattle.lexer.specs.Syntax.{RArrow}
use Rattle.declarations.proofs.Steps.{reaches}
use Rattle.parser.proofs.Kit.{yes, no, node, done, ◌then◌}
use Rattle.declarations.proofs.signature.parse_signature.Goals as goal
use Rattle.declarations.proofs.signature.parse_signature.Goals.{then-at_kind, else-at_kind}

pub returns : goal.returns
unfolding parse_signature
returns c =
    let a = c.at_kind.ensures ∙ ap (at (is RArrow)) c.peek_after_non_comment_trivia-next.ensures.is in
    node _ c.start_node-a.ensures (c.parse_balanced_group-b.ensures then elim c.if-at_kind.branch [
      | then-at_kind w ↦ reaches w.parser-is w.d-is (yes _ _ a w.if-at_kind.true w.parse_results-d.ensures)
      | else-at_kind w ↦ reaches w.parser-is w.d-is (no _ _ a w.if-at_kind.false (done true))
    ]) c.finish_node.ensures
