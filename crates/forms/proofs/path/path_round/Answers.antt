-- `forms::path::path_round`: one test, of what lookahead found. Assumes nothing.
use mathlib.Core.Bool.{false}
use mathlib.Core.Path.{ap, ◌∙◌}
use Rattle.grammar.specs.Look.{at}
use Rattle.grammar.specs.Path.{path_round}
use Rattle.grammar.specs.Words.{is}
use Rattle.lexer.specs.Syntax.{ColonColon}
use Rattle.parser.proofs.Kit.{yes_to, no_to, done_to}
use Rattle.forms.proofs.path.path_round.Goals as goal

pub returns-then-at_kind : goal.returns-then-at_kind
unfolding path_round
returns-then-at_kind c =
    yes_to _ _ (c.at_kind.ensures ∙ ap (at (is ColonColon)) c.peek_after_non_comment_trivia-next.ensures.is) c.if-at_kind.true c.path_segment.ensures

pub returns : goal.returns
unfolding path_round
returns c =
    no_to _ _ (c.at_kind.ensures ∙ ap (at (is ColonColon)) c.peek_after_non_comment_trivia-next.ensures.is) c.if-at_kind.false (done_to false)
