-- `declarations::signature::parse_results`: the steps of its callees, and one test. Assumes nothing.
use Rattle.grammar.specs.Item.{parse_results}
use Rattle.parser.proofs.Kit.{yes, no, ◌then◌}
use Rattle.declarations.proofs.signature.parse_results.Goals as goal

pub returns-then-at_kind : goal.returns-then-at_kind
unfolding parse_results
returns-then-at_kind c =
    c.bump_non_comment_trivia-a.ensures then c.bump-b.ensures.ran then c.bump_non_comment_trivia-d.ensures then yes _ _ c.at_kind.ensures c.if-at_kind.true c.parse_balanced_group.ensures

pub returns : goal.returns
unfolding parse_results
returns c =
    c.bump_non_comment_trivia-a.ensures then c.bump-b.ensures.ran then c.bump_non_comment_trivia-d.ensures then no _ _ c.at_kind.ensures c.if-at_kind.false c.parse_signature_result_until_line_end.ensures
