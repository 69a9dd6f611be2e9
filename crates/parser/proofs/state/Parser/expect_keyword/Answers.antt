-- `parser::bump::expect_keyword`: the word is here, or trivia is passed first. Assumes nothing.
use mathlib.Core.Path.{sym, ◌∙◌}
use Rattle.grammar.specs.Words.{key, word_number}
use Rattle.parser.proofs.Expect.{expected, no_trivia}
use Rattle.parser.proofs.state.Parser.expect_keyword.Goals as goal

pub returns-then-at_keyword : goal.returns-then-at_keyword
returns-then-at_keyword c =
    expected (key (word_number c.args.keyword)) c.args.m (no_trivia c.args.keyword) (sym c.at_keyword.ensures ∙ c.if-at_keyword.true) c.bump.ensures.ran
