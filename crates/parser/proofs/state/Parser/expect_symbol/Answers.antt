-- `parser::bump::expect_symbol`: the token is here, or trivia is passed first. Assumes nothing.
use Rattle.parser.proofs.Expect.{expected}
use Rattle.parser.proofs.state.Parser.expect_symbol.Goals as goal

pub returns-then-stands_here : goal.returns-then-stands_here
returns-then-stands_here c =
    let here = c.stands_here.ensures in
    let e = c.if-stands_here.true in
    expected c.args.k c.args.m (here.no_trivia e) (here.here e) c.bump.ensures.ran
