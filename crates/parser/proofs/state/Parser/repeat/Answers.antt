-- `parser::state::Parser::repeat`: `loop`: a round that goes on takes a token. Assumes nothing.
use native.Mathlib.Omega.{arith}
use borrow.Author.Tests.{not-true, not-false}
use Rattle.parser.specs.Rep.{world}
use Rattle.parser.proofs.Kit.{goes_on, answers}
use Rattle.parser.proofs.Rounds.{round_last, round_more, round_moves}
use Rattle.parser.proofs.state.Parser.repeat.Goals as goal

pub returns-then-not-s : goal.returns-then-not-s
returns-then-not-s g c = λ f r.
    let last = answers (r.ran _ _ _ _ c.round-s.ensures) (not-true _ c.if-not-s.true) in
    ((c.loop-s.invariant f r).on _ _ (round_last r.takes last)).ran

pub loop-s-smaller : goal.loop-s-smaller
loop-s-smaller g c =
    let r = c.requires.rounds.1 in
    let more = answers (r.ran _ _ _ _ c.round-s.ensures) (not-false _ c.if-not-s.false) in
    let moved = round_moves r.takes {w = world c.loop-s.self c.loop-s.c} more in
    omega (arith, moved, more.ran.onward.tokens)

pub loop-s-preserved : goal.loop-s-preserved
loop-s-preserved g c = λ f r.
    let more = answers (r.ran _ _ _ _ c.round-s.ensures) (not-false _ c.if-not-s.false) in
    goes_on (c.loop-s.invariant f r) (round_more r.takes more)
