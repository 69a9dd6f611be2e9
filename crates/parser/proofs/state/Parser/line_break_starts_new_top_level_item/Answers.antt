-- `parser::look::line_break_starts_new_top_level_item` meets its contract: the answer at p is that of each newline before the place found.
-- Assumes nothing.
use native.Mathlib.Omega.{arith}
use Rattle.parser.specs.Ahead.{ends_or_starts}
use Rattle.parser.proofs.Ahead.{break_new}
use Rattle.parser.proofs.state.Parser.line_break_starts_new_top_level_item.Goals as goal

pub returns-then-eof : goal.returns-then-eof
unfolding ends_or_starts
returns-then-eof c =
    let f = c.next_relevant_top_level_token-next.ensures in
    let b = break_new c.args.self.now.kinds.now c.args.p (omega (arith, f.ahead)) c.requires.here f.is (rw (← c.eof.ensures, c.if-eof.true)) in
    record { starts = b.0; known = b.1 }

pub returns-else-eof : goal.returns-else-eof
unfolding ends_or_starts
returns-else-eof c =
    let f = c.next_relevant_top_level_token-next.ensures in
    let k = c.args.self.now.kinds.now in
    let b = break_new k c.args.p (omega (arith, f.ahead)) c.requires.here f.is (rw (← c.eof.ensures, c.if-eof.false) c.is_top_level_starter-starts.ensures) in
    record { starts = b.0; known = b.1 }
