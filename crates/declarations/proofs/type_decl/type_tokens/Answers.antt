-- `declarations::type_decl::type_tokens`: `scan`, a token at a time; the counts are no more than the tokens taken. Assumes nothing.
use mathlib.Core.Path.{refl, sym}
use native.Mathlib.Omega.{arith}
use Rattle.grammar.specs.Line.{type_round}
use Rattle.declarations.proofs.Rounds.{type_stops, type_counts}
use Rattle.parser.proofs.Ahead.{remembers_none, remembers_later}
use Rattle.parser.proofs.Counts.{loop_begins, loop_counts, none_open}
use Rattle.parser.proofs.Kit.{same_file, loop_stops, loop_ends}
use Rattle.declarations.proofs.type_decl.type_tokens.Goals as goal

pub loop-known-init : goal.loop-known-init
loop-known-init c = (loop_begins type_round (λ n. n) c.default.ensures, none_open _ c.default.ensures, remembers_none (omega arith))

pub returns-in_default : goal.returns-in_default
returns-in_default c = (loop_stops type_round c.loop-known.invariant.0 (type_stops _ _ (sym c.in_default.ensures.ends))).ran

pub loop-known-preserved : goal.loop-known-preserved
loop-known-preserved c =
    let e = c.bump_nested-at.ensures in (
      loop_counts type_round (λ n. n) c.loop-known.invariant.0 c.eof.ensures c.loop-known-test.true (type_counts _ _ (sym c.in-Some.ensures.ends)) e refl,
      e.below,
      remembers_later _ (same_file e.ran.onward) (omega (arith, e.past.on)) c.in-Some.ensures.known,
    )

pub returns : goal.returns
returns c = (loop_ends type_round c.loop-known.invariant.0 c.eof.ensures c.loop-known-test.false).ran
