-- `utf8::character::walk` meets its contract. Assumes nothing.
use native.Mathlib.Omega.{arith}
use Rattle.std.proofs.lemmas.List.{take_rest}
use Rattle.utf8.proofs.Laws.{passes_next, none_next}
use Rattle.utf8.proofs.character.walk.Goals as goal

pub loop-at-preserved : goal.loop-at-preserved
loop-at-preserved c = passes_next c.loop-at.invariant (omega arith) c.in-Some.ensures

pub returns-in_default-clause-err : goal.returns-in_default-clause-err
returns-in_default-clause-err c =
    let at = c.loop-at.at in
    let none = none_next c.args.source.now at (omega arith) (λ h. c.in_default.ensures h) in
    (omega arith, c.loop-at.invariant, none, rw take_rest at c.error_len.ensures)
