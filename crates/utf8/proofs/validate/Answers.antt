-- `utf8::validate` meets its contract: what is left always comes to what the whole comes to. Assumes nothing.
use mathlib.Core.Path.{sym, ◌∙◌}
use native.Mathlib.Omega.{arith}
use Rattle.utf8.proofs.Laws.{passes_both, ends, stops_at}
use Rattle.utf8.proofs.validate.Goals as goal

pub returns-in_err-at : goal.returns-in_err-at
returns-in_err-at c =
    let w = c.in_err-at.ensures in
    let p = passes_both c.loop-at.invariant (passes_both c.ascii_end-from.ensures w.err.1) in
    let e = p.same ∙ stops_at _ _ (omega arith) w.err.2 in
    grind (arith, w.err.3)

pub returns : goal.returns
returns c = sym (c.loop-at.invariant.same ∙ ends _ _ c.loop-at-test.false)
