-- `lines::masm_lines` meets its contract. Assumes nothing.
use native.Mathlib.Omega.{arith}
use Rattle.std.specs.Prelude.{◌<◌, ◌^◌}
use Rattle.std.proofs.Common.{ap}
use Rattle.lines.proofs.Written.{small_position, goes_on}
use Rattle.lines.proofs.masm_lines.Goals.{After-position-line}
use Rattle.lines.proofs.masm_lines.Goals as goal

pub loop-i-preserved : goal.loop-i-preserved
loop-i-preserved c =
    goes_on c.args.source.now c.args.offsets.now _ _ _ _ _ c.loop-i.i c.loop-i.invariant _ c.position-line.ensures.position
    (omega (arith, c.loop-i-test.true)) (omega (arith, c.loop-i-test.true)) (omega (arith, c.loop-i-test.true))
    (ap (λ (s : _). s.now) c.position-line.ensures.source)

fits : (c : After-position-line) → (c.position-line.result.line < 2 ^ 32) × (c.position-line.result.column < 2 ^ 32)
fits c =
    small_position c.args.source.now c.args.offsets.now _ _ _ _ _ c.loop-i.i c.loop-i.invariant _ c.position-line.ensures.position
    (omega (arith, c.if-source-gt-MAX_SOURCE.false))

pub overflow_cast-lines : goal.overflow_cast-lines
overflow_cast-lines c = omega (arith, fits c)

pub overflow_cast-columns : goal.overflow_cast-columns
overflow_cast-columns c = omega (arith, fits c)
