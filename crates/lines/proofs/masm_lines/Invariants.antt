-- `lines::masm_lines` meets its contract: the first entries are written. Assumes nothing.
use Rattle.lines.proofs.Written.{Going}
use Rattle.lines.proofs.masm_lines.Given as goal

abbrev pub invariant-loop-i : goal.invariant-loop-i
invariant-loop-i l = Going l.source l.offsets l.initial.lines l.initial.columns l.walk.source.now l.lines l.columns l.i
