-- `cases::main` is safe: its arrays have their lengths. Not by one lemma at `using`: search unfolds arrays of this size, and stops at the
-- limit of the checker's stack. Assumes nothing.
use mathlib.Core.Path.{sym}
use Prim.Native.Nat.{ℕ, ◌+◌}
use lib.ListN.{length-replicate}
use Rattle.lexer.specs.Tokens.{MAX_SOURCE}
use Rattle.cases.proofs.main.Goals as goal

pub slice_bounds-answer_frames-end : goal.slice_bounds-answer_frames-end
slice_bounds-answer_frames-end c = sym (length-replicate {0} {A = ℕ} (MAX_SOURCE + 1) 0)

pub slice_bounds-slices-end : goal.slice_bounds-slices-end
slice_bounds-slices-end c = sym (length-replicate {0} {A = ℕ} 262144 0)

pub slice_bounds-slices-end-2 : goal.slice_bounds-slices-end-2
slice_bounds-slices-end-2 c = sym (length-replicate {0} {A = ℕ} 262144 0)

pub slice_bounds-slices-end-3 : goal.slice_bounds-slices-end-3
slice_bounds-slices-end-3 c = sym (length-replicate {0} {A = ℕ} 917506 0)

pub slice_bounds-slices-end-4 : goal.slice_bounds-slices-end-4
slice_bounds-slices-end-4 c = sym (length-replicate {0} {A = ℕ} 262144 0)

pub slice_bounds-slices-end-5 : goal.slice_bounds-slices-end-5
slice_bounds-slices-end-5 c = sym (length-replicate {0} {A = ℕ} 262144 0)

pub slice_bounds-slices-end-6 : goal.slice_bounds-slices-end-6
slice_bounds-slices-end-6 c = sym (length-replicate {0} {A = ℕ} 262144 0)

pub slice_bounds-new-end : goal.slice_bounds-new-end
slice_bounds-new-end c = sym (length-replicate {0} {A = ℕ} 65536 0)
