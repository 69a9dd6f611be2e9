-- `refusals::main` is safe: its source has its length. Assumes nothing.
use mathlib.Core.Path.{sym}
use Prim.Native.Nat.{ℕ, ◌+◌}
use lib.ListN.{length-replicate}
use Rattle.lexer.specs.Tokens.{MAX_SOURCE}
use Rattle.refusals.proofs.main.Goals as goal

pub slice_bounds-put_calls-end : goal.slice_bounds-put_calls-end
slice_bounds-put_calls-end c = sym (length-replicate {0} {A = ℕ} (MAX_SOURCE + 1) 32)
