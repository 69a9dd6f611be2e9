-- `lexer::runs::past_byte` meets its contract: a slice is too short for `min` to matter. Assumes nothing.
use Prim.Native.Nat.{ℕ, ◌<◌, ◌^◌}
use mathlib.Core.Path.{ap}
use mathlib.Core.Bool.{Bool, cond}
use native.Mathlib.Omega.{arith}
use borrow.Author.Rules.{rules}
use lib.ListN.{length}
use Rattle.lexer.proofs.Laws.{stands, stands_not, stands_none}
use Rattle.lexer.proofs.runs.past_byte.Goals as goal
use Rattle.lexer.proofs.runs.past_byte.Goals.{else-from-source-via-then-from-source+else-source-from, else-from-source-via-else-from-source}

pub returns-then-source-from-clause-moved : goal.returns-then-source-from-clause-moved
returns-then-source-from-clause-moved c =
    let one = ap {B = ℕ} (λ (t : Bool). cond t 1 0) (stands c.args.source.now c.args.from c.args.x c.if-from-source.true c.if-source-from.true) in
    let short : length c.args.source.now < 2 ^ 63 = search rules in
    omega (arith, one, short, c.min.ensures, c.if-from-source.true)

pub returns-clause-moved : goal.returns-clause-moved
returns-clause-moved c = elim c.else-from-source.branch [
  | else-from-source-via-then-from-source+else-source-from w ↦
      let none = ap {B = ℕ} (λ (t : Bool). cond t 1 0) (stands_not c.args.source.now c.args.from c.args.x w.if-from-source.true w.if-source-from.false) in
      omega (arith, none)
  | else-from-source-via-else-from-source w ↦
      let none = ap {B = ℕ} (λ (t : Bool). cond t 1 0) (stands_none c.args.source.now c.args.from c.args.x w.if-from-source.false) in
      omega (arith, none)
]
