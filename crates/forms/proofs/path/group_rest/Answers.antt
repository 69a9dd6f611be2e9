-- `forms::path::group_rest`: `scan` with a local, the number of open delimiters, which is no more than the tokens taken and 1. Assumes nothing.
use mathlib.Core.Bool.{Bool, true, false, cond}
use mathlib.Core.List.{List}
use mathlib.Core.Path.{◌≡◌, sym, ◌∙◌}
use Prim.Native.Nat.{ℕ, suc, pred, ◌+◌, ◌≤◌}
use native.Mathlib.Nat.{pred-le}
use native.Mathlib.Omega.{arith}
use borrow.Author.Tests.{eq-eqb, ne_eqb}
use Rattle.forms.specs.Path.{group_step, group_rest}
use Rattle.grammar.specs.Bump.{error_here}
use Rattle.grammar.specs.Look.{eof, current}
use Rattle.grammar.specs.Path.{group_round}
use Rattle.grammar.specs.Run.{go, stop, scan}
use Rattle.grammar.specs.Words.{Sym, is}
use Rattle.grammar.specs.declared.message.Message.{Message}
use Rattle.parser.specs.Rep.{World, Ran, RanTo}
use Rattle.parser.proofs.Kit.{on, off, done, bind, loop_takes, loop_stops, loop_ends}
use Rattle.parser.proofs.Laws.{eof_within, at_token}
use Rattle.forms.proofs.path.group_rest.Goals as goal
use Rattle.forms.proofs.path.group_rest.Goals.{then-loop-depth-test+else-not-eof, else-loop-depth-test}

module _ (opener closer : Sym) (depth : ℕ) (r : List Sym) where
  round_ends : 0 ≡ depth → group_round opener closer depth r ≡ stop
  unfolding group_round
  round_ends e = rw (eq-eqb 0 depth e)

  round_goes : (depth' : ℕ) (k : Sym) → eof r ≡ false → (0 ≡ depth → ⊥) → k ≡ current r → depth' ≡ group_step opener closer depth k → group_round opener closer depth r ≡ go depth'
  unfolding group_round group_step
  round_goes depth' k z n c e = rw (ne_eqb 0 depth n, at_token (is opener) r z, at_token (is closer) r z, ← c, ← e)

step_up : (opener closer depth k : ℕ) → group_step opener closer depth k ≤ depth + 1
unfolding group_step
step_up opener closer depth k = by_tests (is opener k) (is closer k)
  where
    by_tests : (t u : Bool) → cond t (suc depth) (cond u (pred depth) depth) ≤ depth + 1
    by_tests true u = omega arith
    by_tests false true = omega (arith, pred-le depth)
    by_tests false false = omega arith

-- how the loop ends
module _ (opener closer : Sym) (missing : Message) {w₀ w : World} {depth : ℕ} (h : RanTo (scan (group_round opener closer) 1) w₀ w depth) where
  closes : 0 ≡ depth → Ran (group_rest opener closer missing) w₀ w
  unfolding group_rest
  closes e = bind _ h (on _ (eq-eqb 0 depth e) (done true))

  lacks : {w' : World} → (0 ≡ depth → ⊥) → Ran (error_here missing) w w' → Ran (group_rest opener closer missing) w₀ w'
  unfolding group_rest
  lacks n s = bind _ h (off _ (ne_eqb 0 depth n) s)

pub group_depth-depth-requires : goal.group_depth-depth-requires
group_depth-depth-requires c =
    let h = eof_within c.loop-depth.parser.kinds.now c.loop-depth.c.pos c.eof.ensures c.if-not-eof.true in
    omega (arith, c.loop-depth-test.true, c.loop-depth.invariant.1, h)

pub loop-depth-smaller : goal.loop-depth-smaller
loop-depth-smaller c =
    let h = eof_within c.loop-depth.parser.kinds.now c.loop-depth.c.pos c.eof.ensures c.if-not-eof.true in
    omega (arith, h, c.bump-c.ensures.moved h)

pub loop-depth-preserved : goal.loop-depth-preserved
loop-depth-preserved c =
    let opener = c.args.opener in
    let closer = c.args.closer in
    let z = sym c.eof.ensures ∙ c.if-not-eof.true in
    let m = c.bump-c.ensures.moved (eof_within c.loop-depth.parser.kinds.now _ c.eof.ensures c.if-not-eof.true) in
    let e = round_goes opener closer _ _ _ _ z c.loop-depth-test.true c.current.ensures c.group_depth-depth.ensures in
    let u = step_up opener closer c.loop-depth.depth c.current.result in
    (loop_takes (group_round opener closer) c.loop-depth.invariant.0 z e c.bump-c.ensures.ran, omega (arith, m, u, c.group_depth-depth.ensures, c.loop-depth.invariant.1))

pub returns-then-depth-eq0 : goal.returns-then-depth-eq0
returns-then-depth-eq0 c =
    closes c.args.opener c.args.closer c.args.missing (loop_stops _ c.loop-depth.invariant.0 (round_ends _ _ _ _ c.if-depth-eq0.true)) c.if-depth-eq0.true

pub returns : goal.returns
returns c = elim c.loop-depth-test.branch [
  | then-loop-depth-test+else-not-eof w ↦
      lacks c.args.opener c.args.closer c.args.missing (loop_ends _ c.loop-depth.invariant.0 w.eof.ensures w.if-not-eof.false) c.if-depth-eq0.false c.error_here.ensures.ran
  | else-loop-depth-test w ↦ absurd (c.if-depth-eq0.false w.loop-depth-test.false)
]
