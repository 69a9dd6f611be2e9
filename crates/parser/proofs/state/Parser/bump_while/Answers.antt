-- `parser::bump::bump_while`: the loop is `scan`, a token at a time. Assumes nothing.
use mathlib.Core.Bool.{Bool, true, cond}
use mathlib.Core.List.{List}
use mathlib.Core.Path.{◌≡◌, refl, sym, ap, ◌∙◌}
use native.Mathlib.Omega.{arith}
use Rattle.grammar.specs.Bump.{bump_while, while_round}
use Rattle.grammar.specs.Run.{go, stop}
use Rattle.lexer.specs.declared.syntax.SyntaxKind.{SyntaxKind}
use Rattle.lexer.specs.Syntax.{kind_number}
use Rattle.grammar.specs.Words.{Sym, MARK}
use Rattle.grammar.specs.Look.{at, current}
use Prim.Native.Nat.{ℕ, ◌<◌}
use Rattle.parser.specs.Sets.{trivia_to, trivia_own}
use Rattle.parser.proofs.Kit.{begins, loop_stops, loop_takes}
use Rattle.parser.proofs.Laws.{at_some, at_within, at_by, current_in}
use Rattle.parser.proofs.state.Parser.bump_while.Goals as goal

-- a mark stands above every kind
below_mark : (k : SyntaxKind) → kind_number k < MARK
below_mark k = grind arith

at_trivia : (last : ℕ) (r : List Sym) {x : Bool} {k : Sym} → x ≡ trivia_to last k → k ≡ current r → x ≡ at (trivia_to last) r
unfolding trivia_to
at_trivia last r e c = at_by (trivia_to last) r refl e c

pub loop-last-init : goal.loop-last-init
loop-last-init c = (begins, refl, refl)

pub bump_plain-c-requires : goal.bump_plain-c-requires
bump_plain-c-requires c =
    let l = kind_number c.args.last in
    let h = at_within c.loop-last.self.kinds.now _ (trivia_to l) (at_trivia l _ c.is_trivia_to.ensures c.current.ensures) c.loop-last-test.true in
    let k = c.current.ensures ∙ sym (current_in _ _ h) in
    let o = trivia_own l _ (below_mark c.args.last) (ap (trivia_to l) (sym k) ∙ sym c.is_trivia_to.ensures ∙ c.loop-last-test.true) in
    record { within = h; no_error = o.1; event = c.current-k.ensures ∙ sym (current_in _ _ h) ∙ o.0 }

pub loop-last-smaller : goal.loop-last-smaller
loop-last-smaller c =
    let l = kind_number c.args.last in
    let h = at_within c.loop-last.self.kinds.now c.loop-last.c.pos (trivia_to l) (at_trivia l _ c.is_trivia_to.ensures c.current.ensures) c.loop-last-test.true in
    omega (arith, h, c.bump_plain-c.ensures.bumped.moved h)

pub loop-last-preserved : goal.loop-last-preserved
unfolding bump_while while_round
loop-last-preserved c =
    let l = kind_number c.args.last in
    let e = sym (at_trivia l _ c.is_trivia_to.ensures c.current.ensures) ∙ c.loop-last-test.true in
    let i = c.loop-last.invariant in
    let p = c.bump_plain-c.ensures in (
      loop_takes (while_round (trivia_to l)) i.0 (at_some (trivia_to l) _ e) (ap (λ u. cond u (go true) stop) e) p.bumped.ran,
      p.messages ∙ i.1,
      p.starts ∙ i.2,
    )

pub returns-clause-ran : goal.returns-clause-ran
unfolding bump_while while_round
returns-clause-ran c =
    let l = kind_number c.args.last in
    let e = sym (at_trivia l _ c.is_trivia_to.ensures c.current.ensures) ∙ c.loop-last-test.false in
    (loop_stops (while_round (trivia_to l)) c.loop-last.invariant.0 (ap (λ u. cond u (go true) stop) e)).ran
