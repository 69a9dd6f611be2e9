-- `marks::mark_source` meets its contract: the lexer's tokens, each with its mark. Assumes nothing.
use mathlib.Core.Path.{refl, ap, ◌∙◌}
use native.Mathlib.Omega.{arith}
use borrow.Author.Rules.{rules}
use lib.ListN.{length}
use Rattle.lexer.specs.Code.{token_of}
use Rattle.lexer.proofs.Going.{ends_within, same_source}
use Rattle.marks.proofs.Going.{begins, goes_on, ended}
use Rattle.marks.proofs.mark_source.Goals as goal

pub loop-token-init : goal.loop-token-init
loop-token-init c = (search rules, search rules, search rules, search rules, refl, refl, begins _ _ c.requires refl)

pub slice_bounds-mark-end : goal.slice_bounds-mark-end
slice_bounds-mark-end c =
    let l = c.loop-token in
    let step = c.in-Some.ensures.steps in
    let here = same_source c.args.source.now l.start (token_of c.in-Some.token) l.invariant.2 l.invariant.3 step.0 step.1 in
    let within = ends_within l.invariant.6.writing.going here.0 _ here.1 in
    omega arith

pub push-requires : goal.push-requires
push-requires c = let g = c.loop-token.invariant.6.writing.going in omega (arith, g.size, g.within, g.fewer)

pub loop-token-preserved : goal.loop-token-preserved
loop-token-preserved c =
    let p = c.push.ensures in
    let l = c.loop-token in
    let step = c.in-Some.ensures.steps in
    let here = same_source c.args.source.now l.start (token_of c.in-Some.token) l.invariant.2 l.invariant.3 step.0 step.1 in (
      tt,
      tt,
      step.2 ∙ l.invariant.2,
      step.3,
      p.same_kinds ∙ l.invariant.4,
      p.same_ends ∙ l.invariant.5,
      goes_on l.invariant.6 here.0 _ here.1 _ c.mark-kind.ensures _ c.first_refusal-refusal.ensures _ p,
    )

pub returns : goal.returns
returns c =
    let l = c.loop-token in
    let none = c.in-None.ensures.steps in
    ended l.invariant.6 (omega (arith, none.0, ap length l.invariant.2)) _ _ (search rules) (search rules)
