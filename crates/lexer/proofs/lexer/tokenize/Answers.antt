-- `lexer::lexer::tokenize` meets its contract: for each token its kind is written. Assumes nothing.
use Prim.Native.Nat.{ℕ}
use mathlib.Core.Path.{refl, sym, ap, subst, ◌∙◌}
use native.Mathlib.Omega.{arith}
use borrow.Author.Rules.{rules}
use lib.ListN.{length}
use Rattle.lexer.specs.Code.{Placed, token_of}
use Rattle.lexer.specs.Tokens.{token_kind}
use Rattle.lexer.proofs.Going.{Writing, begins_writing, ends_within, writes_on, all_written, same_source}
use Rattle.lexer.proofs.lexer.tokenize.Goals as goal

pub loop-token-init : goal.loop-token-init
loop-token-init c = (search rules, search rules, search rules, refl, refl, begins_writing _ _ c.requires refl (search rules))

pub overflow_cast-token : goal.overflow_cast-token
overflow_cast-token c =
    let l = c.loop-token in
    let step = c.in-Some.ensures.steps in
    let here = same_source c.args.source.now l.token-iterator.offset (token_of c.in-Some.token) l.invariant.2 refl step.0 step.1 in
    omega (arith, l.invariant.5.going.size, (ends_within l.invariant.5.going here.0 _ here.1).1)

pub push-requires : goal.push-requires
push-requires c = let g = c.loop-token.invariant.5.going in omega (arith, g.size, g.within, g.fewer)

pub loop-token-preserved : goal.loop-token-preserved
loop-token-preserved c =
    let a = c.args in
    let l = c.loop-token in
    let step = c.in-Some.ensures.steps in
    let here = same_source a.source.now l.token-iterator.offset (token_of c.in-Some.token) l.invariant.2 refl step.0 step.1 in
    let p = c.push.ensures in (
      tt,
      tt,
      step.2 ∙ l.invariant.2,
      p.same_kinds ∙ l.invariant.3,
      p.same_ends ∙ l.invariant.4,
      subst (λ (at : ℕ). Writing token_kind a.source.now a.kinds.now a.ends.now c.push.new.self at) (sym step.3)
          (writes_on l.invariant.5 here.0 _ here.1 _ (c.into.ensures ∙ ap (λ (x : Placed). x.kind) here.1) _ p),
    )

pub returns : goal.returns
returns c =
    let l = c.loop-token in
    let none = c.in-None.ensures.steps in
    all_written l.invariant.5 (omega (arith, none.0, ap length l.invariant.2)) _ _ (search rules) (search rules)
