-- `Lexer::quote` meets its contract: the quote is what its rest comes to, from the cursor and the flags. Assumes nothing.
use Prim.Native.Nat.{ℕ, ◌≤◌, ◌<◌, ◌+◌}
use mathlib.Core.Path.{◌≡◌, sym, ap, ◌∙◌}
use mathlib.Core.Bool.{Bool, true, false, cond}
use mathlib.Core.List.{List}
use native.Mathlib.Omega.{arith}
use borrow.Author.Rules.{rules}
use borrow.Author.Tests.{eq-eqb, ne_eqb}
use lib.Dec.{eqb}
use lib.ListN.{length, drop, get_or, drop_of_length-le}
use Rattle.lexer.specs.Syntax.{Error, QuotedIdent, QuotedString}
use Rattle.lexer.specs.Chars.{line_end}
use Rattle.lexer.specs.Lexer.{quoted}
use Rattle.lexer.specs.Code.{Placed, placed, kept}
use Rattle.lexer.proofs.Laws.{next_byte, one_here}
use Rattle.lexer.proofs.Quotes.{moved}
use Rattle.lexer.proofs.state.Lexer.quote.Goals as goal

-- what the definition gives at an offset, by cases
module _ (s : List ℕ) (at : ℕ) (i : Bool) where
  ended : (t : Bool) → length s ≤ at → ◌≡◌ {A = Placed} (record { kind = Error; end = at }) (placed at (quoted t i (drop at s)))
  unfolding quoted
  ended t h = rw (drop_of_length-le s h) (one_here Error at)

  module _ (h : at < length s) where
    takes : placed at (quoted true i (drop at s)) ≡ placed (at + 1) (quoted false i (drop (at + 1) s))
    unfolding quoted
    takes = rw (next_byte s at h) (moved at _)

    module _ (e : line_end (get_or s at 0) ≡ false) where
      closes : eqb (get_or s at 0) 34 ≡ true
          → ◌≡◌ {A = Placed} (record { kind = cond i QuotedIdent QuotedString; end = at + 1 }) (placed at (quoted false i (drop at s)))
      unfolding quoted
      closes f = rw (next_byte s at h, e, f)

      goes : eqb (get_or s at 0) 34 ≡ false
          → placed at (quoted false i (drop at s)) ≡ placed (at + 1) (quoted (eqb (get_or s at 0) 92) (kept i (get_or s at 0)) (drop (at + 1) s))
      unfolding quoted
      goes f = rw (next_byte s at h, e, f) (moved at _)

    breaks : line_end (get_or s at 0) ≡ true → ◌≡◌ {A = Placed} (record { kind = Error; end = at }) (placed at (quoted false i (drop at s)))
    unfolding quoted
    breaks e = rw (next_byte s at h, e) (one_here Error at)

pub loop-self-smaller-then-taken : goal.loop-self-smaller-then-taken
loop-self-smaller-then-taken c = omega (arith, ap length c.ahead.ensures.source_is, c.ahead.ensures.not_back)

pub loop-self-smaller : goal.loop-self-smaller
loop-self-smaller c = omega (arith, ap length c.ahead.ensures.source_is, c.ahead.ensures.not_back)

pub loop-self-preserved-then-taken : goal.loop-self-preserved-then-taken
loop-self-preserved-then-taken c =
    let a = c.ahead in
    let l = c.loop-self in
    let s = a.new.self in (
      a.ensures.source_is ∙ l.invariant.0,
      l.invariant.1 ∙ a.ensures.rest_is
          ∙ ap (λ (t : Bool). placed s.offset (quoted t l.identifier_like (drop s.offset s.source.now))) c.if-taken.true
          ∙ takes s.source.now s.offset l.identifier_like (search rules),
    )

pub loop-self-preserved : goal.loop-self-preserved
loop-self-preserved c =
    let a = c.ahead in
    let l = c.loop-self in
    let s = a.new.self in (
      a.ensures.source_is ∙ l.invariant.0,
      l.invariant.1 ∙ a.ensures.rest_is
          ∙ ap (λ (t : Bool). placed s.offset (quoted t l.identifier_like (drop s.offset s.source.now))) c.if-taken.false
          ∙ goes s.source.now s.offset l.identifier_like (search rules) (sym c.is_line_end.ensures ∙ c.if-is_line_end.false) (ne_eqb _ _ c.if-b-eq34.false)
          ∙ ap (λ (i : Bool). placed (s.offset + 1) (quoted (eqb (get_or s.source.now s.offset 0) 92) i (drop (s.offset + 1) s.source.now))) (sym c.keeps-identifier_like.ensures),
    )

pub returns-then-self : goal.returns-then-self
returns-then-self c =
    let a = c.ahead in
    let l = c.loop-self in
    let s = a.new.self in
    (a.ensures.source_is ∙ l.invariant.0, ended s.source.now s.offset l.identifier_like l.taken c.if-self.true ∙ sym (l.invariant.1 ∙ a.ensures.rest_is))

pub returns-then-is_line_end : goal.returns-then-is_line_end
returns-then-is_line_end c =
    let a = c.ahead in
    let l = c.loop-self in
    let s = a.new.self in (
      a.ensures.source_is ∙ l.invariant.0,
      breaks s.source.now s.offset l.identifier_like (search rules) (sym c.is_line_end.ensures ∙ c.if-is_line_end.true)
          ∙ sym (l.invariant.1 ∙ a.ensures.rest_is ∙ ap (λ (t : Bool). placed s.offset (quoted t l.identifier_like (drop s.offset s.source.now))) c.if-taken.false),
    )

pub returns-then-b-eq34 : goal.returns-then-b-eq34
returns-then-b-eq34 c =
    let a = c.ahead in
    let l = c.loop-self in
    let s = a.new.self in (
      a.ensures.source_is ∙ l.invariant.0,
      closes s.source.now s.offset l.identifier_like (search rules) (sym c.is_line_end.ensures ∙ c.if-is_line_end.false) (eq-eqb _ _ c.if-b-eq34.true)
          ∙ sym (l.invariant.1 ∙ a.ensures.rest_is ∙ ap (λ (t : Bool). placed s.offset (quoted t l.identifier_like (drop s.offset s.source.now))) c.if-taken.false),
    )
