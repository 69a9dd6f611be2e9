-- `Lexer::advance_while` meets its contract: each byte that goes on is one step. Assumes nothing.
use mathlib.Core.Path.{refl, sym, ◌∙◌}
use native.Mathlib.Omega.{arith}
use Rattle.lexer.proofs.Laws.{reaches_next, reaches_end}
use Rattle.lexer.proofs.Steps.{same_end}
use Rattle.lexer.proofs.state.Lexer.advance_while.Goals as goal

pub returns-then-not-goes_on : goal.returns-then-not-goes_on
returns-then-not-goes_on g c = λ p h.
    let i = c.loop-self.invariant in
    record { source_is = i.0; offset_is = reaches_end (i.1 p h) (omega arith) (sym (h _ _ c.goes_on.ensures) ∙ c.if-not-goes_on.true) ∙ same_end p c.args.self.now.offset i.0 }

pub returns-then-not-goes_on-2 : goal.returns-then-not-goes_on-2
returns-then-not-goes_on-2 g c = λ p h.
    let i = c.loop-self.invariant in
    let one = reaches_next (i.1 p h) (omega arith) refl (sym (h _ _ c.goes_on.ensures) ∙ c.if-not-goes_on.false) in
    record { source_is = i.0; offset_is = reaches_end one (omega arith) (sym (h _ _ c.goes_on-in-loop-self.ensures) ∙ c.if-not-goes_on-2.true) ∙ same_end p c.args.self.now.offset i.0 }

pub returns-then-not-goes_on-3 : goal.returns-then-not-goes_on-3
returns-then-not-goes_on-3 g c = λ p h.
    let i = c.loop-self.invariant in
    let one = reaches_next (i.1 p h) (omega arith) refl (sym (h _ _ c.goes_on.ensures) ∙ c.if-not-goes_on.false) in
    let two = reaches_next one (omega arith) refl (sym (h _ _ c.goes_on-in-loop-self.ensures) ∙ c.if-not-goes_on-2.false) in
    record { source_is = i.0; offset_is = reaches_end two (omega arith) (sym (h _ _ c.goes_on-in-loop-self-2.ensures) ∙ c.if-not-goes_on-3.true) ∙ same_end p c.args.self.now.offset i.0 }

pub returns-then-not-goes_on-4 : goal.returns-then-not-goes_on-4
returns-then-not-goes_on-4 g c = λ p h.
    let i = c.loop-self.invariant in
    let one = reaches_next (i.1 p h) (omega arith) refl (sym (h _ _ c.goes_on.ensures) ∙ c.if-not-goes_on.false) in
    let two = reaches_next one (omega arith) refl (sym (h _ _ c.goes_on-in-loop-self.ensures) ∙ c.if-not-goes_on-2.false) in
    let three = reaches_next two (omega arith) refl (sym (h _ _ c.goes_on-in-loop-self-2.ensures) ∙ c.if-not-goes_on-3.false) in
    record { source_is = i.0; offset_is = reaches_end three (omega arith) (sym (h _ _ c.goes_on-in-loop-self-3.ensures) ∙ c.if-not-goes_on-4.true) ∙ same_end p c.args.self.now.offset i.0 }

pub loop-self-preserved : goal.loop-self-preserved
loop-self-preserved g c =
    let i = c.loop-self.invariant in (
      i.0,
      λ p h.
          let one = reaches_next (i.1 p h) (omega arith) refl (sym (h _ _ c.goes_on.ensures) ∙ c.if-not-goes_on.false) in
          let two = reaches_next one (omega arith) refl (sym (h _ _ c.goes_on-in-loop-self.ensures) ∙ c.if-not-goes_on-2.false) in
          let three = reaches_next two (omega arith) refl (sym (h _ _ c.goes_on-in-loop-self-2.ensures) ∙ c.if-not-goes_on-3.false) in
          reaches_next three (omega arith) refl (sym (h _ _ c.goes_on-in-loop-self-3.ensures) ∙ c.if-not-goes_on-4.false),
    )

pub returns : goal.returns
returns g c = λ p h.
    let i = c.loop-self.invariant in
    let t = c.advance_tail.ensures p h in
    record {
      source_is = t.source_is ∙ i.0;
      offset_is = t.offset_is ∙ sym (i.1 p h).goes ∙ same_end p c.args.self.now.offset i.0;
    }
