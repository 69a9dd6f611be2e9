-- `cst::parse_text` meets its contract: row 9, or the rows from 1 on where the limit is allowed. Assumes nothing.
use mathlib.Core.Bool.{true, false}
use mathlib.Core.List.{List}
use mathlib.Core.Path.{◌≡◌, refl, sym, ◌∙◌}
use Prim.Native.Nat.{ℕ}
use Rattle.grammar.specs.Block.{limit_allowed}
use Rattle.answer.specs.declared.Answer.TheVariants.{LimitOutOfRange}
use Rattle.answer.specs.Answer.{Slices, Outcome, outcome, from_row_1, parse_text}
use Rattle.cst.proofs.parse_text.Goals as goal

module _ (limit : ℕ) (source : List ℕ) (s : Slices) where
  outside : limit_allowed limit ≡ false → outcome LimitOutOfRange s ≡ parse_text limit source s
  unfolding parse_text
  outside h = rw h refl

  -- The limit n is this one.
  within : {n : ℕ} {o : Outcome} → limit_allowed limit ≡ true → n ≡ limit → o ≡ from_row_1 n source s → o ≡ parse_text limit source s
  unfolding parse_text
  within h same e = rw h (rw (sym same) e)

pub returns-in-None-clause-answer : goal.returns-in-None-clause-answer
returns-in-None-clause-answer c = outside _ _ _ (sym c.in-None.ensures.allowed)

pub returns-in-Some-clause-answer : goal.returns-in-Some-clause-answer
returns-in-Some-clause-answer c = within _ _ _ (sym c.in-Some.ensures.allowed) c.in-Some.ensures.same c.parse_from_row_1.ensures.answer
