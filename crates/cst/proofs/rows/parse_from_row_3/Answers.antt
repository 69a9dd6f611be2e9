-- `cst::rows::parse_from_row_3` meets its contract, by the room for the tokens and by what is refused. Assumes nothing.
use Prim.Native.Nat.{ℕ, ◌≤◌, ◌<◌}
use mathlib.Core.Path.{◌≡◌, refl, sym, ◌∙◌}
use mathlib.Core.List.{List}
use native.Mathlib.Omega.{arith}
use lib.ListN.{length}
use Rattle.std.specs.Prelude.{None, Some}
use Rattle.lexer.specs.Lexer.{tokenize}
use Rattle.lexer.specs.Tokens.{room}
use Rattle.marks.specs.Marks.{first_refused}
use Rattle.marks.specs.Laws.{all_marked}
use Rattle.answer.specs.declared.Answer.TheVariants.{TokenRoom, Refused}
use Rattle.answer.specs.Answer.{Slices, token_room, Outcome, outcome, from_row_3, from_row_4, from_row_5}
use borrow.Author.Tests.{lt-ltb, le-ltb}
use Rattle.cst.proofs.rows.parse_from_row_3.Goals as goal

module _ (limit : ℕ) (source : List ℕ) (s : Slices) (t : ℕ) (count_is : t ≡ length (tokenize source)) where
  no_room : token_room s < t → outcome (TokenRoom t) s ≡ from_row_3 limit source s
  unfolding from_row_3
  no_room h = rw (sym count_is, lt-ltb (token_room s) t h) refl

  module _ (h : t ≤ token_room s) where
    refused : (n : ℕ) → first_refused 0 (tokenize source) ≡ Some n → outcome (Refused n) s ≡ from_row_3 limit source s
    unfolding from_row_3 from_row_4
    refused n e = rw (sym count_is, le-ltb (token_room s) t h, e) refl

    goes_on : {o : Outcome} → first_refused 0 (tokenize source) ≡ None → o ≡ from_row_5 limit source s → o ≡ from_row_3 limit source s
    unfolding from_row_3 from_row_4
    goes_on e l = l ∙ rw (sym count_is, le-ltb (token_room s) t h, e) refl

pub returns-then-min-t-clause-answer : goal.returns-then-min-t-clause-answer
returns-then-min-t-clause-answer c =
    let pre = c.requires in
    no_room _ _ _ _ pre.1.count_is (omega arith)

pub parse_from_row_5-requires : goal.parse_from_row_5-requires
parse_from_row_5-requires c =
    let a = c.args in
    let pre = c.requires in
    let h : a.read.count ≤ room a.slices.now.kinds.now a.slices.now.ends.now = omega arith in
    let symbols_are = pre.1.kinds_are h ∙ all_marked _ (sym pre.0 ∙ c.in-None.is) in
    (omega arith, symbols_are, omega arith, pre.1.ends_are h)

pub returns-in-Some-clause-answer : goal.returns-in-Some-clause-answer
returns-in-Some-clause-answer c =
    let pre = c.requires in
    refused _ _ _ _ pre.1.count_is (omega arith) _ (sym pre.0 ∙ c.in-Some.is)

pub returns-in-None-clause-answer : goal.returns-in-None-clause-answer
returns-in-None-clause-answer c =
    let pre = c.requires in
    goes_on _ _ _ _ pre.1.count_is (omega arith) (sym pre.0 ∙ c.in-None.is) c.parse_from_row_5.ensures
