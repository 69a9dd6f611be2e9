-- `cst::parse_from_row_1` meets its contract: rows 1 and 2 are past where there is a text. Assumes nothing.
use Prim.Native.Nat.{ℕ, ◌≤◌}
use mathlib.Core.Path.{◌≡◌, refl, sym, ◌∙◌}
use mathlib.Core.List.{List}
use borrow.Author.Tests.{le-ltb}
use lib.ListN.{length}
use Rattle.lexer.specs.Tokens.{MAX_SOURCE}
use Rattle.std.specs.Prelude.{Ok}
use Rattle.utf8.specs.Validate.{validate}
use Rattle.answer.specs.Answer.{Slices, Outcome, with_tokens, from_row_3, from_row_2, from_row_1}
use Rattle.cst.proofs.parse_from_row_1.Goals as goal

-- The text b is the source's.
goes_on : (limit : ℕ) (b source : List ℕ) (s : Slices) {o : Outcome} → b ≡ source → length b ≤ MAX_SOURCE → validate b ≡ Ok tt
    → o ≡ from_row_3 limit b (with_tokens b s) → o ≡ from_row_1 limit source s
unfolding from_row_1 from_row_2
goes_on limit b source s same h v e = rw (sym same) (e ∙ rw (le-ltb MAX_SOURCE (length b) h, v) refl)

pub returns-in-Err-clause-answer : goal.returns-in-Err-clause-answer
returns-in-Err-clause-answer c = sym (c.in-Err.ensures.1 _ _)

pub returns-in-Ok-clause-answer : goal.returns-in-Ok-clause-answer
returns-in-Ok-clause-answer c =
    goes_on _ _ _ _ c.in-Ok.ensures.0 c.in-Ok.text.within_limit c.in-Ok.text.is_utf8 c.parse_utf8.ensures.answer
