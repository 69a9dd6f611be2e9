-- `cst::Text` of any bytes: rows 1 and 2 of the table refuse, by the length and by what UTF-8 says. Assumes nothing.
use Prim.Native.Nat.{ℕ, ◌≤◌, ◌<◌}
use mathlib.Core.Path.{◌≡◌, refl, sym, ◌∙◌}
use mathlib.Core.List.{List}
use native.Mathlib.Omega.{arith}
use borrow.Author.Tests.{lt-ltb, le-ltb}
use lib.ListN.{length}
use Rattle.lexer.specs.Tokens.{MAX_SOURCE}
use Rattle.std.specs.Prelude.{Err}
use Rattle.utf8.specs.declared.Utf8Error.{Utf8Error}
use Rattle.utf8.specs.Validate.{validate}
use Rattle.answer.specs.declared.Answer.TheVariants.{TooLong, NotUtf8}
use Rattle.answer.specs.Answer.{from_row_2, from_row_1}
use Rattle.cst.specs.Reading.{Refuses}
use Rattle.cst.proofs.TextTryFromRefSliceU8.try_from.Goals as goal

module _ (source : List ℕ) where
  too_long : MAX_SOURCE < length source → Refuses source TooLong
  unfolding from_row_1
  too_long h limit s = rw (lt-ltb MAX_SOURCE (length source) h) refl

  not_utf8 : (e : Utf8Error) → length source ≤ MAX_SOURCE → validate source ≡ Err e → Refuses source (NotUtf8 e)
  unfolding from_row_1 from_row_2
  not_utf8 e h v limit s = rw (le-ltb MAX_SOURCE (length source) h, v) refl

pub returns-then-source-gt-MAX_SOURCE : goal.returns-then-source-gt-MAX_SOURCE
returns-then-source-gt-MAX_SOURCE c = (tt, too_long _ (omega arith))

pub returns-in-Err : goal.returns-in-Err
returns-in-Err c = (tt, not_utf8 _ _ c.if-source-gt-MAX_SOURCE.false (sym c.validate.ensures ∙ c.in-Err.is))
