-- `lexer::class::is_word` meets its contract: one computed test over all bytes says that letters and digits, by their classes, are
-- the bytes that go on with a word. Assumes nothing.
use Prim.Native.Nat.{ℕ, ◌<◌}
use mathlib.Core.Path.{◌≡◌, refl, sym, ap, ◌∙◌}
use mathlib.Core.Logic.{◌⊎◌}
use mathlib.Core.Bool.{true, false}
use borrow.Author.Rules.{rules}
use native.Mathlib.Omega.{arith}
use lib.Dec.{leb}
use Rattle.std.proofs.lemmas.Bool.{agree_below_at}
use Rattle.lexer.specs.declared.class.Class.{Class}
use Rattle.lexer.specs.declared.class.Class.TheVariants as variant
use Rattle.lexer.specs.declared.syntax.SyntaxKind.{SyntaxKind}
use Rattle.lexer.specs.Syntax.{kind_number}
use Rattle.lexer.specs.Chars.{word, class, punctuation}
use Rattle.lexer.specs.Code.{class_number}
use Rattle.lexer.proofs.class.is_word.Goals as goal

word_class : (b : ℕ) → b < 256 → leb 64 (class b) ≡ word b
unfolding class punctuation
word_class b h = agree_below_at (λ n. leb 64 (class n)) word 256 b refl h

-- the classes of letters and digits, and those of all others
letter_or_digit : (k : Class) → (k ≡ variant.Letter) ⊎ (k ≡ variant.Digit) → leb 64 (class_number k) ≡ true
letter_or_digit k h = grind arith

below : (k : SyntaxKind) → leb 64 (kind_number k) ≡ false
below k = grind arith

other : (k : Class) → (k ≡ variant.Letter → ⊥) → (k ≡ variant.Digit → ⊥) → leb 64 (class_number k) ≡ false
other k n m = grind (arith, below)

pub returns-in-Letter : goal.returns-in-Letter
returns-in-Letter c =
    sym (letter_or_digit c.class_of.result c.in-Letter.is) ∙ ap (leb 64) c.class_of.ensures.number ∙ word_class c.args.b (search rules)

pub returns-in_default : goal.returns-in_default
returns-in_default c =
    sym (other c.class_of.result c.in_default.not-Letter c.in_default.not-Digit)
    ∙ ap (leb 64) c.class_of.ensures.number
    ∙ word_class c.args.b (search rules)
