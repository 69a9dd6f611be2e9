-- `marks::mark` meets its contract: only an Ident has a number. Assumes nothing.
use Prim.Native.Nat.{ℕ}
use mathlib.Core.Path.{◌≡◌, refl, ◌∙◌}
use mathlib.Core.Bool.{false}
use mathlib.Core.List.{List}
use native.Mathlib.Omega.{arith}
use lib.Dec.{eqb}
use Rattle.std.specs.Prelude.{Option, None, Some, MatchOption}
use Rattle.lexer.specs.declared.syntax.SyntaxKind.{SyntaxKind}
use Rattle.lexer.specs.declared.syntax.SyntaxKind.TheVariants as kind
use Rattle.lexer.specs.Syntax.{kind_number, Ident}
use Rattle.grammar.specs.Words.{key, word_number}
use Rattle.grammar.specs.declared.words.Word.{Word}
use Rattle.marks.specs.Code.{found_number, text_number, number_of, marked}
use Rattle.marks.proofs.mark.Goals as goal

not_ident : (k : SyntaxKind) → (k ≡ kind.Ident → ⊥) → eqb Ident (kind_number k) ≡ false
not_ident k n = grind arith

module _ (k : SyntaxKind) (text : List ℕ) where
  other : (k ≡ kind.Ident → ⊥) → kind_number k ≡ marked (kind_number k) text
  unfolding number_of
  other n = rw (not_ident k n) (omega arith)

  -- what was found, and what is written for it
  ident : (r : Option Word) (p v : ℕ) → k ≡ kind.Ident → p ≡ kind_number k → found_number r ≡ text_number text
      → MatchOption r (v ≡ p) (λ w. v ≡ key (word_number w)) → v ≡ marked (kind_number k) text
  unfolding number_of
  ident None p v e q f h = h ∙ q ∙ rw (e, ← f) refl
  ident (Some w) p v e q f h = rw (e, ← f, h) refl

pub returns-in-Ident : goal.returns-in-Ident
returns-in-Ident c = ident _ _ c.word_of.result _ _ c.in-Ident.is c.from-plain.ensures c.word_of.ensures c.map_or.ensures

pub returns-in_default : goal.returns-in_default
returns-in_default c = c.from-plain.ensures ∙ other _ _ c.in_default.not-Ident
