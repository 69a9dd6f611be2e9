-- expect_kind at its token. Assumes nothing.
use mathlib.Core.Bool.{true, false, false≢true}
use mathlib.Core.List.{List, [], ◌∷◌}
use mathlib.Core.Path.{◌≡◌, refl, sym, ap, ◌∙◌}
use native.Mathlib.Omega.{arith}
use Rattle.grammar.specs.declared.words.Word.{Word}
use Rattle.grammar.specs.Words.{Sym, is, key, word_number}
use Rattle.grammar.specs.Look.{one_of, at, regular_trivia}
use Rattle.grammar.specs.Run.{take_token}
use Rattle.grammar.specs.Bump.{expect_kind}
use Rattle.grammar.specs.Laws.Here.{expect_here}
use Rattle.grammar.specs.declared.message.Message.{Message}
use Rattle.parser.specs.Rep.{World, remaining, Ran, RanTo}
use Rattle.parser.proofs.Kit.{like}

-- no word is trivia
pub no_trivia : (w : Word) → regular_trivia (key (word_number w)) ≡ false
unfolding one_of
no_trivia w = grind arith

-- at its kind, expect_kind takes the token
expect_take : (k : Sym) (m : Message) → regular_trivia k ≡ false → (r : List Sym) → at (is k) r ≡ true → expect_kind k m r ≡ take_token r
unfolding at take_token
expect_take k m t [] e = absurd (false≢true e)
expect_take k m t (s ∷ r) e = expect_here k m t s r e

take_says : (k : Sym) (r : List Sym) → at (is k) r ≡ true → (take_token r).val ≡ true
unfolding at take_token
take_says k [] e = absurd (false≢true e)
take_says k (s ∷ r) e = refl

module _ {w w' : World} (k : Sym) (m : Message) (t : regular_trivia k ≡ false) (e : at (is k) (remaining w) ≡ true) where
  pub expected : Ran take_token w w' → RanTo (expect_kind k m) w w' true
  expected h = record { ran = like take_token (expect_take k m t _ e) h; val = ap (λ x. x.val) (expect_take k m t _ e) ∙ take_says k _ e }

  pub take_expected : Ran (expect_kind k m) w w' → Ran take_token w w'
  take_expected = like (expect_kind k m) (sym (expect_take k m t _ e))
