-- `cst::parse_utf8` meets its contract: the rows leave the kinds as they are, so that the marks come off behind them. Assumes nothing.
use Prim.Native.Nat.{ℕ, min}
use mathlib.Core.Path.{◌≡◌, sym, ap, ◌∙◌}
use mathlib.Core.List.{List, map, ◌++◌}
use native.Mathlib.Omega.{arith}
use lib.ListN.{length, take, drop}
use lib.Seq.{length-take-le}
use Rattle.room.specs.Over.{length_fit}
use Rattle.lexer.specs.Tokens.{room, token_kinds, TokensFit}
use Rattle.grammar.specs.Words.{kind_of}
use Rattle.marks.specs.Code.{mark}
use Rattle.answer.specs.declared.Answer.{Answer}
use Rattle.answer.specs.Answer.{Slices, slices, Outcome, outcome, with_tokens, from_row_3}
use Rattle.cst.specs.Laws.{kinds_length, marked_tokens, taken_off, with_kinds, other_kinds, kinds_stay}
use Rattle.cst.proofs.parse_utf8.Goals as goal

module _ (limit : ℕ) (source kinds ends ev dm ds de : List ℕ) (t : ℕ) (kinds₁ ends₁ : List ℕ) (lex : TokensFit mark source kinds ends t kinds₁ ends₁) where
  unmarked : (n : ℕ) (a : Answer) (s : Slices) (kinds₂ : List ℕ) → n ≡ min (room kinds ends) t → kinds₂ ≡ map kind_of (take n s.kinds)
      → outcome a s ≡ from_row_3 limit source (slices kinds₁ ends₁ ev dm ds de)
      → outcome a (slices (kinds₂ ++ drop n s.kinds) s.ends s.events s.messages s.starts s.stops)
      ≡ from_row_3 limit source (with_tokens source (slices kinds ends ev dm ds de))
  unmarked n a s kinds₂ e k l =
      let stay = ap (λ (o : Outcome). o.slices.kinds) l ∙ kinds_stay limit source (slices kinds₁ ends₁ ev dm ds de) in
      let off = taken_off source kinds ends t kinds₁ ends₁ lex n e (k ∙ ap (λ (ks : List ℕ). map kind_of (take n ks)) stay) in
      let plain = ap (λ (ks : List ℕ). kinds₂ ++ drop n ks) stay ∙ off in
      let same = kinds_length source kinds ends t kinds₁ ends₁ lex ∙ sym (length_fit (room kinds ends) (token_kinds source) kinds (omega arith)) in
      rw (plain, sym lex.ends_are) (ap (with_kinds _) l ∙ other_kinds limit source ends₁ ev dm ds de kinds₁ _ same)

  -- the kinds are as many behind the rows as they were
  as_many : (a : Answer) (s : Slices) → outcome a s ≡ from_row_3 limit source (slices kinds₁ ends₁ ev dm ds de) → length s.kinds ≡ length kinds
  as_many a s l =
      ap (λ (o : Outcome). length o.slices.kinds) l
      ∙ ap length (kinds_stay limit source (slices kinds₁ ends₁ ev dm ds de))
      ∙ kinds_length source kinds ends t kinds₁ ends₁ lex

pub parse_from_row_3-answer-requires : goal.parse_from_row_3-answer-requires
parse_from_row_3-answer-requires c =
    let k = c.mark_source-read.ensures in
    (k.refusal_is, marked_tokens _ _ _ _ _ _ k.fit)

pub slice_bounds-unmark-end : goal.slice_bounds-unmark-end
slice_bounds-unmark-end c =
    omega (arith, as_many _ _ _ _ _ _ _ _ _ _ _ c.mark_source-read.ensures.fit _ _ c.parse_from_row_3-answer.ensures.answer)

pub slice_bounds-unmark-end-2 : goal.slice_bounds-unmark-end-2
slice_bounds-unmark-end-2 c =
    sym (length-take-le _ _ (omega (arith, as_many _ _ _ _ _ _ _ _ _ _ _ c.mark_source-read.ensures.fit _ _ c.parse_from_row_3-answer.ensures.answer)))

pub returns-clause-answer : goal.returns-clause-answer
returns-clause-answer c =
    let k = c.mark_source-read.ensures in
    unmarked _ _ _ _ _ _ _ _ _ _ _ k.fit _ _ _ _ (omega arith) c.unmark.ensures c.parse_from_row_3-answer.ensures.answer
