-- The tests of the token here, by the number that `current` gave. Assumes nothing.
use mathlib.Core.Bool.{Bool, true, false, false≢true, ◌||◌}
use mathlib.Core.List.{List, [], ◌∷◌}
use mathlib.Core.Path.{◌≡◌, refl, sym, ap, ap₂, ◌∙◌}
use borrow.Author.Tests.{ne_eqb}
use Rattle.lexer.specs.Syntax.{Whitespace, Newline, Comment, DocComment}
use Rattle.grammar.specs.Words.{Sym, is, ELSE}
use Rattle.grammar.specs.Look.{one_of, name_like, starts_instruction, control_flow, punctuation_continues_instruction, is_trivia, current, at, skip, past, is_top_level_starter, at_top_level_form_starter_in_block, at_terminator, at_block_recovery_boundary}
use Rattle.grammar.specs.declared.block.Terminators.{Terminators}
use Rattle.parser.specs.Sets.{bit, bits_are}
use Rattle.parser.proofs.Ahead.{at_here, at_not}
use Rattle.parser.proofs.Laws.{at_by}

module _ {x : Bool} {k : Sym} (r : List Sym) where
  pub continues : x ≡ punctuation_continues_instruction k → k ≡ current r → x ≡ at punctuation_continues_instruction r
  unfolding one_of
  continues e c = at_by punctuation_continues_instruction r refl e c

  pub starts : x ≡ starts_instruction k → k ≡ current r → x ≡ at starts_instruction r
  unfolding one_of name_like starts_instruction
  starts e c = at_by starts_instruction r refl e c

  pub controls : x ≡ control_flow k → k ≡ current r → x ≡ at control_flow r
  unfolding one_of
  controls e c = at_by control_flow r refl e c

-- the kinds that end a line, as the code asks for them
pub line_end : {x : Bool} {k : Sym} (r : List Sym) → x ≡ bit 0x70000000 k → k ≡ current r → x ≡ at (one_of (Newline ∷ Comment ∷ DocComment ∷ [])) r
unfolding one_of
line_end {k} r e c = at_by (one_of (Newline ∷ Comment ∷ DocComment ∷ [])) r refl (e ∙ bits_are 0x70000000 (Newline ∷ Comment ∷ DocComment ∷ []) k tt tt) c

-- behind the test for Whitespace, the same is asked by `is_trivia`
pub trivia_end : {x : Bool} {k : Sym} (r : List Sym) → x ≡ is_trivia k → k ≡ current r → (k ≡ Whitespace → ⊥) → x ≡ at (one_of (Newline ∷ Comment ∷ DocComment ∷ [])) r
unfolding one_of
trivia_end {k} r e c n = at_by (one_of (Newline ∷ Comment ∷ DocComment ∷ [])) r refl (e ∙ rw (ne_eqb Whitespace k (λ q. n (sym q))) refl) c

-- ---- tokens that a test leaves out
pub or_off : (s t : Bool) → (s || t) ≡ false → (s ≡ false) × (t ≡ false)
or_off true t e = absurd (false≢true (sym e))
or_off false t e = (refl, e)

pub not_else : (r : List Sym) → at_terminator Terminators.ElseEnd r ≡ false → at (is ELSE) r ≡ false
unfolding at at_terminator one_of
not_else [] e = refl
not_else (s ∷ r) e = (or_off (is ELSE s) _ e).0

pub not_doc : (r : List Sym) → at (one_of (Newline ∷ Comment ∷ DocComment ∷ [])) r ≡ false → at (is DocComment) r ≡ false
unfolding at one_of
not_doc [] e = refl
not_doc (s ∷ r) e = (or_off (is DocComment s) false (or_off (is Comment s) _ (or_off (is Newline s) _ e).1).1).0

pub boundary_is : (r : List Sym) → at (is ELSE) r ≡ false → at (is DocComment) r ≡ false → at_block_recovery_boundary r ≡ is_top_level_starter r
unfolding at_block_recovery_boundary at_top_level_form_starter_in_block
boundary_is r e d =
    ap₂ ◌||◌ e (ap (λ (u : Bool). elim u [ true ↦ is_top_level_starter (skip is_trivia (past (is DocComment) r)) | false ↦ is_top_level_starter r ]) d)

pub ruleset next = (starts, controls, not_else, boundary_is)

pub ruleset ends = (trivia_end, not_doc, at_here, at_not)
