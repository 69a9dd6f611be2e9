-- `declarations::type_decl::type_keyword`: one test. Assumes nothing.
use mathlib.Core.Bool.{Bool}
use mathlib.Core.List.{List, [], ◌∷◌}
use mathlib.Core.Path.{◌≡◌, refl, ap, ◌∙◌}
use Rattle.grammar.specs.Look.{at, one_of, current}
use Rattle.grammar.specs.Words.{Sym, TYPE, ENUM}
use Rattle.parser.specs.Sets.{word_bit, word_bits_are}
use Rattle.parser.proofs.Kit.{yes, no, ◌then◌}
use Rattle.parser.proofs.Laws.{at_current}
use Rattle.declarations.proofs.type_decl.type_keyword.Goals as goal

-- the words' bits, as the definition's test
type_or_enum : {x : Bool} {k : Sym} (r : List Sym) → x ≡ word_bit 0x8080 k → k ≡ current r → x ≡ at (one_of (TYPE ∷ ENUM ∷ [])) r
unfolding one_of
type_or_enum {x} {k} r e c = e ∙ word_bits_are _ (15 ∷ 7 ∷ []) k tt tt ∙ ap (one_of (TYPE ∷ ENUM ∷ [])) c ∙ at_current (one_of (TYPE ∷ ENUM ∷ [])) r refl

pub returns-then-in_words : goal.returns-then-in_words
returns-then-in_words c =
    yes _ _ (type_or_enum _ c.in_words.ensures c.current.ensures) c.if-in_words.true (c.bump-a.ensures.ran then c.type_name_and_body.ensures)

pub returns : goal.returns
returns c =
    no _ _ (type_or_enum _ c.in_words.ensures c.current.ensures) c.if-in_words.false (c.error_here.ensures.ran)
