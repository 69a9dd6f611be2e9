-- `declarations::type_decl::type_name_and_body`: the steps of its callees, and one test. Assumes nothing.
use mathlib.Core.Bool.{Bool, true}
use mathlib.Core.List.{List, [], ◌∷◌}
use mathlib.Core.Path.{◌≡◌, refl, ap, ◌∙◌}
use Rattle.grammar.specs.Item.{type_name_and_body}
use Rattle.grammar.specs.Look.{at, one_of, current}
use Rattle.grammar.specs.Words.{Sym}
use Rattle.lexer.specs.Syntax.{Equal, Colon}
use Rattle.parser.specs.Sets.{bit, bits_are}
use Rattle.parser.proofs.Kit.{yes, no, done, ◌then◌}
use Rattle.parser.proofs.Laws.{at_current}
use Rattle.declarations.proofs.type_decl.type_name_and_body.Goals as goal

-- the set's bits, as the definition's test
equal_or_colon : {x : Bool} {k : Sym} (r : List Sym) → x ≡ bit 0x104000000000 k → k ≡ current r → x ≡ at (one_of (Equal ∷ Colon ∷ [])) r
unfolding one_of
equal_or_colon {x} {k} r e c = e ∙ bits_are _ (Equal ∷ Colon ∷ []) k tt tt ∙ ap (one_of (Equal ∷ Colon ∷ [])) c ∙ at_current (one_of (Equal ∷ Colon ∷ [])) r refl

pub returns-then-in_set : goal.returns-then-in_set
unfolding type_name_and_body
returns-then-in_set c =
    c.bump_regular_trivia-a.ensures then c.expect_name-b.ensures then c.bump_regular_trivia-d.ensures then yes _ _ (equal_or_colon _ c.in_set.ensures c.current.ensures) c.if-in_set.true (c.parse_type_body.ensures then done true)

pub returns : goal.returns
unfolding type_name_and_body
returns c =
    c.bump_regular_trivia-a.ensures then c.expect_name-b.ensures then c.bump_regular_trivia-d.ensures then no _ _ (equal_or_colon _ c.in_set.ensures c.current.ensures) c.if-in_set.false (c.error_here.ensures.ran)
