-- Which item starts at a token, in the order of parse_source_item's tests, and that it is the arm's function: `item_is`. The code finds
-- the arm by the token here and by the one that says which declaration starts here (arm_by); that it is the same is `arm_is` in
-- proofs/Arms.
-- Assumes nothing.
use Rattle.std.specs.Prelude.{◌≡◌, refl, Bool, cond, ◌||◌, List, [], ◌∷◌, ltb}
use Rattle.lexer.specs.Syntax.{DocComment, At}
use Rattle.grammar.specs.Words.{Sym, MARK, is, ADV_MAP, BEGIN, CONST, ENUM, MOD, NAMESPACE, PROC, PUB, TYPE}
use Rattle.grammar.specs.Look.{regular_trivia, at_kind, at_keyword, at_regular_trivia}
use Rattle.grammar.specs.Run.{Res, P}
use Rattle.grammar.specs.declared.message.Message.{Message}
use Rattle.grammar.specs.declared.message.PlainMessage.TheVariants.{UnexpectedTopLevelToken}
use Rattle.grammar.specs.Bump.{bump, error_token}
use Rattle.grammar.specs.Block.{Blocks}
use Rattle.grammar.specs.Item.{parse_doc_form, parse_namespace, parse_submodule, parse_procedure, parse_begin_block, parse_constant, parse_type_decl, parse_advice_map, at_declaration, at_procedure, parse_source_item}
use Rattle.grammar.specs.Laws.Here.{if_arm}
use Rattle.items.specs.declared.arm.ItemArm.{ItemArm}

-- the tests, in their order
unfoldable pub item_arm : List Sym → ItemArm
item_arm r =
    cond (at_kind DocComment r) ItemArm.Doc
    (cond (at_regular_trivia r) ItemArm.Trivia
    (cond (at_keyword NAMESPACE r) ItemArm.Namespace
    (cond (at_declaration (MOD ∷ []) r) ItemArm.Submodule
    (cond (at_procedure r) ItemArm.Procedure
    (cond (at_keyword BEGIN r) ItemArm.Begin
    (cond (at_declaration (CONST ∷ []) r) ItemArm.Constant
    (cond (at_declaration (TYPE ∷ ENUM ∷ []) r) ItemArm.Type
    (cond (at_keyword ADV_MAP r) ItemArm.AdviceMap
    ItemArm.Bad))))))))

-- what parse_source_item does in each arm
unfoldable pub by_item_arm : ItemArm → Blocks → P Bool
by_item_arm ItemArm.Doc block = parse_doc_form
by_item_arm ItemArm.Trivia block = bump
by_item_arm ItemArm.Namespace block = parse_namespace
by_item_arm ItemArm.Submodule block = parse_submodule
by_item_arm ItemArm.Procedure block = parse_procedure block
by_item_arm ItemArm.Begin block = parse_begin_block block
by_item_arm ItemArm.Constant block = parse_constant
by_item_arm ItemArm.Type block = parse_type_decl
by_item_arm ItemArm.AdviceMap block = parse_advice_map
by_item_arm ItemArm.Bad block = error_token (Message.Plain UnexpectedTopLevelToken)

pub item_is : (block : Blocks) (r : List Sym) → parse_source_item block r ≡ by_item_arm (item_arm r) block r
unfolding parse_source_item item_arm by_item_arm
item_is block r =
    let h : ItemArm → Res Bool = λ a. by_item_arm a block r in
    if_arm h (at_kind DocComment) _ _ r refl
    (if_arm h at_regular_trivia _ _ r refl
    (if_arm h (at_keyword NAMESPACE) _ _ r refl
    (if_arm h (at_declaration (MOD ∷ [])) _ _ r refl
    (if_arm h at_procedure _ _ r refl
    (if_arm h (at_keyword BEGIN) _ _ r refl
    (if_arm h (at_declaration (CONST ∷ [])) _ _ r refl
    (if_arm h (at_declaration (TYPE ∷ ENUM ∷ [])) _ _ r refl
    (if_arm h (at_keyword ADV_MAP) _ _ r refl refl))))))))

-- the declaration that a keyword starts, alone or behind `pub`
unfoldable pub declaration_arm : Sym → ItemArm
declaration_arm d =
    cond (is MOD d) ItemArm.Submodule
    (cond (is PROC d) ItemArm.Procedure
    (cond (is CONST d) ItemArm.Constant
    (cond (is TYPE d || is ENUM d) ItemArm.Type
    ItemArm.Bad)))

-- at a word that is not `pub`
unfoldable pub word_arm : Sym → ItemArm
word_arm k =
    cond (is NAMESPACE k) ItemArm.Namespace
    (cond (is BEGIN k) ItemArm.Begin
    (cond (is ADV_MAP k) ItemArm.AdviceMap
    (declaration_arm k)))

-- at a token that is no word
unfoldable pub plain_arm : Sym → ItemArm
plain_arm k = cond (is DocComment k) ItemArm.Doc (cond (regular_trivia k) ItemArm.Trivia (cond (is At k) ItemArm.Procedure ItemArm.Bad))

-- by the token k here, and the token d that says which declaration starts here
unfoldable pub arm_by : Sym → Sym → ItemArm
arm_by k d = cond (ltb k MARK) (plain_arm k) (cond (is PUB k) (declaration_arm d) (word_arm k))
