-- The arm that the code finds, by two tokens and by whether the first is a word, is the definition's. Assumes nothing.
use mathlib.Core.Bool.{Bool, true, false, cond, ◌||◌, or-false}
use mathlib.Core.List.{List, [], ◌∷◌}
use native.Mathlib.Omega.{arith}
use Prim.Native.Nat.{◌≤◌, ◌<◌}
use lib.Dec.{ltb}
use borrow.Author.Tests.{ne_eqb, eqb-true, ltb-true, ltb-false}
use mathlib.Core.Path.{◌≡◌, refl, sym, ap, subst, ◌∙◌}
use Rattle.lexer.specs.Syntax.{Whitespace, Newline, Comment, DocComment, At}
use Rattle.grammar.specs.Words.{Sym, MARK, is, ADV_MAP, BEGIN, CONST, ENUM, MOD, NAMESPACE, PROC, PUB, TYPE}
use Rattle.grammar.specs.Look.{one_of, current, regular_trivia, at}
use Rattle.grammar.specs.Block.{Blocks}
use Rattle.grammar.specs.Item.{at_declaration, at_procedure, parse_source_item}
use Rattle.parser.specs.Ahead.{declared}
use Rattle.parser.specs.Rep.{World, remaining, Ran}
use Rattle.parser.proofs.Kit.{like}
use Rattle.parser.proofs.Laws.{at_current}
use Rattle.parser.proofs.Ahead.{declaration_is}
use Rattle.items.specs.declared.arm.ItemArm.{ItemArm}
use Rattle.items.specs.Arms.{item_arm, declaration_arm, word_arm, plain_arm, arm_by, by_item_arm, item_is}

-- the tests in parse_source_item's order, by two tokens
abbrev in_order : Sym → Sym → ItemArm
in_order k d =
    cond (is DocComment k) ItemArm.Doc
    (cond (regular_trivia k) ItemArm.Trivia
    (cond (is NAMESPACE k) ItemArm.Namespace
    (cond (is MOD d) ItemArm.Submodule
    (cond (is At k || is PROC d) ItemArm.Procedure
    (cond (is BEGIN k) ItemArm.Begin
    (cond (is CONST d) ItemArm.Constant
    (cond (is TYPE d || is ENUM d) ItemArm.Type
    (cond (is ADV_MAP k) ItemArm.AdviceMap
    ItemArm.Bad))))))))

module _ (k : Sym) where
  -- a token that is no word, and one that is
  no_word : (w : Sym) → MARK ≤ w → k < MARK → is w k ≡ false
  no_word w h l = ne_eqb w k (λ e. omega arith)

  no_kind : (w : Sym) → w < MARK → MARK ≤ k → is w k ≡ false
  no_kind w h l = ne_eqb w k (λ e. omega arith)

  plain_is : k < MARK → in_order k k ≡ plain_arm k
  unfolding plain_arm
  plain_is h =
      rw (
        no_word NAMESPACE (omega arith) h,
        no_word MOD (omega arith) h,
        no_word PROC (omega arith) h,
        no_word BEGIN (omega arith) h,
        no_word CONST (omega arith) h,
        no_word TYPE (omega arith) h,
        no_word ENUM (omega arith) h,
        no_word ADV_MAP (omega arith) h,
        or-false (is At k),
      )
      refl

  -- `begin` and `adv_map` are no declaration's keyword, so they may be asked for first
  words_are : MARK ≤ k → (b a : Bool) → is BEGIN k ≡ b → is ADV_MAP k ≡ a → in_order k k ≡ word_arm k
  unfolding word_arm declaration_arm one_of
  words_are h true a e f = rw (← eqb-true BEGIN k e) refl
  words_are h false true e f = rw (← eqb-true ADV_MAP k f) refl
  words_are h false false e f =
      rw (e, f, no_kind DocComment (omega arith) h, no_kind Whitespace (omega arith) h, no_kind Newline (omega arith) h, no_kind Comment (omega arith) h, no_kind At (omega arith) h)
      refl

module _ (r : List Sym) where
  -- a token's test, and a declaration's
  here : (k : Sym) → is k 0 ≡ false → at (is k) r ≡ is k (current r)
  here k e = sym (at_current (is k) r e)

  one : (k : Sym) → one_of (k ∷ []) PUB ≡ false → one_of (k ∷ []) 0 ≡ false → at_declaration (k ∷ []) r ≡ is k (declared r)
  unfolding one_of
  one k p n = declaration_is (k ∷ []) r p n ∙ or-false _

  in_order_is : in_order (current r) (declared r) ≡ item_arm r
  unfolding item_arm one_of at_procedure
  in_order_is =
      rw (here DocComment refl, sym (at_current regular_trivia r refl), here NAMESPACE refl, here At refl, here BEGIN refl, here ADV_MAP refl)
      (rw (one MOD refl refl, one PROC refl refl, one CONST refl refl, declaration_is (TYPE ∷ ENUM ∷ []) r refl refl, or-false (is ENUM (declared r))))

  -- a token that is not `pub` is the one that says which declaration starts here
  alone : is PUB (current r) ≡ false → declared r ≡ current r
  unfolding declared
  alone e = rw (here PUB refl ∙ e) refl

  pub arm_is : arm_by (current r) (declared r) ≡ item_arm r
  unfolding arm_by declaration_arm one_of
  arm_is = by_test (ltb (current r) MARK) (is PUB (current r)) refl refl ∙ in_order_is
    where
      by_test : (l p : Bool) → ltb (current r) MARK ≡ l → is PUB (current r) ≡ p → arm_by (current r) (declared r) ≡ in_order (current r) (declared r)
      by_test true p e f =
          let h = ltb-true (current r) MARK e in
          rw (e, alone (no_word (current r) PUB (omega arith) h)) (sym (plain_is (current r) h))
      by_test false true e f = rw (← eqb-true PUB (current r) f) refl
      by_test false false e f =
          rw (e, f, alone f) (sym (words_are (current r) (ltb-false (current r) MARK e) _ _ refl refl))

-- the function of an arm that is known
pub armed : {w w' : World} {a a' : ItemArm} (block : Blocks) → a ≡ a' → Ran (by_item_arm a' block) w w' → Ran (by_item_arm a block) w w'
armed {w} {w'} block e h = subst (λ a. Ran (by_item_arm a block) w w') (sym e) h

-- an item, by the arm that is found
pub by_item : {w w' : World} (a : ItemArm) (block : Blocks) → a ≡ item_arm (remaining w) → Ran (by_item_arm a block) w w' → Ran (parse_source_item block) w w'
by_item {w} a block e h = like (by_item_arm a block) (item_is block _ ∙ ap (λ (x : ItemArm). by_item_arm x block (remaining w)) (sym e)) h
