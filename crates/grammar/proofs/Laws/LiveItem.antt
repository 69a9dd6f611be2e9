-- Every item is Live and takes at least one token; the item loop leaves nothing.
-- Assumes nothing.
use Rattle.std.specs.Prelude.{ℕ, zero, suc, ◌<◌, ◌≡◌, Bool, not, ◌||◌}
use Rattle.std.proofs.Math.Path.{refl}
use Rattle.std.proofs.Math.Bool.{true, false}
use Rattle.std.proofs.lemmas.Bool.{false≢true}
use mathlib.Core.List.{List, [], ◌∷◌}
use Rattle.std.proofs.Math.ListN.{length}
use Rattle.std.proofs.Common.{arith}
use Rattle.lexer.specs.Syntax.{DocComment, Whitespace, Newline, Comment, At}
use Rattle.grammar.specs.Words.{Sym, is, ADV_MAP, BEGIN, CONST, ENUM, MOD, NAMESPACE, PROC, PUB, TYPE}
use Rattle.grammar.specs.Look.{one_of, regular_trivia, at, eof, at_prefixed_keyword}
use Rattle.grammar.specs.Run.{P, pure, peek, pick, ◌>>=◌, ◌>>◌, when◌then◌else◌, err, loop, repeat}
use Rattle.grammar.specs.Message.{Message, ExpectedProc}
use Rattle.grammar.specs.Bump.{bump_while, expect_kind}
use Rattle.grammar.specs.Block.{BlockOwner, Terminators, Blocks, parse_block}
use Rattle.grammar.specs.Item.{package_in_parens, parse_visibility, optional_visibility, parse_attribute, parse_results, parse_signature, parse_namespace, parse_submodule, attribute_round, procedure_body, parse_procedure, parse_begin_block, parse_constant, type_name_and_body, parse_type_decl, parse_advice_map, at_declaration, at_procedure, parse_source_item, items}
use Rattle.grammar.specs.Laws.Numbers.{quiet_plain}
use Rattle.grammar.specs.Laws.Here.{bind_nothing, while_no, at_not, at_not_one, none, one_of_one}
use Rattle.grammar.specs.Laws.Live.{Live, Eats, Truly, anywhere, some, live_pure, live_take, live_all, live_bind, live_if, live_case, live_eof, live_eat, eats_bind, eats_node, eats_take, eats_weak, at_some, eats_case, truly_bind, truly_case, truly_false, live_loop, eats_loop}
use Rattle.grammar.specs.Laws.LiveLine.{live·rules, live_while, live_expect, live_name, live_error_token, live_group, live_expr, live_type_body, live_result, live_path, eats_error_token, eats_expect, live_key, eats_key}
use Rattle.grammar.proofs.Laws.LiveBlock.{live_closing, live_block}

-- ---- Live.
module _ {n : ℕ} where
  live_package : Live anywhere n package_in_parens
  unfolding package_in_parens
  live_package = search (live·rules, live_expect) depth 9

  live_visibility : Live (at (is PUB)) n parse_visibility
  unfolding parse_visibility one_of
  live_visibility = live_key PUB refl _ _ (λ a. search (live·rules, live_package))

  pub live_optional : Live anywhere n optional_visibility
  unfolding optional_visibility
  live_optional = live_case (at (is PUB)) live_visibility (live_pure true)

  live_attribute : Live (at (is At)) n parse_attribute
  unfolding parse_attribute one_of
  live_attribute = live_key At refl _ _ (λ a. search (live·rules, live_name, live_group) depth 9)

  live_signature : Live anywhere n parse_signature
  unfolding parse_signature parse_results
  live_signature = search (live·rules, live_group, live_result) depth 12

  live_namespace : Live (at (is NAMESPACE)) n parse_namespace
  unfolding parse_namespace one_of
  live_namespace = live_key NAMESPACE refl _ _ (λ a. search (live·rules, live_path) depth 9)

  live_submodule : Live anywhere n parse_submodule
  unfolding parse_submodule
  live_submodule = search (live·rules, live_optional, live_expect, live_name) depth 9

  live_constant : Live anywhere n parse_constant
  unfolding parse_constant
  live_constant = search (live·rules, live_optional, live_expect, live_name, live_expr) depth 12

  live_type_name : Live anywhere n type_name_and_body
  unfolding type_name_and_body
  live_type_name = search (live·rules, live_name, live_type_body) depth 9

  live_type : Live anywhere n parse_type_decl
  unfolding parse_type_decl
  live_type = search (live·rules, live_optional, live_type_name) depth 9

  live_advice_map : Live (at (is ADV_MAP)) n parse_advice_map
  unfolding parse_advice_map one_of
  live_advice_map = live_key ADV_MAP refl _ _ (λ a. search (live·rules, live_name, live_group, live_expect, live_expr) depth 12)

live_attribute_round : (n : ℕ) → Live anywhere n attribute_round
unfolding attribute_round
live_attribute_round n = live_bind (live_while _) (λ a. live_case (at (is At)) (live_bind live_attribute (λ a. live_pure true)) (live_pure false))

eats_attribute : Eats (at (is At)) parse_attribute
unfolding parse_attribute one_of
eats_attribute = eats_key At refl _ _ {n = 0} (λ a. search (live·rules, live_name, live_group) depth 9)

pub truly_attribute_round : Truly attribute_round
unfolding attribute_round
truly_attribute_round = truly_bind (live_while _) (λ a. truly_case (at (is At)) (eats_bind 0 eats_attribute (λ a. live_pure true)) truly_false)

pub live_attributes : {n : ℕ} → Live anywhere n (loop attribute_round)
live_attributes = live_loop live_attribute_round truly_attribute_round

module _ {n : ℕ} {blk : Blocks} (h : (w : BlockOwner) (t : Terminators) (d : ℕ) → Live anywhere n (blk w t d)) where
  live_begin : Live (at (is BEGIN)) n (parse_begin_block blk)
  unfolding parse_begin_block one_of
  live_begin = live_key BEGIN refl _ _ (λ a. search (live·rules, live_closing, h) depth 9)

  live_body : Live anywhere n (procedure_body blk)
  unfolding procedure_body
  live_body = search (live·rules, live_name, live_signature, live_closing, h) depth 12

  live_procedure : Live anywhere n (parse_procedure blk)
  unfolding parse_procedure
  live_procedure = search (live·rules, live_attributes, live_optional, live_expect, live_body) depth 12

  pub live_item : Live some n (parse_source_item blk)
  unfolding parse_source_item
  live_item =
      live_if (at (is DocComment)) (live_all (search live·rules))
      (live_if (at regular_trivia) (live_all live_take)
      (live_case (at (is NAMESPACE)) live_namespace
      (live_if (at_declaration (MOD ∷ [])) (live_all live_submodule)
      (live_if at_procedure (live_all live_procedure)
      (live_case (at (is BEGIN)) live_begin
      (live_if (at_declaration (CONST ∷ [])) (live_all live_constant)
      (live_if (at_declaration (TYPE ∷ ENUM ∷ [])) (live_all live_type)
      (live_case (at (is ADV_MAP)) live_advice_map
      (live_all (live_error_token _ (quiet_plain _)))))))))))

-- ---- Eats.
eats_nothing : {q : List Sym → Bool} {A B : Type 0} {f : P A} (g : A → P B) (a : A) → ((r : List Sym) → q r ≡ true → f r ≡ pure a r) → Eats q (g a) → Eats q (f >>= g)
eats_nothing {f} g a N E = record { eats = λ r e. rw (bind_nothing f g a r (N r e)) (E.eats r e) }

-- A class without trivia: bump_regular_trivia does nothing there.
eats_trivia : (p : Sym → Bool) → none p (Whitespace ∷ Newline ∷ Comment ∷ []) ≡ true → {A : Type 0} (g : Bool → P A) → Eats (at p) (g true) → Eats (at p) (bump_while regular_trivia >>= g)
eats_trivia p h g E = eats_nothing g true (λ r e. while_no regular_trivia r (at_not p _ h r e)) E

-- A declaration begins at `pub` or at one of its keywords.
abbrev pub opens : List Sym → Sym → Bool
opens ks s = is PUB s || one_of ks s

pub declaration_key : (ks : List Sym) (r : List Sym) → at_declaration ks r ≡ true → at (opens ks) r ≡ true
unfolding at at_declaration at_prefixed_keyword
declaration_key ks [] e = e
declaration_key ks (s ∷ r) e = grind (arith, e)

pub eats_visibility : Eats (at (is PUB)) parse_visibility
unfolding parse_visibility one_of
eats_visibility = eats_key PUB refl _ _ {n = 0} (λ a. search (live·rules, live_package))

eats_declared : {n : ℕ} (ks : List Sym) {A : Type 0} {g : Bool → P A} → ((a : Bool) → Live anywhere n (g a)) → Eats (at (one_of ks)) (g true) → Eats (at (opens ks)) (optional_visibility >>= g)
unfolding optional_visibility ◌>>=◌ peek pure at
eats_declared {n} ks {A} {g} G E = record { eats = c }
  where
    c : (r : List Sym) → at (opens ks) r ≡ true → length ((optional_visibility >>= g) r).rest < length r
    c [] e = absurd (false≢true e)
    c (s ∷ r) e = d (is PUB s) refl e
      where
        d : (u : Bool) → is PUB s ≡ u → (u || one_of ks s) ≡ true → length ((pick u parse_visibility (pure true) >>= g) (s ∷ r)).rest < length (s ∷ r)
        d true q e = (eats_bind n eats_visibility G).eats (s ∷ r) q
        d false q e = E.eats (s ∷ r) e

eats_submodule : Eats (at (opens (MOD ∷ []))) parse_submodule
unfolding parse_submodule one_of
eats_submodule = eats_node _ (eats_declared {n = 0} (MOD ∷ []) (λ a. search (live·rules, live_expect, live_name) depth 9)
    (eats_bind 0 (eats_weak (one_of_one MOD) (eats_expect MOD refl _)) (λ a. search (live·rules, live_name) depth 9)))

eats_constant : Eats (at (opens (CONST ∷ []))) parse_constant
unfolding parse_constant one_of
eats_constant = eats_node _ (eats_declared {n = 0} (CONST ∷ []) (λ a. search (live·rules, live_expect, live_name, live_expr) depth 12)
    (eats_bind 0 (eats_weak (one_of_one CONST) (eats_expect CONST refl _)) (λ a. search (live·rules, live_expect, live_name, live_expr) depth 12)))

eats_yes : (t : List Sym → Bool) {A : Type 0} {f : P A} (g : P A) → Eats t f → Eats t (when t then f else g)
unfolding ◌>>=◌ peek
eats_yes t g F = record { eats = λ r e. rw e (F.eats r e) }

eats_type : Eats (at (opens (TYPE ∷ ENUM ∷ []))) parse_type_decl
unfolding parse_type_decl none one_of
eats_type = eats_node _ (eats_declared {n = 0} (TYPE ∷ ENUM ∷ []) (λ a. search (live·rules, live_type_name) depth 9)
    (eats_trivia (one_of (TYPE ∷ ENUM ∷ [])) refl _ (eats_yes (at (one_of (TYPE ∷ ENUM ∷ []))) _ (eats_bind 0 (eats_weak (at_some _) eats_take) (λ a. live_type_name)))))

-- At `@` the loop takes it; at another token that is no trivia it does nothing.
eats_attribute_round : Eats (at (is At)) attribute_round
unfolding attribute_round none one_of
eats_attribute_round = eats_trivia (is At) refl _ (eats_yes (at (is At)) _ (eats_bind 0 eats_attribute (λ a. live_pure true)))

eats_attributes : Eats (at (is At)) (loop attribute_round)
eats_attributes = eats_loop live_attribute_round truly_attribute_round eats_attribute_round

pub no_attributes : (r : List Sym) → at (opens (PROC ∷ [])) r ≡ true → loop attribute_round r ≡ pure false r
unfolding loop repeat attribute_round ◌>>=◌ peek pure none one_of
no_attributes r e = rw (while_no regular_trivia r (at_not (opens (PROC ∷ [])) (Whitespace ∷ Newline ∷ Comment ∷ []) refl r e), at_not_one (opens (PROC ∷ [])) At refl r e)

eats_namespace : Eats (at (is NAMESPACE)) parse_namespace
unfolding parse_namespace one_of
eats_namespace = eats_key NAMESPACE refl _ _ {n = 0} (λ a. search (live·rules, live_path) depth 9)

eats_advice_map : Eats (at (is ADV_MAP)) parse_advice_map
unfolding parse_advice_map one_of
eats_advice_map = eats_key ADV_MAP refl _ _ {n = 0} (λ a. search (live·rules, live_name, live_group, live_expect, live_expr) depth 12)

-- Behind the attributes.
abbrev pub after_attributes : Blocks → P Bool
after_attributes blk =
    bump_while regular_trivia >>
    optional_visibility >>
    bump_while regular_trivia >>
    expect_kind PROC (Message.Plain ExpectedProc) >>= λ declared.
    pick (not declared) (pure true) (procedure_body blk)

module _ {n : ℕ} {blk : Blocks} (h : (w : BlockOwner) (t : Terminators) (d : ℕ) → Live anywhere n (blk w t d)) where
  eats_after : Eats (at (opens (PROC ∷ []))) (after_attributes blk)
  unfolding none one_of
  eats_after = eats_trivia (opens (PROC ∷ [])) refl _ (eats_declared {n = n} (PROC ∷ []) (λ a. search (live·rules, live_expect, live_body) depth 12)
      (eats_trivia (one_of (PROC ∷ [])) refl _ (eats_bind n (eats_weak (one_of_one PROC) (eats_expect PROC refl _)) (λ a. search (live·rules, live_body)))))

  live_after : Live anywhere n (after_attributes blk)
  live_after = search (live·rules, live_optional, live_expect, live_body) depth 12

  eats_procedure : Eats at_procedure (parse_procedure blk)
  unfolding parse_procedure at_procedure none one_of
  eats_procedure = eats_node _ (record { eats = λ r e. c (at (is At) r) r refl e })
    where
      c : (u : Bool) (r : List Sym) → at (is At) r ≡ u → (u || at_declaration (PROC ∷ []) r) ≡ true → length ((loop attribute_round >> after_attributes blk) r).rest < length r
      c true r q e = (eats_bind n eats_attributes (λ a. live_after)).eats r q
      c false r q e = (eats_nothing (λ a. after_attributes blk) false no_attributes eats_after).eats r (declaration_key (PROC ∷ []) r e)

  eats_begin : Eats (at (is BEGIN)) (parse_begin_block blk)
  unfolding parse_begin_block one_of
  eats_begin = eats_key BEGIN refl _ _ {n = n} (λ a. search (live·rules, live_closing, h) depth 9)

  -- Every round of the item loop takes at least one token.
  pub eats_item : Eats some (parse_source_item blk)
  unfolding parse_source_item one_of
  eats_item =
      eats_case (at (is DocComment)) (eats_weak (at_some _) (eats_node _ eats_take))
      (eats_case (at regular_trivia) (eats_weak (at_some _) eats_take)
      (eats_case (at (is NAMESPACE)) eats_namespace
      (eats_case (at_declaration (MOD ∷ [])) (eats_weak (declaration_key _) eats_submodule)
      (eats_case at_procedure eats_procedure
      (eats_case (at (is BEGIN)) eats_begin
      (eats_case (at_declaration (CONST ∷ [])) (eats_weak (declaration_key _) eats_constant)
      (eats_case (at_declaration (TYPE ∷ ENUM ∷ [])) (eats_weak (declaration_key _) eats_type)
      (eats_case (at (is ADV_MAP)) eats_advice_map
      (eats_error_token _)))))))))

pub live_items : (n lim : ℕ) → Live anywhere n (items n lim)
unfolding items ◌>>=◌ err pure
live_items zero lim = record { calm = λ r e h. absurd (omega arith); less = λ r. omega arith }
live_items (suc n) lim = live_eof (live_pure true) (live_eat (live_item (live_block lim)) (eats_item {n = 0} (live_block lim)) (λ a. live_items n lim))

-- Nothing is left.
pub items_end : (n lim : ℕ) (r : List Sym) → length r < n → (items n lim r).rest ≡ []
unfolding items ◌>>=◌ peek eof pure some
items_end zero lim r h = absurd (omega arith)
items_end (suc n) lim [] h = refl
items_end (suc n) lim (s ∷ r) h = items_end n lim (parse_source_item (parse_block lim) (s ∷ r)).rest (omega (arith, (eats_item {n = 0} (live_block lim)).eats (s ∷ r) refl))
