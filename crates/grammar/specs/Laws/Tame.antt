-- Tame: a function that never tells how a block ended, by a missing closer or at the depth limit. All are, but blocks and what holds them.
-- Assumes nothing.
use Rattle.std.specs.Prelude.{ℕ, zero, suc, ◌+◌, ◌*◌, ◌≡◌, refl, Bool, true, false, List, [], ◌∷◌, length}
use Rattle.grammar.specs.Words.{Sym}
use Rattle.grammar.specs.Run.{Kind, P, pure, peek, in_node, pick, ◌>>=◌, when◌then◌else◌, take_token, err, Round, scan, repeat, loop}
use Rattle.grammar.specs.Message.{Message, number, missing_end_number}
use Rattle.grammar.specs.Bump.{while_round, bump_while, expect_kind, expect_name, error_token}
use Rattle.grammar.specs.Path.{path_segment, path_round, parse_path_with_message, group_round, parse_balanced_group}
use Rattle.grammar.specs.Line.{expr_round, parse_expr_until_line_end, type_round, parse_type_body, tail_round, parse_line_tail, result_round, parse_signature_result_until_line_end}
use Rattle.grammar.specs.Instruction.{instruction_round, parse_instruction}
use Rattle.grammar.specs.Block.{BlockOwner, BlockRecoveryBoundary, suffix_operand, suffix_round, parse_structured_header_suffixes, recover}
use Rattle.grammar.specs.Item.{package_in_parens, parse_visibility, optional_visibility, parse_attribute, parse_results, parse_signature, parse_namespace, parse_submodule, attribute_round, parse_constant, type_name_and_body, parse_type_decl, parse_advice_map}
use Rattle.grammar.specs.declared.nesting.Closer.{Closer}
use Rattle.grammar.specs.Endings.{ending}
use Rattle.grammar.specs.Laws.Good.{Calm}
use Rattle.grammar.specs.Laws.Hush.{Hush, hush_while, hush_tail, hush_group, hush_expr, hush_type, hush_result, hush_instruction, scan_calm}
use Rattle.grammar.specs.Laws.Live.{calm_join}

pub record Tame {A : Type 0} (f : P A) : Type 0 where
  pub tame : (r : List Sym) → Calm ending (f r).out

pub tame_pure : {A : Type 0} (a : A) → Tame (pure a)
unfolding pure
tame_pure a = record { tame = λ r. tt }

pub tame_take : Tame take_token
unfolding take_token
tame_take = record { tame = c }
  where
    c : (r : List Sym) → Calm ending (take_token r).out
    c [] = tt
    c (s ∷ r) = tt

pub tame_err : (m : ℕ) → ending m ≡ false → Tame (err m)
unfolding err
tame_err m e = record { tame = λ r. (e, tt) }

pub tame_node : (k : Kind) {A : Type 0} {f : P A} → Tame f → Tame (in_node k f)
unfolding in_node
tame_node k F = record { tame = λ r. (F.tame r, tt) }

pub tame_pick : (u : Bool) {A : Type 0} {f g : P A} → Tame f → Tame g → Tame (pick u f g)
tame_pick true F G = F
tame_pick false F G = G

pub tame_bind : {A B : Type 0} {f : P A} {g : A → P B} → Tame f → ((a : A) → Tame (g a)) → Tame (f >>= g)
unfolding ◌>>=◌
tame_bind {f} {g} F G = record { tame = λ r. calm_join ending (f r).out (g (f r).val (f r).rest).out (F.tame r) ((G (f r).val).tame (f r).rest) }

pub tame_if : {A : Type 0} (t : List Sym → Bool) {f g : P A} → Tame f → Tame g → Tame (when t then f else g)
unfolding ◌>>=◌ peek
tame_if t F G = record { tame = λ r. (tame_pick (t r) F G).tame r }

repeat_tame : {f : P Bool} → Tame f → (n : ℕ) → Tame (repeat n f)
unfolding repeat
repeat_tame F zero = tame_bind (tame_err 0 refl) (λ a. tame_pure false)
repeat_tame F (suc n) = tame_bind F (λ c. tame_pick c (repeat_tame F n) (tame_pure false))

tame_loop : {f : P Bool} → Tame f → Tame (loop f)
unfolding loop
tame_loop F = record { tame = λ r. (repeat_tame F (suc (length r))).tame r }

pub tame_scan : {L : Type 0} (step : L → List Sym → Round L) → ((l : L) (r : List Sym) → Hush ending (step l r)) → (l : L) → Tame (scan step l)
tame_scan step q l = record { tame = scan_calm step q l }

-- ---- The functions.
tame_closer : (c : Closer) → ending (number (Message.UnexpectedCloser c)) ≡ false
unfolding number
tame_closer Closer.Paren = refl
tame_closer Closer.Bracket = refl
tame_closer Closer.Brace = refl

-- A recovery's two numbers.
owners : (w : BlockOwner) → (ending (6 + 2 * missing_end_number w) ≡ false) × (ending (7 + 2 * missing_end_number w) ≡ false)
owners BlockOwner.Begin = (refl, refl)
owners BlockOwner.Procedure = (refl, refl)
owners BlockOwner.If = (refl, refl)
owners BlockOwner.While = (refl, refl)
owners BlockOwner.DoWhileBody = (refl, refl)
owners BlockOwner.DoWhile = (refl, refl)
owners BlockOwner.Repeat = (refl, refl)

pub tame_while : (p : Sym → Bool) → Tame (bump_while p)
unfolding bump_while
tame_while p = tame_scan (while_round p) (hush_while p) true

pub tame_tail : Tame parse_line_tail
unfolding parse_line_tail
tame_tail = tame_scan tail_round hush_tail true

pub ruleset tame·rules = (tame_pure, tame_take, tame_err, tame_node, tame_pick, tame_if, tame_bind, tame_while, tame_tail)

pub tame_expect : (k : Sym) (m : Message) → ending (number m) ≡ false → Tame (expect_kind k m)
unfolding expect_kind
tame_expect k m e = search tame·rules

pub tame_name : (m : Message) → ending (number m) ≡ false → Tame (expect_name m)
unfolding expect_name
tame_name m e = search tame·rules

pub tame_error_token : (m : Message) → ending (number m) ≡ false → Tame (error_token m)
unfolding error_token
tame_error_token m e = search tame·rules

tame_path : (m : Message) → ending (number m) ≡ false → Tame (parse_path_with_message m)
unfolding parse_path_with_message path_round path_segment number
tame_path m e = search (tame·rules, tame_loop) depth 20

tame_group : (o k : Sym) (m : Message) → ending (number m) ≡ false → Tame (parse_balanced_group o k m)
unfolding parse_balanced_group
tame_group o k m e = search (tame·rules, tame_expect, tame_scan (group_round o k) (hush_group o k)) depth 9

pub tame_instruction : Tame parse_instruction
unfolding parse_instruction
tame_instruction = tame_node _ (tame_scan instruction_round (hush_instruction tame_closer) _)

tame_expr : Tame parse_expr_until_line_end
unfolding parse_expr_until_line_end
tame_expr = search (tame·rules, tame_scan expr_round (hush_expr tame_closer))

pub tame_suffixes : Tame parse_structured_header_suffixes
unfolding parse_structured_header_suffixes suffix_round suffix_operand number
tame_suffixes = tame_loop (search (tame·rules, tame_group) depth 20)

pub tame_recover : (w : BlockOwner) (x : BlockRecoveryBoundary) → Tame (recover w x)
unfolding recover number
tame_recover w BlockRecoveryBoundary.Else = let e = (owners w).0 in search tame·rules
tame_recover w BlockRecoveryBoundary.TopLevelItem = let e = (owners w).1 in search tame·rules

-- ---- Items that hold no block.
pub tame_visibility : Tame optional_visibility
unfolding optional_visibility parse_visibility package_in_parens number
tame_visibility = search (tame·rules, tame_expect) depth 20

pub tame_attributes : Tame (loop attribute_round)
unfolding attribute_round parse_attribute number
tame_attributes = tame_loop (search (tame·rules, tame_expect, tame_name, tame_group) depth 20)

pub tame_signature : Tame parse_signature
unfolding parse_signature parse_results parse_signature_result_until_line_end number
tame_signature = search (tame·rules, tame_group, tame_scan result_round (hush_result tame_closer)) depth 20

pub tame_namespace : Tame parse_namespace
unfolding parse_namespace number
tame_namespace = search (tame·rules, tame_expect, tame_path) depth 20

pub tame_submodule : Tame parse_submodule
unfolding parse_submodule number
tame_submodule = search (tame·rules, tame_visibility, tame_expect, tame_name) depth 20

pub tame_constant : Tame parse_constant
unfolding parse_constant number
tame_constant = search (tame·rules, tame_visibility, tame_expect, tame_name, tame_expr) depth 20

pub tame_type : Tame parse_type_decl
unfolding parse_type_decl type_name_and_body parse_type_body number
tame_type = search (tame·rules, tame_visibility, tame_name, tame_scan type_round (hush_type tame_closer)) depth 20

pub tame_advice_map : Tame parse_advice_map
unfolding parse_advice_map number
tame_advice_map = search (tame·rules, tame_expect, tame_name, tame_group, tame_expr) depth 20
