-- Every function below the blocks is Live, and what takes a token for certain.
-- Assumes nothing.
use Rattle.std.specs.Prelude.{ℕ, suc, ◌<◌, ◌≡◌, refl, Bool, false, Result, Ok, Err}
use Rattle.std.proofs.Common.{ap, arith}
use Rattle.std.proofs.Math.Bool.{true}
use Rattle.std.proofs.lemmas.Bool.{false≢true}
use mathlib.Core.List.{List, [], ◌∷◌}
use Rattle.std.proofs.Math.ListN.{length, length-append}
use Rattle.lexer.specs.Syntax.{Whitespace, Newline, Comment, DocComment, Dot}
use Rattle.grammar.specs.Words.{Sym, is}
use Rattle.grammar.specs.Look.{one_of, name_like, regular_trivia, starts_instruction, at}
use Rattle.grammar.specs.Run.{Kind, P, pure, in_node, ◌>>=◌, ◌>>◌, take_token, err, loop}
use Rattle.grammar.specs.Message.{Message, number}
use Rattle.grammar.specs.Nesting.{Nesting, Closer, bump_by, counted, bump_nesting}
use Rattle.grammar.specs.Bump.{while_round, bump_while, expect_kind, expect_name, error_token}
use Rattle.grammar.specs.Path.{path_segment, path_round, parse_path_with_message, group_round, parse_balanced_group}
use Rattle.grammar.specs.Line.{expr_round, parse_expr_until_line_end, type_round, parse_type_body, tail_round, parse_line_tail, result_round, parse_signature_result_until_line_end}
use Rattle.grammar.specs.Instruction.{before_first, instruction_round, parse_instruction}
use Rattle.grammar.specs.Block.{suffix_operand, suffix_round, parse_structured_header_suffixes}
use Rattle.grammar.specs.Laws.Good.{Calm}
use Rattle.grammar.specs.Laws.Stable.{good_expect}
use Rattle.grammar.specs.Laws.Numbers.{no_message, quiet·rules, quiet_closer}
use Rattle.grammar.specs.Laws.Here.{expect_here, is_not, one_of_not, none}
use Rattle.grammar.specs.Laws.Live.{Live, Eats, Truly, anywhere, some, live_pure, live_take, live_err, live_pick, live_node, live_bind, live_if, live_eat, eats_bind, eats_node, eats_take, eats_weak, at_some, truly_bind, truly_case, truly_if, truly_false, live_loop, takes, live_scan, eats_scan}
use Rattle.grammar.specs.Laws.Hush.{hush_while, hush_tail, hush_group, hush_expr, hush_type, hush_result, hush_instruction}

module _ {n : ℕ} where
  pub live_while : (p : Sym → Bool) → Live anywhere n (bump_while p)
  unfolding bump_while
  live_while p = live_scan (while_round p) (hush_while p) true

  pub live_tail : Live anywhere n parse_line_tail
  unfolding parse_line_tail
  live_tail = live_scan tail_round hush_tail true

pub ruleset live·rules = (live_pure, live_take, live_err, live_node, live_pick, live_if, live_bind, live_while, live_tail, quiet·rules)

module _ {n : ℕ} where
  pub live_expect : (k : Sym) (m : Message) → no_message (number m) ≡ false → Live anywhere n (expect_kind k m)
  unfolding expect_kind
  live_expect k m e = search live·rules

  pub live_name : (m : Message) → no_message (number m) ≡ false → Live anywhere n (expect_name m)
  unfolding expect_name
  live_name m e = search live·rules

  pub live_error_token : (m : Message) → no_message (number m) ≡ false → Live anywhere n (error_token m)
  unfolding error_token
  live_error_token m e = search live·rules

  live_segment : Live anywhere n path_segment
  unfolding path_segment
  live_segment = search live·rules depth 12

  pub live_group : (o k : Sym) (m : Message) → no_message (number m) ≡ false → Live anywhere n (parse_balanced_group o k m)
  unfolding parse_balanced_group
  live_group o k m e = search (live·rules, live_expect, live_scan (group_round o k) {n = n} (hush_group o k)) depth 9

  pub live_expr : Live anywhere n parse_expr_until_line_end
  unfolding parse_expr_until_line_end
  live_expr = search (live·rules, live_scan expr_round {n = n} (hush_expr quiet_closer))

  pub live_type_body : Live anywhere n parse_type_body
  unfolding parse_type_body
  live_type_body = live_node _ (live_scan type_round (hush_type quiet_closer) _)

  pub live_result : Live anywhere n parse_signature_result_until_line_end
  unfolding parse_signature_result_until_line_end
  live_result = search (live·rules, live_scan result_round {n = n} (hush_result quiet_closer))

  pub live_instruction : Live anywhere n parse_instruction
  unfolding parse_instruction
  live_instruction = live_node _ (live_scan instruction_round (hush_instruction quiet_closer) _)

-- ---- Loops whose rounds take a token.
pub eats_at : (p : Sym → Bool) → Eats (at p) take_token
eats_at p = eats_weak (at_some p) eats_take

-- A token that is taken, and true.
eats_true : (p : Sym → Bool) → Eats (at p) (take_token >> pure true)
eats_true p = eats_bind 0 (eats_at p) (λ a. live_pure true)

truly_said : (m : ℕ) → Truly (err m >> pure false)
unfolding ◌>>=◌ err pure
truly_said m = record { truly = λ r e. absurd (false≢true e) }

truly_segment : Truly path_segment
unfolding path_segment
truly_segment = truly_bind (live_while _) (λ a. truly_bind live_take (λ a. truly_bind (live_while _) (λ a. truly_case (at name_like) (eats_true name_like) (truly_said _))))

pub truly_path_round : Truly path_round
unfolding path_round
truly_path_round = truly_if _ truly_segment truly_false

live_segments : {n : ℕ} → Live anywhere n (loop path_round)
unfolding path_round
live_segments = live_loop (λ n. search (live·rules, live_segment)) truly_path_round

pub live_path : {n : ℕ} (m : Message) → no_message (number m) ≡ false → Live anywhere n (parse_path_with_message m)
unfolding parse_path_with_message
live_path m e = search (live·rules, live_segments) depth 12

live_operand : {n : ℕ} → Live anywhere n suffix_operand
unfolding suffix_operand
live_operand = search (live·rules, live_group) depth 12

pub truly_suffix_round : Truly suffix_round
unfolding suffix_round
truly_suffix_round = truly_bind (live_while _) (λ a. truly_case (at (is Dot)) (eats_bind 0 (eats_at (is Dot)) (λ a. search (live·rules, live_operand))) truly_false)

pub live_suffixes : {n : ℕ} → Live anywhere n parse_structured_header_suffixes
unfolding parse_structured_header_suffixes suffix_round
live_suffixes = live_loop (λ n. search (live·rules, live_operand)) truly_suffix_round

-- ---- What takes its first token.
pub eats_error_token : (m : Message) → Eats some (error_token m)
unfolding error_token ◌>>=◌ in_node err
eats_error_token m = record { eats = λ r e. eats_take.eats r e }

takes_counted : {L : Type 0} (n : Nesting) (f : Nesting → L) (x : Result Nesting Closer) → takes (counted n f x) ≡ true
unfolding counted
takes_counted n f (Ok m) = refl
takes_counted n f (Err c) = refl

pub takes_nesting : {L : Type 0} (n : Nesting) (k : Sym) (f : Nesting → L) → takes (bump_nesting n k f) ≡ true
unfolding bump_nesting
takes_nesting n k f = takes_counted n f (bump_by n k)

pub instruction_first : (s : Sym) (r : List Sym) → starts_instruction s ≡ true → takes (instruction_round before_first (s ∷ r)) ≡ true
unfolding instruction_round at one_of none starts_instruction name_like
instruction_first s r e = rw (is_not starts_instruction Whitespace s refl e, one_of_not starts_instruction (Newline ∷ Comment ∷ DocComment ∷ []) refl s e) (takes_nesting _ _ _)

pub eats_instruction : Eats (at starts_instruction) parse_instruction
unfolding parse_instruction
eats_instruction = eats_node _ (eats_scan instruction_round starts_instruction before_first instruction_first)

module _ (k : Sym) (t : regular_trivia k ≡ false) (m : Message) where
  -- At its keyword, expect takes it and says nothing, whatever the message.
  pub eats_expect : Eats (at (is k)) (expect_kind k m)
  unfolding at
  eats_expect = record { eats = c }
    where
      c : (r : List Sym) → at (is k) r ≡ true → length (expect_kind k m r).rest < length r
      c [] e = absurd (false≢true e)
      c (s ∷ r) e = rw (expect_here k m t s r e) (omega arith)

  pub live_expect_at : {n : ℕ} → Live (at (is k)) n (expect_kind k m)
  unfolding at
  live_expect_at {n} = record { calm = c; less = λ r. omega (arith, simp length-append at (ap length ((good_expect {b = []} {bad = no_message} k m).split r))) }
    where
      c : (r : List Sym) → at (is k) r ≡ true → length r < n → Calm no_message (expect_kind k m r).out
      c [] e h = absurd (false≢true e)
      c (s ∷ r) e h = rw (expect_here k m t s r e) tt

-- A node that begins at its keyword.
module _ (k : Sym) (t : regular_trivia k ≡ false) (j : Kind) {A : Type 0} {g : Bool → P A} (m : Message) where
  pub live_key : {n : ℕ} → ((a : Bool) → Live anywhere n (g a)) → Live (at (is k)) n (in_node j (expect_kind k m >>= g))
  live_key G = live_node j (live_bind (live_expect_at k t m) G)

  pub eats_key : {n : ℕ} → ((a : Bool) → Live anywhere n (g a)) → Eats (at (is k)) (in_node j (expect_kind k m >>= g))
  eats_key {n} G = eats_node j (eats_bind n (eats_expect k t m) G)

  -- With one fuel less behind the keyword.
  pub live_eats_key : {n : ℕ} → ((a : Bool) → Live anywhere n (g a)) → Live (at (is k)) (suc n) (in_node j (expect_kind k m >>= g)) × Eats (at (is k)) (in_node j (expect_kind k m >>= g))
  live_eats_key G = (live_node j (live_eat (live_expect_at k t m) (eats_expect k t m) G), eats_key G)
