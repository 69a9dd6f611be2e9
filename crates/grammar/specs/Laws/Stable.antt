-- Lookahead, paths, groups, line forms and instructions are Good.
-- Assumes nothing.
use Rattle.std.specs.Prelude.{ℕ, ◌≡◌, Bool}
use Rattle.std.proofs.Math.Path.{refl}
use Rattle.std.proofs.Common.{ap}
use Rattle.std.proofs.Math.Bool.{true}
use mathlib.Core.List.{List, [], ◌∷◌, ◌++◌, append-nil}
use Rattle.lexer.specs.Syntax.{Whitespace, Newline, Comment, DocComment, LParen}
use Rattle.grammar.specs.Words.{Sym, is, ELSE, END}
use Rattle.grammar.specs.Look.{current, one_of, regular_trivia, non_comment_trivia, at, eof, skip, next_relevant_top_level_token, peek_after_non_comment_trivia, at_terminator, at_stray_else}
use Rattle.grammar.specs.Run.{m_never, loop}
use Rattle.grammar.specs.Message.{Message}
use Rattle.grammar.specs.Bump.{while_round, bump_while, expect_kind, expect_name, error_token}
use Rattle.grammar.specs.Path.{path_segment, path_round, parse_path_with_message, group_round, parse_balanced_group}
use Rattle.grammar.specs.Line.{tail_round, parse_line_tail, ResultType, result_round, parse_signature_result_until_line_end}
use Rattle.grammar.specs.declared.block.Terminators.{Terminators}
use Rattle.grammar.specs.Laws.Ahead.{tail_nil, Cond, same, more, Alike, on, NotEnd, not_end_trivia, look_at, look_current, look_skip, look_bare_while}
use Rattle.grammar.specs.Laws.Good.{Good, good_pure, good_take, good_err, good_node, good_pick, good_bind, good_if, good_scan, good_loop}

-- A lookahead that cannot tell such lists apart.
pub test : {b : List Sym} {A : Type 0} (t : List Sym → A) → ((r r' : List Sym) → Alike b r r' → t r' ≡ t r) → (r : List Sym) → Cond b r → t (r ++ b) ≡ t r
test t h r (same e) = ap t (rw (e, append-nil))
test {b} t h r (more k) = h r (r ++ b) (on k refl)

module _ {b : List Sym} where
  pub test_at : (p : Sym → Bool) (r : List Sym) → Cond b r → at p (r ++ b) ≡ at p r
  test_at p = test (at p) (λ r r' h. look_at b p h)

  pub test_current : (r : List Sym) → Cond b r → current (r ++ b) ≡ current r
  test_current = test current (λ r r' h. look_current b h)

  pub test_eof : (r : List Sym) → Cond b r → eof (r ++ b) ≡ eof r
  unfolding eof
  test_eof [] (same e) = rw e
  test_eof [] (more t) = absurd (tail_nil t)
  test_eof (s ∷ r) c = refl

  pub test_terminator : (t : Terminators) (r : List Sym) → Cond b r → at_terminator t (r ++ b) ≡ at_terminator t r
  unfolding at_terminator
  test_terminator Terminators.End = test_at (is END)
  test_terminator Terminators.ElseEnd = test_at (one_of (ELSE ∷ END ∷ []))
  test_terminator Terminators.While = test _ (λ r r' h. look_bare_while b h)

  pub test_else : (t : Terminators) (r : List Sym) → Cond b r → at_stray_else t (r ++ b) ≡ at_stray_else t r
  unfolding at_stray_else
  test_else Terminators.End = test_at (is ELSE)
  test_else Terminators.ElseEnd = λ r c. refl
  test_else Terminators.While = test_at (is ELSE)

  pub test_skip : (p q : Sym → Bool) → NotEnd q → (r : List Sym) → Cond b r → at p (skip q (r ++ b)) ≡ at p (skip q r)
  test_skip p q h = test (λ r. at p (skip q r)) (λ r r' l. look_at b p (look_skip b q h l))

  pub test_paren : (r : List Sym) → Cond b r → at (is LParen) (next_relevant_top_level_token (r ++ b)) ≡ at (is LParen) (next_relevant_top_level_token r)
  test_paren = test_skip (is LParen) regular_trivia not_end_trivia

  pub test_after : (p : Sym → Bool) (r : List Sym) → Cond b r → at p (peek_after_non_comment_trivia (r ++ b)) ≡ at p (peek_after_non_comment_trivia r)
  unfolding one_of
  test_after p = test_skip p non_comment_trivia refl

  test_while : (p : Sym → Bool) (l : Bool) (r : List Sym) → Cond b r → while_round p l (r ++ b) ≡ while_round p l r
  unfolding while_round
  test_while p l r c = rw (test_at p r c)

  test_group : (o k : Sym) (d : ℕ) (r : List Sym) → Cond b r → group_round o k d (r ++ b) ≡ group_round o k d r
  unfolding group_round
  test_group o k d r c = rw (test_at (is o) r c, test_at (is k) r c)

  test_tail : (l : Bool) (r : List Sym) → Cond b r → tail_round l (r ++ b) ≡ tail_round l r
  unfolding tail_round
  test_tail l r c = rw (test_at (is Whitespace) r c, test_at (is Comment) r c)

  test_result : (l : ResultType) (r : List Sym) → Cond b r → result_round l (r ++ b) ≡ result_round l r
  unfolding result_round
  test_result l r c = rw (test_at (one_of (Comment ∷ DocComment ∷ [])) r c, test_at (is Newline) r c, test_current r c)

pub ruleset good·rules = (good_pure, good_take, good_err, good_node, good_pick, good_if, good_bind, test_at, test_eof, test_terminator, test_else, test_paren, test_after)

module _ {b : List Sym} {bad : ℕ → Bool} where
  pub good_while : (p : Sym → Bool) → Good b bad (bump_while p) (bump_while p)
  unfolding bump_while
  good_while p = good_scan b bad (while_round p) (test_while p) true

  pub good_expect : (k : Sym) (m : Message) → Good b bad (expect_kind k m) (expect_kind k m)
  unfolding expect_kind
  good_expect k m = search (good·rules, good_while)

  pub good_name : (m : Message) → Good b bad (expect_name m) (expect_name m)
  unfolding expect_name
  good_name m = search good·rules

  pub good_error_token : (m : Message) → Good b bad (error_token m) (error_token m)
  unfolding error_token
  good_error_token m = search good·rules

  good_segment : Good b bad path_segment path_segment
  unfolding path_segment
  good_segment = search (good·rules, good_while) depth 12

  good_segments : bad m_never ≡ true → Good b bad (loop path_round) (loop path_round)
  unfolding path_round
  good_segments fuel = good_loop fuel (search (good·rules, good_segment))

  pub good_path : bad m_never ≡ true → (m : Message) → Good b bad (parse_path_with_message m) (parse_path_with_message m)
  unfolding parse_path_with_message
  good_path fuel m = search (good·rules, good_while, good_segments) depth 12

  pub good_group : (o k : Sym) (m : Message) → Good b bad (parse_balanced_group o k m) (parse_balanced_group o k m)
  unfolding parse_balanced_group
  good_group o k m = search (good·rules, good_while, good_expect, good_scan b bad (group_round o k) (test_group o k)) depth 9

  pub good_tail : Good b bad parse_line_tail parse_line_tail
  unfolding parse_line_tail
  good_tail = good_scan b bad tail_round test_tail true

  pub good_result : Good b bad parse_signature_result_until_line_end parse_signature_result_until_line_end
  unfolding parse_signature_result_until_line_end
  good_result = search (good·rules, good_scan b bad result_round test_result)
