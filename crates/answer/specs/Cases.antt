-- Three calls, on A, on B and on the join, as one case; demand 3's premises one by one; and what computes.
-- Assumes nothing.
use Rattle.std.specs.Prelude.{ℕ, ◌+◌, ◌≤◌, ◌≡◌, refl, true, false, List, [], ◌++◌, eqb, length, replicate}
use Rattle.utf8.specs.Table
use Rattle.utf8.specs.ErrorLen
use Rattle.utf8.specs.Validate
use Rattle.lexer.specs.Tokens.{MAX_SOURCE}
use Rattle.lexer.specs.Syntax.{Newline, RParen}
use Rattle.lexer.specs.Laws.{last}
use Rattle.grammar.specs.Words.{is}
use Rattle.grammar.specs.Block.{MAX_CONTROL_FLOW_NESTING}
use Rattle.grammar.specs.Look.{at, next_relevant_block_token}
use Rattle.grammar.specs.Joins.{shut_by}
use Rattle.grammar.specs.Compute.{again}
use Rattle.marks.specs.Marks
use Rattle.answer.specs.Answer.{Slices, slices, token_room, diagnostic_room, from_row_5, from_row_4, from_row_3, from_row_2, from_row_1, parse_text}
use Rattle.answer.specs.Call.{Reply, call, MasmParseText}
use Rattle.answer.specs.Given.{token_count, event_count, diagnostic_count, given, cut, end_before_last, JoinReply}

-- What is lent to a call, beside its limit: room for so many tokens, events and diagnostics, and so many words of counts.
pub record Loan : Type 0 where
  pub limit : ℕ
  pub tokens : ℕ
  pub events : ℕ
  pub diagnostics : ℕ
  pub words : ℕ

abbrev pub loan_at : ℕ → ℕ → ℕ → ℕ → Loan
loan_at limit tokens events diagnostics = record { limit = limit; tokens = tokens; events = events; diagnostics = diagnostics; words = 3 }

abbrev pub loan : ℕ → ℕ → ℕ → Loan
loan = loan_at MAX_CONTROL_FLOW_NESTING

abbrev pub zeros : ℕ → List ℕ
zeros n = replicate n 0

abbrev pub loan_slices : Loan → Slices
loan_slices l =
    let t = zeros l.tokens in
    let d = zeros l.diagnostics in
    slices t t (zeros l.events) d d d

-- The call on a source with these lent. To unfold `made` is to unfold what its line names: all that computes.
unfoldable pub made : List ℕ → Loan → Reply
unfolding again call parse_text from_row_1 from_row_2 from_row_3 from_row_4 from_row_5
    Marks.first_refused Marks.is_refused Validate.validate_from Table.length_in Table.table_3_7 Table.agree ErrorLen.start_in
made source l = call l.limit source (loan_slices l) (zeros l.words)

pub called : (source : List ℕ) (l : Loan)
    → MasmParseText l.limit source (loan_slices l) (zeros l.words) (made source l).status (made source l).slices (made source l).counts
unfolding made
called source l = record { status_is = refl; slices_are = refl; counts_are = refl }

pub record Case : Type 0 where
  pub a : List ℕ
  pub b : List ℕ
  pub for_a : Loan
  pub for_b : Loan
  pub for_join : Loan

-- The premises of `joined_calls` and the rank of each: its own in its order, then that A and B are read at the join's limit.
pub data Premise : Type 0 where
  first_accepted second_accepted within_length room_for_tokens room_for_events room_for_diagnostics three_words : Premise
  last_is_newline last_is_line_feed end_is_word end_closes no_parenthesis first_at_limit second_at_limit : Premise

abbrev pub rank : Premise → ℕ
rank first_accepted = 0
rank second_accepted = 1
rank within_length = 2
rank room_for_tokens = 3
rank room_for_events = 4
rank room_for_diagnostics = 5
rank three_words = 6
rank last_is_newline = 7
rank last_is_line_feed = 8
rank end_is_word = 9
rank end_closes = 10
rank no_parenthesis = 11
rank first_at_limit = 12
rank second_at_limit = 13

module _ (c : Case) where
  abbrev pub on_a : Reply
  on_a = made c.a c.for_a

  abbrev pub on_b : Reply
  on_b = made c.b c.for_b

  abbrev pub on_join : Reply
  on_join = made (c.a ++ c.b) c.for_join

  abbrev pub given_a : Slices
  given_a = given on_a.slices on_a.counts

  abbrev pub given_b : Slices
  given_b = given on_b.slices on_b.counts

  -- What a premise says.
  abbrev pub Holds : Premise → Type 0
  Holds first_accepted = on_a.status ≡ 0
  Holds second_accepted = on_b.status ≡ 0
  Holds within_length = length (c.a ++ c.b) ≤ MAX_SOURCE
  Holds room_for_tokens = token_count on_a.counts + token_count on_b.counts ≤ token_room (loan_slices c.for_join)
  Holds room_for_events = event_count on_a.counts + event_count on_b.counts ≤ length (loan_slices c.for_join).events + 2
  Holds room_for_diagnostics = diagnostic_count on_a.counts + diagnostic_count on_b.counts ≤ diagnostic_room (loan_slices c.for_join)
  Holds three_words = 3 ≤ length (zeros c.for_join.words)
  Holds last_is_newline = last 0 given_a.kinds ≡ Newline
  Holds last_is_line_feed = last 0 c.a ≡ 10
  Holds end_is_word = end_before_last (cut 0 given_a.kinds given_a.ends c.a) ≡ true
  Holds end_closes = shut_by [] given_a.events ≡ true
  Holds no_parenthesis = at (is RParen) (next_relevant_block_token given_b.kinds) ≡ false
  Holds first_at_limit = c.for_a.limit ≡ c.for_join.limit
  Holds second_at_limit = c.for_b.limit ≡ c.for_join.limit

  -- What it says unless its rank is n.
  abbrev pub Unless : ℕ → Premise → Type 0
  Unless n p = elim (eqb n (rank p)) [ true ↦ Unit {0} | false ↦ Holds p ]

  -- All premises but the one of rank n; of rank 14 there is none.
  abbrev pub AllBut : ℕ → Type 0
  AllBut n =
      Unless n first_accepted × Unless n second_accepted × Unless n within_length × Unless n room_for_tokens × Unless n room_for_events
      × Unless n room_for_diagnostics × Unless n three_words × Unless n last_is_newline × Unless n last_is_line_feed × Unless n end_is_word
      × Unless n end_closes × Unless n no_parenthesis × Unless n first_at_limit × Unless n second_at_limit

  -- What demand 3 concludes.
  abbrev pub Concluded : Type 0
  Concluded =
      JoinReply (length c.a) given_a given_b (given on_join.slices on_join.counts)
      on_a.counts on_b.counts on_join.counts on_join.status

-- Demand 3 without the premise p is false: of some case all the others hold, and the conclusion does not.
pub record Needed (p : Premise) : Type 0 where
  pub case : Case
  pub others : AllBut case (rank p)
  pub otherwise : Concluded case → ⊥
