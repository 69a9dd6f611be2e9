-- Which of demand 3's premises are needed: all but one, for each a case in which the others hold and the conclusion does not (for the length
-- in Spaces). That the token before the last is the word `end` follows from the others, and demand 3 holds without it.
-- Assumes nothing.
use Rattle.std.specs.Prelude.{ℕ, ◌≡◌, refl, true, List, [], length}
use Rattle.std.proofs.Common.{sym, ap, subst, arith}
use Rattle.lexer.specs.Syntax.{Newline}
use Rattle.lexer.specs.Lexer.{tokenize}
use Rattle.lexer.specs.Laws.{last}
use Rattle.grammar.specs.Source.{symbols}
use Rattle.grammar.specs.Joins.{shut_by}
use Rattle.grammar.proofs.Theorems.Joined.{end_follows}
use Rattle.grammar.specs.Compute.{bytes}
use Rattle.lexer.specs.Kinds.{low_kinds}
use Rattle.answer.specs.Answer.{Slices}
use Rattle.answer.specs.Call.{MasmParseText}
use Rattle.answer.specs.Given.{given, cut, end_before_last}
use Rattle.answer.specs.Accepts.{reading_slices, reading_of_call, last_row_of_call}
use Rattle.answer.specs.JoinedTokens.{cut_source, newline_last, word_before_last}
use Rattle.answer.specs.Cases.{zeros, loan, loan_at, loan_slices, made, called, Case, rank, AllBut, Concluded, Needed}
use Rattle.answer.proofs.Cases.{concluded}
use Rattle.answer.specs.Cases.{first_accepted, second_accepted, room_for_tokens, room_for_events, room_for_diagnostics, three_words}
use Rattle.answer.specs.Cases.{last_is_newline, last_is_line_feed, end_is_word, end_closes, no_parenthesis, first_at_limit, second_at_limit}

-- A was lent one event too few: its last event is not given.
pub first_accepted_needed : Needed first_accepted
unfolding made
first_accepted_needed = record {
  case = record { a = bytes "begin end\n"; b = bytes ""; for_a = loan 4 9 0; for_b = loan 0 2 0; for_join = loan 4 10 0 };
  others = (tt, refl, omega arith, omega arith, omega arith, omega arith, omega arith, refl, refl, refl, refl, refl, refl, refl);
  otherwise = λ j. let z : ◌≡◌ {A = ℕ} 10 9 = ap length j.events_are in omega arith;
}

-- B is refused, and so is the join.
pub second_accepted_needed : Needed second_accepted
unfolding made
second_accepted_needed = record {
  case = record { a = bytes "begin end\n"; b = bytes "use"; for_a = loan 4 10 0; for_b = loan 1 5 1; for_join = loan 5 13 1 };
  others = (refl, tt, omega arith, omega arith, omega arith, omega arith, omega arith, refl, refl, refl, refl, refl, refl, refl);
  otherwise = λ j. let z : ◌≡◌ {A = ℕ} 4 0 = j.returned in omega arith;
}

-- One entry too few, or one word.
pub token_room_needed : Needed room_for_tokens
unfolding made
token_room_needed = record {
  case = record { a = bytes "begin end\n"; b = bytes "x"; for_a = loan 4 10 0; for_b = loan 1 5 1; for_join = loan 4 13 1 };
  others = (refl, refl, omega arith, tt, omega arith, omega arith, omega arith, refl, refl, refl, refl, refl, refl, refl);
  otherwise = λ j. let z : ◌≡◌ {A = ℕ} 3 0 = j.returned in omega arith;
}

pub event_room_needed : Needed room_for_events
unfolding made
event_room_needed = record {
  case = record { a = bytes "begin end\n"; b = bytes "x"; for_a = loan 4 10 0; for_b = loan 1 5 1; for_join = loan 5 12 1 };
  others = (refl, refl, omega arith, omega arith, tt, omega arith, omega arith, refl, refl, refl, refl, refl, refl, refl);
  otherwise = λ j. let z : ◌≡◌ {A = ℕ} 5 0 = j.returned in omega arith;
}

pub diagnostic_room_needed : Needed room_for_diagnostics
unfolding made
diagnostic_room_needed = record {
  case = record { a = bytes "begin end\n"; b = bytes "x"; for_a = loan 4 10 0; for_b = loan 1 5 1; for_join = loan 5 13 0 };
  others = (refl, refl, omega arith, omega arith, omega arith, tt, omega arith, refl, refl, refl, refl, refl, refl, refl);
  otherwise = λ j. let z : ◌≡◌ {A = ℕ} 5 0 = j.returned in omega arith;
}

pub three_words_needed : Needed three_words
unfolding made
three_words_needed = record {
  case = record {
    a = bytes "begin end\n";
    b = bytes "x";
    for_a = loan 4 10 0;
    for_b = loan 1 5 1;
    for_join = record { limit = 256; tokens = 5; events = 13; diagnostics = 1; words = 2 };
  };
  others = (refl, refl, omega arith, omega arith, omega arith, omega arith, tt, refl, refl, refl, refl, refl, refl, refl);
  otherwise = λ j. let z : ◌≡◌ {A = ℕ} 6 0 = j.returned in omega arith;
}

-- A's last token is an Error that ends in LF, a quote open behind a backslash; B closes it.
pub newline_needed : Needed last_is_newline
unfolding made
newline_needed = record {
  case = record { a = bytes "begin end\"\\\n"; b = bytes "\""; for_a = loan 4 12 2; for_b = loan 1 5 2; for_join = loan 5 15 4 };
  others = (refl, refl, omega arith, omega arith, omega arith, omega arith, omega arith, tt, refl, refl, refl, refl, refl, refl);
  otherwise = λ j. let z : ◌≡◌ {A = ℕ} 4 5 = j.t_is in omega arith;
}

-- CR LF is one newline.
pub line_feed_needed : Needed last_is_line_feed
unfolding made
line_feed_needed = record {
  case = record { a = bytes "begin end\r"; b = bytes "\n"; for_a = loan 4 10 0; for_b = loan 1 3 0; for_join = loan 5 11 0 };
  others = (refl, refl, omega arith, omega arith, omega arith, omega arith, omega arith, refl, tt, refl, refl, refl, refl, refl);
  otherwise = λ j. let z : ◌≡◌ {A = ℕ} 4 5 = j.t_is in omega arith;
}

-- A's `end` closes nothing: it stands in a type's body, which goes on into B.
pub closing_needed : Needed end_closes
unfolding made
closing_needed = record {
  case = record { a = bytes "type a = end\n"; b = bytes "x"; for_a = loan 8 14 0; for_b = loan 1 5 1; for_join = loan 9 17 1 };
  others = (refl, refl, omega arith, omega arith, omega arith, omega arith, omega arith, refl, refl, refl, tt, refl, refl, refl);
  otherwise = λ j. let z : ◌≡◌ {A = ℕ} 17 19 = j.e_is in omega arith;
}

-- B starts with `)`: lookahead finds `pub ( end ) proc` across the joint.
pub parenthesis_needed : Needed no_parenthesis
unfolding made
parenthesis_needed = record {
  case = record {
    a = bytes "proc a pub ( end\n";
    b = bytes ") proc b end";
    for_a = loan 10 20 2;
    for_b = loan 7 15 1;
    for_join = loan 17 37 6;
  };
  others = (refl, refl, omega arith, omega arith, omega arith, omega arith, omega arith, refl, refl, refl, refl, tt, refl, refl);
  otherwise = λ j. let z : ◌≡◌ {A = ℕ} 39 35 = j.e_is in omega arith;
}

-- A is read at a higher limit than the join, where it is too deep.
pub first_limit_needed : Needed first_at_limit
unfolding made
first_limit_needed = record {
  case = record {
    a = bytes "begin if if end end end\n";
    b = bytes "";
    for_a = loan_at 2 12 26 0;
    for_b = loan_at 1 0 2 0;
    for_join = loan_at 1 12 26 1;
  };
  others = (refl, refl, omega arith, omega arith, omega arith, omega arith, omega arith, refl, refl, refl, refl, refl, tt, refl);
  otherwise = λ j. let z : ◌≡◌ {A = ℕ} 1 0 = j.d_is in omega arith;
}

-- B is.
pub second_limit_needed : Needed second_at_limit
unfolding made
second_limit_needed = record {
  case = record {
    a = bytes "begin end\n";
    b = bytes "begin if if end end end";
    for_a = loan_at 1 4 10 0;
    for_b = loan_at 2 11 25 0;
    for_join = loan_at 1 15 33 1;
  };
  others = (refl, refl, omega arith, omega arith, omega arith, omega arith, omega arith, refl, refl, refl, refl, refl, refl, tt);
  otherwise = λ j. let z : ◌≡◌ {A = ℕ} 1 0 = j.d_is in omega arith;
}

-- Of an accepted A whose last token is a newline, the token that closes a procedure or begin block under the root is the word.
abbrev Word : List ℕ → Slices → Type 0
Word a A = last 0 A.kinds ≡ Newline → shut_by [] A.events ≡ true → end_before_last (cut 0 A.kinds A.ends a) ≡ true

of_reading : (limit : ℕ) (a : List ℕ) → Word a (reading_slices limit a)
of_reading limit a newline closes = rw (cut_source a)
    (word_before_last (tokenize a) (low_kinds a) (end_follows limit (symbols a) (newline_last 0 (tokenize a) newline) closes))

pub word_follows : (limit : ℕ) (a : List ℕ) (s : Slices) (counts : List ℕ) {r : ℕ} {s' : Slices} {counts' : List ℕ}
    → MasmParseText limit a s counts r s' counts' → r ≡ 0 → Word a (given s' counts')
word_follows limit a s counts c z =
    subst (Word a) (sym (reading_of_call limit a s counts (last_row_of_call limit a s counts c z) c).1.given_is) (of_reading limit a)

pub word_not_needed : (c : Case) → AllBut c (rank end_is_word) → Concluded c
word_not_needed c (first, second, within, tokens, events, diagnostics, words, newline, line_feed, left_out, closes, starts, at_a, at_b) =
    let word = word_follows c.for_a.limit c.a (loan_slices c.for_a) (zeros c.for_a.words) (called c.a c.for_a) first newline closes in
    concluded c (first, second, within, tokens, events, diagnostics, words, newline, line_feed, word, closes, starts, at_a, at_b)
