-- A source of spaces is accepted up to the limit, with one token. So there is a join that is one byte too long and whose parts are accepted:
-- demand 3's premise on the length is needed.
-- Assumes nothing.
use Rattle.std.specs.Prelude.{None, Ok, ℕ, zero, suc, ◌+◌, ◌≤◌, ◌≡◌, refl, false, List, [], ◌∷◌, ◌++◌, length, take, replicate}
use Rattle.std.proofs.Common.{ap, ◌∙◌, arith}
use Rattle.std.proofs.lemmas.List.{length-replicate}
use Rattle.utf8.specs.Validate.{validate_from}
use Rattle.lexer.specs.Syntax.{Whitespace, RParen}
use Rattle.lexer.specs.Chars.{blank}
use Rattle.lexer.specs.Lexer.{advance_while, tokens, tokenize}
use Rattle.lexer.specs.Tokens.{MAX_SOURCE, token_kinds}
use Rattle.grammar.specs.Words.{is}
use Rattle.grammar.specs.Look.{at, next_relevant_block_token}
use Rattle.grammar.specs.Compute.{bytes}
use Rattle.grammar.specs.Block.{MAX_CONTROL_FLOW_NESTING as unit}
use Rattle.grammar.specs.Source.{source_events, source_places}
use Rattle.marks.specs.Marks.{first_refused}
use Rattle.answer.specs.Answer.{Slices}
use Rattle.answer.specs.Given.{token_count, event_count, diagnostic_count}
use Rattle.answer.specs.Accepts.{last_row_of_status, GivesReading, reading_of_call}
use Rattle.answer.specs.Cases.{Loan, loan, zeros, loan_slices, made, called, within_length, Needed}

unfoldable pub spaces : ℕ → List ℕ
spaces n = replicate n 32

many : (n : ℕ) → length (spaces n) ≡ n
unfolding spaces
many n = length-replicate n 32

well : (m n : ℕ) → validate_from 0 m (spaces n) ≡ Ok tt
unfolding spaces made
well m zero = refl
well m (suc n) = well (m + 1) n

blanks : (n : ℕ) → advance_while blank (spaces n) ≡ n
unfolding spaces made
blanks zero = refl
blanks (suc n) = ap suc (blanks n)

all_taken : (n : ℕ) → take n (spaces n) ≡ spaces n
unfolding spaces
all_taken zero = refl
all_taken (suc n) = ap (λ (l : List ℕ). 32 ∷ l) (all_taken n)

all_passed : (n : ℕ) → tokens n (spaces n) ≡ []
unfolding spaces tokens
all_passed zero = refl
all_passed (suc n) = all_passed n

one_token : (n : ℕ) → tokenize (spaces (suc n)) ≡ record { kind = Whitespace; text = spaces (suc n) } ∷ []
unfolding spaces made
one_token n = rw (blanks n, all_taken n, all_passed n)

their_events : (n : ℕ) → source_events unit (spaces (suc n)) ≡ 2 ∷ Whitespace ∷ 0 ∷ []
unfolding made
their_events n = rw (one_token n)

no_places : (n : ℕ) → source_places unit (spaces (suc n)) ≡ []
unfolding made
no_places n = rw (one_token n)

not_refused : (n : ℕ) → first_refused 0 (tokenize (spaces (suc n))) ≡ None
unfolding made
not_refused n = rw (one_token n)

abbrev one_space : Loan
one_space = loan 1 3 0

taken : (n : ℕ) → suc n ≤ MAX_SOURCE
    → ((made (spaces (suc n)) one_space).status ≡ 0)
    × GivesReading unit (spaces (suc n)) (made (spaces (suc n)) one_space).slices (made (spaces (suc n)) one_space).counts
taken n h =
    reading_of_call unit (spaces (suc n)) (loan_slices one_space) (zeros 3) (record {
      allowed = refl;
      words = omega arith;
      small = omega (arith, many (suc n));
      utf8 = well 0 (suc n);
      tokens = omega (arith, ap length (one_token n));
      no_refusal = not_refused n;
      events = omega (arith, ap length (their_events n));
      places = omega (arith, ap length (no_places n));
    }) (called (spaces (suc n)) one_space)

no_parenthesis_there : (n : ℕ) → at (is RParen) (next_relevant_block_token (token_kinds (spaces (suc n)))) ≡ false
unfolding made
no_parenthesis_there n = rw (one_token n)

-- Document 01's example: 1,048,576 spaces are one token; one more is refused with 1.
pub most_spaces : ((made (spaces 1048576) one_space).status ≡ 0) × (token_count (made (spaces 1048576) one_space).counts ≡ 1)
most_spaces = let g = taken 1048575 (omega arith) in (g.0, g.1.t_is ∙ ap length (one_token 1048575))

pub too_many_spaces : (made (spaces 1048577) one_space).status ≡ 1
unfolding made
too_many_spaces = rw (many 1048577)

-- Row 9 comes before row 1, and row 6 before both: a source too long, at a limit above 256, at 1, and with two words.
abbrev pub too_long_at : ℕ → ℕ → Loan
too_long_at limit words = record { limit = limit; tokens = 0; events = 0; diagnostics = 0; words = words }

pub row_9_before_row_1 : ((made (spaces 1048577) (too_long_at 257 3)).status ≡ 9) × ((made (spaces 1048577) (too_long_at 257 3)).counts ≡ 0 ∷ 0 ∷ 0 ∷ [])
    × ((made (spaces 1048577) (too_long_at 1 3)).status ≡ 1)
    × ((made (spaces 1048577) (too_long_at 257 2)).status ≡ 6)
unfolding made
row_9_before_row_1 = rw (many 1048577) (refl, refl, refl, refl)

pub length_needed : Needed within_length
unfolding made
length_needed =
    let b : List ℕ = spaces 1048567 in
    let g = taken 1048566 (omega arith) in
    let t : token_count (made b one_space).counts ≡ 1 = g.1.t_is ∙ ap length (one_token 1048566) in
    let e : event_count (made b one_space).counts ≡ 3 = g.1.e_is ∙ ap length (their_events 1048566) in
    let d : diagnostic_count (made b one_space).counts ≡ 0 = g.1.d_is ∙ ap length (no_places 1048566) in
    let p = ap (λ (x : Slices). at (is RParen) (next_relevant_block_token x.kinds)) g.1.given_is ∙ no_parenthesis_there 1048566 in
    record {
      case = record { a = bytes "begin end\n"; b = b; for_a = loan 4 10 0; for_b = one_space; for_join = loan 5 11 0 };
      others = (refl, g.0, tt, omega arith, omega arith, omega arith, omega arith, refl, refl, refl, refl, p, refl, refl);
      otherwise = λ j.
          let s = (last_row_of_status unit (bytes "begin end\n" ++ b) (loan_slices (loan 5 11 0)) (zeros 3) j.returned).small in
          omega (arith, many 1048567);
    }
