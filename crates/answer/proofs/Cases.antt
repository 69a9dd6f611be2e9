-- The cases have the premises and the conclusion of `joined_calls`.
-- Assumes nothing.
use Rattle.std.specs.Prelude.{ℕ, ◌≤◌, ◌≡◌, List, ◌++◌, length}
use Rattle.std.proofs.Common.{subst}
use Rattle.lexer.specs.Tokens.{MAX_SOURCE}
use Rattle.answer.specs.Given.{CallsJoin, Fits}
use Rattle.answer.proofs.JoinedCalls.{joined_calls}
use Rattle.answer.specs.Call.{MasmParseText}
use Rattle.answer.specs.Cases.{Loan, loan_slices, zeros, made, called, Case, on_a, on_b, given_a, given_b, AllBut, Concluded}

-- a call at the same limit by another name
at_limit : (source : List ℕ) (l : Loan) {limit : ℕ} → l.limit ≡ limit
    → MasmParseText limit source (loan_slices l) (zeros l.words) (made source l).status (made source l).slices (made source l).counts
at_limit source l e =
    subst (λ n. MasmParseText n source (loan_slices l) (zeros l.words) (made source l).status (made source l).slices (made source l).counts) e
    (called source l)

module _ (c : Case) where
  -- These are the premises and the conclusion of `joined_calls`.
  pub concluded : AllBut c 14 → Concluded c
  concluded (first, second, within, tokens, events, diagnostics, words, newline, line_feed, word, closes, starts, at_a, at_b) =
      joined_calls c.for_join.limit c.a c.b (loan_slices c.for_a) (loan_slices c.for_b) (loan_slices c.for_join)
      (zeros c.for_a.words) (zeros c.for_b.words) (zeros c.for_join.words)
      (at_limit c.a c.for_a at_a) (at_limit c.b c.for_b at_b) (called (c.a ++ c.b) c.for_join) first second within
      (record { tokens = tokens; events = events; diagnostics = diagnostics; words = words })
      (record { newline = newline; line_feed = line_feed; word = word; closes = closes; starts = starts })

  pub premises_are : (on_a c).status ≡ 0 → (on_b c).status ≡ 0 → length (c.a ++ c.b) ≤ MAX_SOURCE
      → Fits (loan_slices c.for_join) (zeros c.for_join.words) (on_a c).counts (on_b c).counts → CallsJoin c.a (given_a c) (given_b c)
      → c.for_a.limit ≡ c.for_join.limit → c.for_b.limit ≡ c.for_join.limit → AllBut c 14
  premises_are first second within f j at_a at_b =
      (first, second, within, f.tokens, f.events, f.diagnostics, f.words, j.newline, j.line_feed, j.word, j.closes, j.starts, at_a, at_b)
