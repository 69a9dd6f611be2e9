-- Demand 3, with M-102's lines, the bounds of Facts and M-105's numbers at concrete calls, so that a premise more or a bound less sharp is refused.
-- Assumes nothing.
use Rattle.std.specs.Prelude.{ℕ, ◌≤◌, ◌≡◌, refl, List, [], ◌∷◌, ◌++◌}
use Rattle.std.proofs.Common.{arith}
use Rattle.utf8.specs.Laws.{accepted as well_formed}
use Rattle.utf8.specs.CutOff.{Completable}
use Rattle.grammar.specs.Block.{MAX_CONTROL_FLOW_NESTING as limit}
use Rattle.grammar.specs.Compute.{bytes}
use Rattle.grammar.specs.Theorems.FewOpen.{peak}
use Rattle.answer.specs.Answer.{Slices}
use Rattle.answer.specs.Call.{Reply}
use Rattle.answer.specs.Given.{token_count, event_count, diagnostic_count, JoinReply}
use Rattle.answer.specs.Facts.{Facts, enough_room}
use Rattle.lines.specs.JoinedLines.{JoinedLines}
use Rattle.answer.specs.Cases.{Case, loan, zeros, loan_slices, made, called}
use Rattle.answer.proofs.Cases.{concluded}
use Rattle.answer.proofs.CutOff.{broken_text}
use Rattle.answer.proofs.JoinedLines.{joined_diagnostics}

-- ---- Demand 3. A, with a diagnostic in its block.
first : Slices
first = record {
  kinds = 31 ∷ 27 ∷ 55 ∷ 27 ∷ 31 ∷ 28 ∷ [];
  ends = 5 ∷ 6 ∷ 7 ∷ 8 ∷ 11 ∷ 12 ∷ [];
  events = 2 ∷ 13 ∷ 31 ∷ 27 ∷ 18 ∷ 1 ∷ 55 ∷ 0 ∷ 27 ∷ 0 ∷ 31 ∷ 0 ∷ 28 ∷ 0 ∷ [];
  messages = 46 ∷ [];
  starts = 6 ∷ [];
  stops = 7 ∷ [];
}

-- B, with a diagnostic.
second : Slices
second = record {
  kinds = 31 ∷ [];
  ends = 1 ∷ [];
  events = 2 ∷ 1 ∷ 31 ∷ 0 ∷ 0 ∷ [];
  messages = 22 ∷ [];
  starts = 0 ∷ [];
  stops = 1 ∷ [];
}

-- The join.
both : Slices
both = record {
  kinds = 31 ∷ 27 ∷ 55 ∷ 27 ∷ 31 ∷ 28 ∷ 31 ∷ [];
  ends = 5 ∷ 6 ∷ 7 ∷ 8 ∷ 11 ∷ 12 ∷ 13 ∷ [];
  events = 2 ∷ 13 ∷ 31 ∷ 27 ∷ 18 ∷ 1 ∷ 55 ∷ 0 ∷ 27 ∷ 0 ∷ 31 ∷ 0 ∷ 28 ∷ 1 ∷ 31 ∷ 0 ∷ 0 ∷ [];
  messages = 46 ∷ 22 ∷ [];
  starts = 6 ∷ 12 ∷ [];
  stops = 7 ∷ 13 ∷ [];
}

-- In slices that just fit.
two_joined : JoinReply 12 first second both (6 ∷ 14 ∷ 1 ∷ []) (1 ∷ 5 ∷ 1 ∷ []) (7 ∷ 17 ∷ 2 ∷ []) 0
unfolding made first second both
two_joined =
    concluded (record { a = bytes "begin ) end\n"; b = bytes "x"; for_a = loan 6 14 1; for_b = loan 1 5 1; for_join = loan 7 17 2 })
    (refl, refl, omega arith, omega arith, omega arith, omega arith, omega arith, refl, refl, refl, refl, refl, refl, refl)

-- With an empty B the join is A.
nothing : Slices
nothing = record { kinds = []; ends = []; events = 2 ∷ 0 ∷ []; messages = []; starts = []; stops = [] }

empty_joined : JoinReply 12 first nothing first (6 ∷ 14 ∷ 1 ∷ []) (0 ∷ 2 ∷ 0 ∷ []) (6 ∷ 14 ∷ 1 ∷ []) 0
unfolding made first nothing
empty_joined =
    concluded (record { a = bytes "begin ) end\n"; b = bytes ""; for_a = loan 6 14 1; for_b = loan 0 2 0; for_join = loan 6 14 1 })
    (refl, refl, omega arith, omega arith, omega arith, omega arith, omega arith, refl, refl, refl, refl, refl, refl, refl)

-- ---- The bounds of Facts, at numbers. grammar/specs/Examples reaches them: T1, `two_each` and `most_open`.
module _ {source : List ℕ} {g : Slices} {counts : List ℕ} (f : Facts limit source g counts) where
  no_token : token_count counts ≡ 0 → event_count counts ≤ 2
  no_token t = omega (arith, f.few_events)

  one_token : token_count counts ≡ 1 → event_count counts ≤ 9
  one_token t = omega (arith, f.few_events)

  four_tokens : token_count counts ≡ 4 → diagnostic_count counts ≤ 8
  four_tokens t = omega (arith, f.few_diagnostics)

  nodes_open : peak 0 g.events ≤ 516
  nodes_open = omega (arith, f.few_open)

-- One byte: one token, nine events and two diagnostics are enough.
room_for_one : (made (bytes "x") (loan 1 9 2)).status ≡ 0
unfolding made
room_for_one =
    enough_room limit (bytes "x") (loan_slices (loan 1 9 2)) (zeros 3) (called (bytes "x") (loan 1 9 2)) refl
    (omega arith) (well_formed (bytes "x") refl) (refl, tt) (omega arith) (omega arith) (omega arith) (omega arith)

-- ---- M-105. What a call says of these bytes behind `#` and LF.
abbrev broken : List ℕ → Reply
broken bs = made (0x23 ∷ 0x0A ∷ bs) (loan 2 4 0)

-- Cut off behind one byte, two and three.
cut_off : ((broken (0xC3 ∷ [])).counts ≡ 2 ∷ 0 ∷ 0 ∷ [])
    × ((broken (0xE2 ∷ 0x82 ∷ [])).counts ≡ 2 ∷ 0 ∷ 0 ∷ [])
    × ((broken (0xF0 ∷ 0x9F ∷ 0x98 ∷ [])).counts ≡ 2 ∷ 0 ∷ 0 ∷ [])
unfolding made
cut_off = (refl, refl, refl)

-- Wrong: a byte that starts nothing, and starts of one byte to three with LF behind them.
wrong : ((broken (0xFF ∷ [])).counts ≡ 2 ∷ 1 ∷ 0 ∷ [])
    × ((broken (0xC3 ∷ 0x0A ∷ [])).counts ≡ 2 ∷ 1 ∷ 0 ∷ [])
    × ((broken (0xE2 ∷ 0x82 ∷ 0x0A ∷ [])).counts ≡ 2 ∷ 2 ∷ 0 ∷ [])
    × ((broken (0xF0 ∷ 0x9F ∷ 0x98 ∷ 0x0A ∷ [])).counts ≡ 2 ∷ 3 ∷ 0 ∷ [])
unfolding made
wrong = (refl, refl, refl, refl)

-- The one that is cut off can be completed, the wrong one cannot.
of_cut_off : Completable (0x23 ∷ 0x0A ∷ 0xC3 ∷ [])
unfolding made
of_cut_off = (broken_text limit (0x23 ∷ 0x0A ∷ 0xC3 ∷ []) _ _ (called _ (loan 2 4 0)) refl).breaks_off.whole.0 refl

of_wrong : Completable (0x23 ∷ 0x0A ∷ 0xFF ∷ []) → ⊥
unfolding made
of_wrong c = absurd (omega (arith, (broken_text limit (0x23 ∷ 0x0A ∷ 0xFF ∷ []) _ _ (called _ (loan 2 4 0)) refl).breaks_off.whole.1 c))

-- ---- M-102 over demand 3. A ends in CR LF and has a diagnostic, B has one behind a lone CR; the join's second diagnostic is on line 3.
abbrev cr_lf_and_cr : Case
cr_lf_and_cr = record { a = bytes "begin ) end\r\n"; b = bytes "\rx"; for_a = loan 6 14 1; for_b = loan 2 6 1; for_join = loan 8 18 2 }

lines_joined : JoinedLines (bytes "begin ) end\r\n") 1 1 2 (1 ∷ []) (7 ∷ []) (2 ∷ []) (1 ∷ []) (1 ∷ 3 ∷ []) (7 ∷ 1 ∷ [])
unfolding made
lines_joined =
    let c = cr_lf_and_cr in
    joined_diagnostics limit c.a c.b (loan_slices c.for_a) (loan_slices c.for_b) (loan_slices c.for_join) (zeros 3) (zeros 3) (zeros 3)
    (called c.a c.for_a) (called c.b c.for_b) (called (c.a ++ c.b) c.for_join) refl refl (omega arith)
    (record { tokens = omega arith; events = omega arith; diagnostics = omega arith; words = omega arith })
    (record { newline = refl; line_feed = refl; word = refl; closes = refl; starts = refl })
    (zeros 1) (zeros 1) (zeros 2) (zeros 1) (zeros 1) (zeros 2)
    (record { returned = refl; lines_are = refl; columns_are = refl })
    (record { returned = refl; lines_are = refl; columns_are = refl })
    (record { returned = refl; lines_are = refl; columns_are = refl })
    (record { for_lines = omega arith; for_columns = omega arith })
    (record { for_lines = omega arith; for_columns = omega arith })
    (record { for_lines = omega arith; for_columns = omega arith })
