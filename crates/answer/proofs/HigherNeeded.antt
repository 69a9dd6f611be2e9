-- Which premises of `higher_limit_calls` are needed: each of the four, for each a case in which the others hold and the conclusion does not.
-- `higher_limit_gives` needs its room besides.
-- Assumes nothing.
use Rattle.std.specs.Prelude.{ℕ, ◌≤◌, ◌≡◌, refl, true, List}
use Rattle.std.proofs.Common.{ap, arith}
use Rattle.grammar.specs.Block.{MAX_CONTROL_FLOW_NESTING}
use Rattle.grammar.specs.Compute.{bytes}
use Rattle.grammar.specs.Theorems.HigherLimit.{without_depth}
use Rattle.answer.specs.Call.{Reply}
use Rattle.answer.specs.Given.{event_count, given}
use Rattle.answer.specs.HigherLimit.{RoomFor, GivesSame, SameReply}
use Rattle.answer.specs.Cases.{Loan, loan_at, made, called}
use Rattle.answer.specs.Cases
use Rattle.answer.proofs.HigherLimit.{higher_limit_calls, higher_limit_gives}

-- A source, what was lent to the call that read it and at which limit, and the other limit.
pub record Raise : Type 0 where
  pub source : List ℕ
  pub seen : Loan
  pub higher : ℕ

-- The premises and the conclusion of `higher_limit_calls`, of two calls with room for 5 tokens, 19 events and a diagnostic.
module _ (c : Raise) where
  abbrev reply : Reply
  reply = made c.source c.seen

  abbrev Accepted : Type 0
  Accepted = reply.status ≡ 0

  abbrev Calm : Type 0
  Calm = without_depth (given reply.slices reply.counts).messages ≡ true

  abbrev Above : Type 0
  Above = c.seen.limit ≤ c.higher

  abbrev Allowed : Type 0
  Allowed = c.higher ≤ MAX_CONTROL_FLOW_NESTING

  abbrev low : Reply
  low = made c.source (loan_at c.seen.limit 5 19 1)

  abbrev high : Reply
  high = made c.source (loan_at c.higher 5 19 1)

  abbrev Same : Type 0
  Same = SameReply high.status high.slices high.counts low.status low.slices low.counts

  -- They are.
  same : Accepted → Calm → Above → Allowed → Same
  same accepted calm above allowed =
      higher_limit_calls c.seen.limit c.higher c.source (Cases.loan_slices c.seen) (Cases.zeros c.seen.words) (called c.source c.seen)
      (record { accepted = accepted; calm = calm; above = above; allowed = allowed }) (Cases.loan_slices (loan_at c.higher 5 19 1)) (Cases.zeros 3)
      (called c.source (loan_at c.higher 5 19 1)) (called c.source (loan_at c.seen.limit 5 19 1))

-- `begin if if`, too deep at limit 1. Without room for its diagnostic the first call returned 5.
abbrev raise : Loan → ℕ → Raise
raise seen higher = record { source = bytes "begin if if"; seen = seen; higher = higher }

abbrev no_room : Raise
no_room = raise (loan_at 1 5 19 0) 2

accepted_needed : Calm no_room × Above no_room × Allowed no_room × (Same no_room → ⊥)
unfolding made
accepted_needed = (refl, omega arith, omega arith, λ s. let z : ◌≡◌ {A = ℕ} 19 17 = ap event_count s.counts_are in omega arith)

abbrev too_deep : Raise
too_deep = raise (loan_at 1 5 19 1) 2

calm_needed : Accepted too_deep × Above too_deep × Allowed too_deep × (Same too_deep → ⊥)
unfolding made
calm_needed = (refl, omega arith, omega arith, λ s. let z : ◌≡◌ {A = ℕ} 19 17 = ap event_count s.counts_are in omega arith)

abbrev lowered : Raise
lowered = raise (loan_at 2 5 19 1) 1

above_needed : Accepted lowered × Calm lowered × Allowed lowered × (Same lowered → ⊥)
unfolding made
above_needed = (refl, refl, omega arith, λ s. let z : ◌≡◌ {A = ℕ} 17 19 = ap event_count s.counts_are in omega arith)

abbrev past_256 : Raise
past_256 = raise (loan_at 256 5 19 1) 257

allowed_needed : Accepted past_256 × Calm past_256 × Above past_256 × (Same past_256 → ⊥)
unfolding made
allowed_needed = (refl, refl, omega arith, λ s. let z : ◌≡◌ {A = ℕ} 9 0 = s.status_is in omega arith)

-- ---- Room for what was given: one token, event or diagnostic less, or a word, and the call at the higher limit is refused.
module _ (raised : Loan) where
  abbrev again : Reply
  again = made (bytes "begin if if") raised

  abbrev seen : Reply
  seen = made (bytes "begin if if") (loan_at 2 5 19 1)

  abbrev Room : Type 0
  Room = RoomFor seen.counts (Cases.loan_slices raised) (Cases.zeros raised.words)

  abbrev Given : Type 0
  Given = GivesSame again.status again.slices again.counts seen.slices seen.counts

  -- Where there is room, it is given.
  given_again : Room → raised.limit ≡ 3 → Given
  unfolding made
  given_again room e =
      higher_limit_gives 2 raised.limit (bytes "begin if if") (Cases.loan_slices (loan_at 2 5 19 1)) (Cases.zeros 3) (called _ (loan_at 2 5 19 1))
      (record { accepted = refl; calm = refl; above = omega (arith, e); allowed = omega (arith, e) }) (Cases.loan_slices raised) (Cases.zeros raised.words) (called _ raised) room

enough : Given (loan_at 3 5 19 1)
unfolding made
enough = given_again (loan_at 3 5 19 1) (record { tokens = omega arith; events = omega arith; diagnostics = omega arith; words = omega arith }) refl

tokens_needed : Given (loan_at 3 4 19 1) → ⊥
unfolding made
tokens_needed g = let z : ◌≡◌ {A = ℕ} 3 0 = g.returned in omega arith

events_needed : Given (loan_at 3 5 18 1) → ⊥
unfolding made
events_needed g = let z : ◌≡◌ {A = ℕ} 5 0 = g.returned in omega arith

diagnostics_needed : Given (loan_at 3 5 19 0) → ⊥
unfolding made
diagnostics_needed g = let z : ◌≡◌ {A = ℕ} 5 0 = g.returned in omega arith

words_needed : Given (record { limit = 3; tokens = 5; events = 19; diagnostics = 1; words = 2 }) → ⊥
unfolding made
words_needed g = let z : ◌≡◌ {A = ℕ} 6 0 = g.returned in omega arith
