-- M-104 at concrete calls: what is refused, forms at limit 1, the bound on open nodes reached, demand 3 at limit 1.
-- Assumes nothing.
use Rattle.std.specs.Prelude.{ℕ, ◌≡◌, refl, List, [], ◌∷◌}
use Rattle.std.proofs.Common.{arith}
use Rattle.grammar.specs.Compute.{bytes}
use Rattle.grammar.specs.Theorems.FewOpen.{peak}
use Rattle.answer.specs.Answer.{Slices}
use Rattle.answer.specs.Call.{Reply}
use Rattle.answer.specs.Given.{given, JoinReply}
use Rattle.answer.specs.Cases.{loan_at, made}
use Rattle.answer.proofs.Cases.{concluded}

-- What is returned and counted, and the diagnostics.
pub record Summary : Type 0 where
  pub status : ℕ
  pub counts : List ℕ
  pub messages : List ℕ
  pub starts : List ℕ
  pub stops : List ℕ

abbrev summary : ℕ → List ℕ → (messages starts stops : List ℕ) → Summary
summary status counts messages starts stops = record { status = status; counts = counts; messages = messages; starts = starts; stops = stops }

abbrev summary_of : Reply → Summary
summary_of r = let g = given r.slices r.counts in summary r.status r.counts g.messages g.starts g.stops

-- ---- At limit 1: a form in a form, one beside another, a `while` in the body of a `do`, which opens a loop or ends the body.
one_in_another : summary_of (made (bytes "begin if if x end") (loan_at 1 9 21 1)) ≡ summary 0 (9 ∷ 21 ∷ 1 ∷ []) (49 ∷ []) (9 ∷ []) (11 ∷ [])
unfolding made
one_in_another = refl

one_beside_another : summary_of (made (bytes "begin if end if end end") (loan_at 1 11 25 0)) ≡ summary 0 (11 ∷ 25 ∷ 0 ∷ []) [] [] []
unfolding made
one_beside_another = refl

loop_in_body : summary_of (made (bytes "begin do while.x") (loan_at 1 7 19 1)) ≡ summary 0 (7 ∷ 19 ∷ 1 ∷ []) (49 ∷ []) (9 ∷ []) (14 ∷ [])
unfolding made
loop_in_body = refl

end_of_body : summary_of (made (bytes "begin do while x") (loan_at 1 7 21 1)) ≡ summary 0 (7 ∷ 21 ∷ 1 ∷ []) (6 ∷ []) (15 ∷ []) (15 ∷ [])
unfolding made
end_of_body = refl

-- ---- A limit is not cut: 256 and 2 ^ 16, 2 ^ 32 or 2 ^ 63 more are refused, as 0 and 257 are.
read_at : ℕ → Summary
read_at limit = summary_of (made (bytes "begin end") (loan_at limit 3 9 0))

abbrev out_of_range : Summary
out_of_range = summary 9 (0 ∷ 0 ∷ 0 ∷ []) [] [] []

limits_refused : (read_at 0 ≡ out_of_range)
    × (read_at 257 ≡ out_of_range)
    × (read_at 65792 ≡ out_of_range)
    × (read_at 4294967552 ≡ out_of_range)
    × (read_at 9223372036854776064 ≡ out_of_range)
unfolding made read_at
limits_refused = (refl, refl, refl, refl, refl)

limits_allowed : ((read_at 1).status ≡ 0) × ((read_at 256).status ≡ 0)
unfolding made read_at
limits_allowed = (refl, refl)

-- ---- 2 * limit + 4 nodes are open.
open_at_1 : peak 0 (made (bytes "begin if x") (loan_at 1 5 17 1)).slices.events ≡ 6
unfolding made
open_at_1 = refl

open_at_2 : peak 0 (made (bytes "begin if if x") (loan_at 2 7 23 1)).slices.events ≡ 8
unfolding made
open_at_2 = refl

-- ---- Demand 3 at limit 1: B is too deep there, and its diagnostic is moved on.
abbrev a_alone : Slices
a_alone = record {
  kinds = 31 ∷ 27 ∷ 31 ∷ 28 ∷ [];
  ends = 5 ∷ 6 ∷ 9 ∷ 10 ∷ [];
  events = 2 ∷ 13 ∷ 31 ∷ 27 ∷ 18 ∷ 0 ∷ 31 ∷ 0 ∷ 28 ∷ 0 ∷ [];
  messages = [];
  starts = [];
  stops = [];
}

abbrev b_too_deep : Slices
b_too_deep = record {
  kinds = 31 ∷ 27 ∷ 31 ∷ 27 ∷ 31 ∷ [];
  ends = 5 ∷ 6 ∷ 8 ∷ 9 ∷ 11 ∷ [];
  events = 2 ∷ 13 ∷ 31 ∷ 27 ∷ 18 ∷ 19 ∷ 31 ∷ 27 ∷ 18 ∷ 1 ∷ 31 ∷ 0 ∷ 0 ∷ 0 ∷ 0 ∷ 0 ∷ 0 ∷ [];
  messages = 49 ∷ [];
  starts = 9 ∷ [];
  stops = 11 ∷ [];
}

abbrev both : Slices
both = record {
  kinds = 31 ∷ 27 ∷ 31 ∷ 28 ∷ 31 ∷ 27 ∷ 31 ∷ 27 ∷ 31 ∷ [];
  ends = 5 ∷ 6 ∷ 9 ∷ 10 ∷ 15 ∷ 16 ∷ 18 ∷ 19 ∷ 21 ∷ [];
  events = 2 ∷ 13 ∷ 31 ∷ 27 ∷ 18 ∷ 0 ∷ 31 ∷ 0 ∷ 28 ∷ 13 ∷ 31 ∷ 27 ∷ 18 ∷ 19 ∷ 31 ∷ 27 ∷ 18 ∷ 1 ∷ 31 ∷ 0 ∷ 0 ∷ 0 ∷ 0 ∷ 0 ∷ 0 ∷ [];
  messages = 49 ∷ [];
  starts = 19 ∷ [];
  stops = 21 ∷ [];
}

joined_at_1 : JoinReply 10 a_alone b_too_deep both (4 ∷ 10 ∷ 0 ∷ []) (5 ∷ 17 ∷ 1 ∷ []) (9 ∷ 25 ∷ 1 ∷ []) 0
unfolding made
joined_at_1 =
    concluded (record { a = bytes "begin end\n"; b = bytes "begin if if"; for_a = loan_at 1 4 10 0; for_b = loan_at 1 5 17 1; for_join = loan_at 1 9 25 1 })
    (refl, refl, omega arith, omega arith, omega arith, omega arith, omega arith, refl, refl, refl, refl, refl, refl, refl)
