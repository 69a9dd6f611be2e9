-- The lent slices in a contract: what stands in the six, and that each is still the slice that was lent.
-- Assumes nothing: these are definitions.
use Rattle.std.specs.Prelude.{ℕ, ◌≡◌, List, ⊤}
use Rattle.std.specs.Borrow.{MutBor}
use Rattle.answer.specs.Answer.{Slices, slices}
use Rattle.answer.specs.declared.Slices.{Slices as LentSlices}

abbrev pub lists : LentSlices → Slices
lists s = slices s.kinds.now s.ends.now s.events.now s.messages.now s.starts.now s.stops.now

-- the exits of the six, where a function takes them by value, and what it leaves in them
abbrev SliceExit : Type 0
SliceExit = MutBor (List ℕ)

abbrev pub exit_lists : SliceExit × (SliceExit × (SliceExit × (SliceExit × (SliceExit × (SliceExit × ⊤))))) → Slices
exit_lists s = slices s.0.now s.1.0.now s.1.1.0.now s.1.1.1.0.now s.1.1.1.1.0.now s.1.1.1.1.1.0.now

-- What is written through s is written into the slices that it was made of.
pub record SameSlices (s s' : LentSlices) : Type 0 where
  pub same_kinds : s'.kinds.ghost_name ≡ s.kinds.ghost_name
  pub same_ends : s'.ends.ghost_name ≡ s.ends.ghost_name
  pub same_events : s'.events.ghost_name ≡ s.events.ghost_name
  pub same_messages : s'.messages.ghost_name ≡ s.messages.ghost_name
  pub same_starts : s'.starts.ghost_name ≡ s.starts.ghost_name
  pub same_stops : s'.stops.ghost_name ≡ s.stops.ghost_name
