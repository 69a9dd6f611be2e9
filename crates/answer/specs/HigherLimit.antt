-- M-104: 'A file without the depth diagnostic at some limit has the same tree and diagnostics at any larger one.' In terms of calls.
-- Assumes nothing: these are definitions.
use Rattle.std.specs.Prelude.{ℕ, ◌≤◌, ◌≡◌, true, List, length}
use Rattle.grammar.specs.Block.{MAX_CONTROL_FLOW_NESTING}
use Rattle.grammar.specs.Theorems.HigherLimit.{without_depth}
use Rattle.answer.specs.Answer.{Slices, token_room, diagnostic_room}
use Rattle.answer.specs.Given.{token_count, event_count, diagnostic_count, given}

-- What is known of a source at a limit, and of a higher one: a call at the limit returned r, which is 0, and gave g, without the depth
-- diagnostic; the other limit is allowed.
pub record ReadWithoutDepth (limit higher : ℕ) (r : ℕ) (g : Slices) : Type 0 where
  pub accepted : r ≡ 0
  pub calm : without_depth g.messages ≡ true
  pub above : limit ≤ higher
  pub allowed : higher ≤ MAX_CONTROL_FLOW_NESTING

-- The slices s and counts have room for what other calls gave, by their counts.
pub record RoomFor (given_counts : List ℕ) (s : Slices) (counts : List ℕ) : Type 0 where
  pub tokens : token_count given_counts ≤ token_room s
  pub events : event_count given_counts ≤ length s.events
  pub diagnostics : diagnostic_count given_counts ≤ diagnostic_room s
  pub words : 3 ≤ length counts

-- A call returned 0, and gave what another gave.
pub record GivesSame (r : ℕ) (s : Slices) (counts : List ℕ) (s' : Slices) (counts' : List ℕ) : Type 0 where
  pub returned : r ≡ 0
  pub t_is : token_count counts ≡ token_count counts'
  pub e_is : event_count counts ≡ event_count counts'
  pub d_is : diagnostic_count counts ≡ diagnostic_count counts'
  pub given_is : given s counts ≡ given s' counts'

-- Two calls returned the same number and left the same.
pub record SameReply (r : ℕ) (s : Slices) (counts : List ℕ) (r' : ℕ) (s' : Slices) (counts' : List ℕ) : Type 0 where
  pub status_is : r ≡ r'
  pub slices_are : s ≡ s'
  pub counts_are : counts ≡ counts'
