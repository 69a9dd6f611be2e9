-- What a token more leaves in the slices that tokens are written to.
-- Assumes nothing: these are definitions.
use Rattle.std.specs.Prelude.{◌≡◌, List, ◌++◌, ℕ, ◌+◌, take, drop, set}
use Rattle.lexer.specs.Tokens.{room}
use Rattle.lexer.specs.declared.slices.TokenSlices.{TokenSlices}

-- how many tokens the slices take
abbrev pub room_in : TokenSlices → ℕ
room_in s = room s.kinds.now s.ends.now

-- v at n, where n is within the room
abbrev pub put : ℕ → List ℕ → ℕ → ℕ → List ℕ
put r l n v = set (take r l) n v ++ drop r l

pub record Push (kind end : ℕ) (s t : TokenSlices) : Type 0 where
  pub same_kinds : t.kinds.ghost_name ≡ s.kinds.ghost_name
  pub same_ends : t.ends.ghost_name ≡ s.ends.ghost_name
  pub count_is : t.count ≡ s.count + 1
  pub kinds_are : t.kinds.now ≡ put (room_in s) s.kinds.now s.count kind
  pub ends_are : t.ends.now ≡ put (room_in s) s.ends.now s.count end
