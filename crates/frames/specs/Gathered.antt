-- What an output has gathered and not yet written. Assumes nothing: these are definitions.
use Rattle.std.specs.Prelude.{List, ℕ, [], ◌+◌, ◌++◌, length, nat_le, if◌then◌else◌}

-- The bytes that are not written yet, in their order, and how many there can be.
pub record Gathered : Type 0 where
  pub pending : List ℕ
  pub capacity : ℕ

abbrev pub gathered : ℕ → List ℕ → Gathered
gathered capacity pending = record { pending = pending; capacity = capacity }

-- Behind a text: it joins the older bytes if there is room for both, else they are written before it. One that is longer than the buffer is
-- written at once.
abbrev pub gather : Gathered → List ℕ → Gathered
gather g text =
    gathered g.capacity
    (if nat_le (length g.pending + length text) g.capacity then g.pending ++ text else (if nat_le (length text) g.capacity then text else []))
