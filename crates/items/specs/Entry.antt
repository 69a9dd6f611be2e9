-- What the parser leaves in the slices: the file's events and diagnostics, as far as each slice goes, and their numbers.
-- Assumes nothing: these are definitions.
use Rattle.std.specs.Prelude.{◌≡◌, List, ℕ, map, length}
use Rattle.room.specs.Over.{over}
use Rattle.grammar.specs.Words.{File}
use Rattle.grammar.specs.Out.{events as events_of, diags as diags_of}
use Rattle.parser.specs.declared.cursor.Cursor.{Cursor}

-- where the parser starts
abbrev pub start : Cursor
start = record { pos = 0; events = 0; diags = 0 }

-- what stands in the slices, and the cursor
pub record ParserSlices : Type 0 where
  pub events : List ℕ
  pub messages : List ℕ
  pub starts : List ℕ
  pub c : Cursor

abbrev pub parser_slices : List ℕ → List ℕ → List ℕ → Cursor → ParserSlices
parser_slices events messages starts c = record { events = events; messages = messages; starts = starts; c = c }

-- w is what is left after the file F at this limit, where the slices were b's
pub record Parse (limit : ℕ) (F : File) (b w : ParserSlices) : Type 0 where
  pub pos : w.c.pos ≡ length F
  pub event_count : w.c.events ≡ length (events_of limit F)
  pub diagnostic_count : w.c.diags ≡ length (diags_of limit F)
  pub events_are : w.events ≡ over b.events 0 (events_of limit F)
  pub messages_are : w.messages ≡ over b.messages 0 (map (λ d. d.msg) (diags_of limit F))
  pub starts_are : w.starts ≡ over b.starts 0 (map (λ d. d.pos) (diags_of limit F))
