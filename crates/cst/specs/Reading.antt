-- What stands in the lent slices on the way: the tokens with their marks, and what the grammar and the places write.
-- Assumes nothing: these are definitions.
use Rattle.std.specs.Prelude.{ℕ, ◌≤◌, ◌≡◌, List, map, length, take}
use Rattle.room.specs.Over.{over}
use Rattle.lexer.specs.Lexer.{tokenize}
use Rattle.lexer.specs.Tokens.{room, token_ends}
use Rattle.grammar.specs.Source.{source_events, source_places}
use Rattle.marks.specs.Code.{mark}
use Rattle.answer.specs.declared.Answer.{Answer}
use Rattle.answer.specs.Answer.{Slices, outcome, from_row_1}

-- The reading of a source refuses it with this answer at every limit, whatever the slices, which it leaves as they are.
abbrev pub Refuses : List ℕ → Answer → Type 0
Refuses source refusal = (limit : ℕ) (s : Slices) → from_row_1 limit source s ≡ outcome refusal s

-- t tokens, and where they have room, all of them marked.
pub record MarkedTokens (source : List ℕ) (t : ℕ) (kinds ends : List ℕ) : Type 0 where
  pub count_is : t ≡ length (tokenize source)
  pub kinds_are : t ≤ room kinds ends → take t kinds ≡ map mark (tokenize source)
  pub ends_are : t ≤ room kinds ends → take t ends ≡ token_ends source

-- e events and d diagnostics, each slice as far as it goes.
pub record WriteReading (limit : ℕ) (source events messages starts stops : List ℕ) (e d : ℕ) (events' messages' starts' stops' : List ℕ) : Type 0 where
  pub event_count : e ≡ length (source_events limit source)
  pub diagnostic_count : d ≡ length (source_places limit source)
  pub events_are : events' ≡ over events 0 (source_events limit source)
  pub messages_are : messages' ≡ over messages 0 (map (λ p. p.msg) (source_places limit source))
  pub starts_are : starts' ≡ over starts 0 (map (λ p. p.start) (source_places limit source))
  pub stops_are : stops' ≡ over stops 0 (map (λ p. p.stop) (source_places limit source))
