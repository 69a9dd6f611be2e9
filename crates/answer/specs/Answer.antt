-- What a reading answers and leaves in the slices: document 01's table, in its order, and M-104's row 9 before them.
-- Assumes nothing: these are definitions.
use Rattle.std.specs.Prelude.{Option, None, Some, Ok, Err, ℕ, min, Bool, cond, ◌||◌, List, map, ltb, length}
use Rattle.std.specs.Borrow.{MutBor}
use denote.Triple.Both.{Both}
use Rattle.utf8.specs.Validate.{Validity, validate}
use Rattle.lexer.specs.Lexer.{tokenize}
use Rattle.room.specs.Over.{fit}
use Rattle.lexer.specs.Tokens.{MAX_SOURCE, token_kinds, token_ends}
use Rattle.grammar.specs.Source.{source_events, source_places}
use Rattle.grammar.specs.Block.{limit_allowed}
use Rattle.marks.specs.Marks.{first_refused}
use Rattle.answer.specs.declared.Answer.{Answer}
use Rattle.answer.specs.declared.Answer.TheVariants.{LimitOutOfRange, TooLong, NotUtf8, TokenRoom, Refused, OutputRoom, Accepted}

-- The six slices: kinds and ends of tokens, events, and messages, starts and stops of diagnostics.
pub record Slices : Type 0 where
  pub kinds : List ℕ
  pub ends : List ℕ
  pub events : List ℕ
  pub messages : List ℕ
  pub starts : List ℕ
  pub stops : List ℕ

abbrev pub slices : List ℕ → List ℕ → List ℕ → List ℕ → List ℕ → List ℕ → Slices
slices kinds ends events messages starts stops = record {
  kinds = kinds;
  ends = ends;
  events = events;
  messages = messages;
  starts = starts;
  stops = stops;
}

-- in a contract: a lent slice, and the six of them at entry and at exit
abbrev pub LentSlice : Type 0
LentSlice = Both (MutBor (List ℕ)) (MutBor (List ℕ))

abbrev pub entry_slices : LentSlice → LentSlice → LentSlice → LentSlice → LentSlice → LentSlice → Slices
entry_slices kinds ends events messages starts stops =
    slices kinds.entry.now ends.entry.now events.entry.now messages.entry.now starts.entry.now stops.entry.now

abbrev pub exit_slices : LentSlice → LentSlice → LentSlice → LentSlice → LentSlice → LentSlice → Slices
exit_slices kinds ends events messages starts stops =
    slices kinds.exit.now ends.exit.now events.exit.now messages.exit.now starts.exit.now stops.exit.now

abbrev pub token_room : Slices → ℕ
token_room s = min (length s.kinds) (length s.ends)

abbrev pub diagnostic_room : Slices → ℕ
diagnostic_room s = min (min (length s.messages) (length s.starts)) (length s.stops)

-- the tokens that fit
abbrev pub with_tokens : List ℕ → Slices → Slices
with_tokens source s = record {
  kinds = fit (token_room s) (token_kinds source) s.kinds;
  ends = fit (token_room s) (token_ends source) s.ends;
  events = s.events;
  messages = s.messages;
  starts = s.starts;
  stops = s.stops;
}

-- the events and diagnostics that fit
abbrev pub with_output : ℕ → List ℕ → Slices → Slices
with_output limit source s = record {
  kinds = s.kinds;
  ends = s.ends;
  events = fit (length s.events) (source_events limit source) s.events;
  messages = fit (diagnostic_room s) (map (λ p. p.msg) (source_places limit source)) s.messages;
  starts = fit (diagnostic_room s) (map (λ p. p.start) (source_places limit source)) s.starts;
  stops = fit (diagnostic_room s) (map (λ p. p.stop) (source_places limit source)) s.stops;
}

pub record Outcome : Type 0 where
  pub answer : Answer
  pub slices : Slices

abbrev pub outcome : Answer → Slices → Outcome
outcome a s = record { answer = a; slices = s }

-- one of E events or D diagnostics is above its room
abbrev pub short : ℕ → List ℕ → Slices → Bool
short limit source s = ltb (length s.events) (length (source_events limit source)) || ltb (diagnostic_room s) (length (source_places limit source))

-- Document 01's table from its end up. A row is called by the number that it returns; `from_row_5` is the answer where no row above row 5 holds.
-- Row 5: no room for the events or the diagnostics. Else row 0: the source is accepted.
unfoldable pub from_row_5 : ℕ → List ℕ → Slices → Outcome
from_row_5 limit source s =
    let answer = cond (short limit source s) OutputRoom Accepted in
    outcome (answer (length (tokenize source)) (length (source_events limit source)) (length (source_places limit source)))
    (with_output limit source s)

-- Row 4: an Ident `use` or `extern`, the first of them at n.
unfoldable pub from_row_4 : Option ℕ → ℕ → List ℕ → Slices → Outcome
from_row_4 None limit source s = from_row_5 limit source s
from_row_4 (Some n) limit source s = outcome (Refused n) s

-- Row 3: no room for the tokens.
unfoldable pub from_row_3 : ℕ → List ℕ → Slices → Outcome
from_row_3 limit source s =
    cond (ltb (token_room s) (length (tokenize source)))
    (outcome (TokenRoom (length (tokenize source))) s)
    (from_row_4 (first_refused 0 (tokenize source)) limit source s)

-- Row 2: not UTF-8. Behind it the tokens that fit are in the slices, whatever is answered.
unfoldable pub from_row_2 : Validity → ℕ → List ℕ → Slices → Outcome
from_row_2 (Ok _) limit source s = from_row_3 limit source (with_tokens source s)
from_row_2 (Err e) limit source s = outcome (NotUtf8 e) s

-- Row 1: too long.
unfoldable pub from_row_1 : ℕ → List ℕ → Slices → Outcome
from_row_1 limit source s = cond (ltb MAX_SOURCE (length source)) (outcome TooLong s) (from_row_2 (validate source) limit source s)

-- Row 9, a limit outside 1 to 256, and so the whole: the reading at any limit of any bytes into any slices.
unfoldable pub parse_text : ℕ → List ℕ → Slices → Outcome
parse_text limit source s = cond (limit_allowed limit) (from_row_1 limit source s) (outcome LimitOutOfRange s)
