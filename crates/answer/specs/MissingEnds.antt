-- Document 01's words on missing closers, proved in proofs/MissingEnds of every call that returned 0: at most one is reported, it stands
-- at the end of the file, and there is none where the depth diagnostic stands.
-- Assumes nothing.
use Rattle.std.specs.Prelude.{ℕ, cond, get_or}
use mathlib.Core.List.{List, [], ◌∷◌, tail}
use Rattle.utf8.specs.Last.{last_char}
use Rattle.grammar.specs.declared.block.BlockOwner.{BlockOwner}
use Rattle.grammar.specs.declared.message.PlainMessage.{PlainMessage}
use Rattle.grammar.specs.Message.{missing_end_number, plain_number}
use Rattle.grammar.specs.Out.{Place}
use Rattle.grammar.specs.Endings.{ending}
use Rattle.answer.specs.Answer.{Slices}

-- The diagnostics of these messages, starts and stops.
abbrev pub diagnostics_of : List ℕ → List ℕ → List ℕ → List Place
diagnostics_of [] starts stops = []
diagnostics_of (m ∷ ms) starts stops = record { msg = m; start = get_or starts 0 0; stop = get_or stops 0 0 } ∷ diagnostics_of ms (tail starts) (tail stops)

-- Those of a missing closer, 1 to 7, and of the depth limit, 49.
abbrev pub place_endings : List Place → List Place
place_endings [] = []
place_endings (p ∷ ps) = cond (ending p.msg) (p ∷ place_endings ps) (place_endings ps)

-- There is none; or one, and that is a missing closer, at the end of the file; or one, the depth diagnostic.
pub data CallEnd (eof : ℕ) : List Place → Type 0 where
  no_report : CallEnd eof []
  at_file_end : (w : BlockOwner) → CallEnd eof (record { msg = missing_end_number w; start = eof; stop = eof } ∷ [])
  at_limit : (start stop : ℕ) → CallEnd eof (record { msg = plain_number PlainMessage.NestingTooDeep; start = start; stop = stop } ∷ [])

abbrev pub MissingEnds : List ℕ → Slices → Type 0
MissingEnds source g = CallEnd (last_char source) (place_endings (diagnostics_of g.messages g.starts g.stops))
