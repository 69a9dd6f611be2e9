-- What it means that the code, a parser's slices and a cursor, stands for a state of the definition; and the forms of the contracts over it.
-- Assumes nothing: these are definitions.
use Rattle.std.specs.Prelude.{◌≡◌, List, map, ℕ, ◌+◌, ◌≤◌, ◌<◌, ◌^◌, length, get_or}
use Rattle.std.specs.Borrow.{MutBor}
use denote.Triple.Both.{Both}
use Rattle.room.specs.Over.{over}
use Rattle.lexer.specs.Syntax
use Rattle.grammar.specs.Words.{Sym, File, from}
use Rattle.grammar.specs.Run.{P, take_token}
use Rattle.grammar.specs.Run
use Rattle.grammar.specs.Out.{kind}
use Rattle.grammar.specs.State.{State, run, write}
use Rattle.parser.specs.declared.cursor.Cursor.{Cursor}
use Rattle.parser.specs.declared.state.Parser.{Parser}

-- the parser's slices, and the cursor
pub record World : Type 0 where
  pub p : Parser
  pub c : Cursor

abbrev pub world : Parser → Cursor → World
world p c = record { p = p; c = c }

-- in a contract: the world at entry, and at exit
abbrev pub Lent : Type 0
Lent = Both (MutBor Parser) (MutBor Parser)

abbrev pub entry : Lent → Cursor → World
entry p c = world p.entry.now c

abbrev pub exit : Lent → Cursor → World
exit p c = world p.exit.now c

-- all tokens, and those from the cursor on
abbrev pub file : World → File
file w = w.p.kinds.now

abbrev pub remaining : World → List Sym
remaining w = from (file w) w.c.pos

-- w stands for s: what s wrote stands over what b's slices hold, as far as each goes
pub record Rep (b w : World) (s : State) : Type 0 where
  pub rest : s.rest ≡ remaining w
  pub pos : s.pos ≡ w.c.pos
  pub evs : length s.evs ≡ w.c.events
  pub dgs : length s.dgs ≡ w.c.diags
  pub events : w.p.events.now ≡ over b.p.events.now 0 s.evs
  pub messages : w.p.messages.now ≡ over b.p.messages.now 0 (map (λ d. d.msg) s.dgs)
  pub starts : w.p.starts.now ≡ over b.p.starts.now 0 (map (λ d. d.pos) s.dgs)

-- the numbers of s fit the code's. Every reading's do (`few_events`, `few_diagnostics`), so no function counts what it writes
pub record Small (s : State) : Type 0 where
  pub pos : s.pos < 2 ^ 32
  pub events : length s.evs < 2 ^ 64
  pub diags : length s.dgs < 2 ^ 64

-- q has the slices of p, and each is as long
pub record SameParserSlices (p q : Parser) : Type 0 where
  pub kinds : q.kinds ≡ p.kinds
  pub events : q.events.ghost_name ≡ p.events.ghost_name
  pub messages : q.messages.ghost_name ≡ p.messages.ghost_name
  pub starts : q.starts.ghost_name ≡ p.starts.ghost_name
  pub event_room : length q.events.now ≡ length p.events.now
  pub message_room : length q.messages.now ≡ length p.messages.now
  pub start_room : length q.starts.now ≡ length p.starts.now

-- w' is not before w, in the same slices
pub record Onward (w w' : World) : Type 0 where
  pub ahead : w.c.pos ≤ w'.c.pos
  pub tokens : length (file w') ≡ length (file w)
  pub slices : SameParserSlices w.p w'.p

-- there is a token at w, and it is taken before w'
pub record Past (w w' : World) : Type 0 where
  pub on : w.c.pos < w'.c.pos
  pub within : w.c.pos < length (file w)

-- the code goes from w to w' as an event is written
pub record Wrote (v : ℕ) (w w' : World) : Type 0 where
  pub sim : (b : World) (s : State) → Rep b w s → Small (write v s) → Rep b w' (write v s)
  pub rest : remaining w' ≡ remaining w
  pub pos : w'.c.pos ≡ w.c.pos
  pub messages : w'.p.messages ≡ w.p.messages
  pub starts : w'.p.starts ≡ w.p.starts
  pub onward : Onward w w'

-- the code goes from w to w' as f does
pub record Ran {A : Type 0} (f : P A) (w w' : World) : Type 0 where
  pub sim : (b : World) (s : State) → Rep b w s → Small (run f s) → Rep b w' (run f s)
  pub rest : (f (remaining w)).rest ≡ remaining w'
  pub onward : Onward w w'

-- the same, and it answers r as f does
pub record RanTo {A : Type 0} (f : P A) (w w' : World) (r : A) : Type 0 where
  pub ran : Ran f w w'
  pub val : (f (remaining w)).val ≡ r

-- ---- the contracts of functions that say more
pub record ErrorHere (m : ℕ) (w w' : World) : Type 0 where
  pub ran : Ran (Run.err m) w w'
  pub pos : w'.c.pos ≡ w.c.pos
  pub events : w'.p.events ≡ w.p.events

-- the token at p is not Error, and its event is v
pub record PlainToken (F : File) (p v : ℕ) : Type 0 where
  pub within : p < length F
  pub no_error : get_or F p 0 ≡ Syntax.Error → ⊥
  pub event : v ≡ kind (get_or F p 0)

pub record Bump (w w' : World) : Type 0 where
  pub ran : Ran take_token w w'
  pub moved : w.c.pos < length (file w) → w'.c.pos ≡ w.c.pos + 1

-- a token whose event is all that is written
pub record BumpPlain (w w' : World) : Type 0 where
  pub bumped : Bump w w'
  pub messages : w'.p.messages ≡ w.p.messages
  pub starts : w'.p.starts ≡ w.p.starts
