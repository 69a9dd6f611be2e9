-- What the functions around a block do, as parts of a form: an opening, what leads up to a block, an end. Assumes nothing: these are definitions.
use Rattle.std.specs.Prelude.{◌≡◌, Bool, true, ℕ, ◌<◌}
use Rattle.grammar.specs.Words.{Sym, File, from, ELSE}
use Rattle.grammar.specs.Look.{at_keyword, at_top_level_form_starter_in_block}
use Rattle.grammar.specs.Run.{Kind, num, Error, P, pure, in_node, pick, ◌>>◌, ◌>>=◌, when◌then◌else◌}
use Rattle.grammar.specs.declared.message.Message.{Message}
use Rattle.grammar.specs.declared.block.BlockOwner.{BlockOwner}
use Rattle.grammar.specs.declared.block.Terminators.{Terminators}
use Rattle.grammar.specs.declared.block.BlockRecoveryBoundary.{BlockRecoveryBoundary}
use Rattle.grammar.specs.declared.block.BlockParseOutcome.{BlockParseOutcome}
use Rattle.grammar.specs.Bump.{bump, error_here, expect_keyword}
use Rattle.grammar.specs.Line.{parse_line_tail}
use Rattle.grammar.specs.Block.{Blocks, parse_structured_header_suffixes, reached_eof, ended, block_in, parse_block}
use Rattle.parser.specs.Rep.{World, file, remaining, Onward, Past, Wrote, Ran, RanTo}
use Rattle.blocks.specs.declared.arm.Closing.{Closing}
use Rattle.blocks.specs.declared.arm.BlockArm.{BlockArm}
use Rattle.blocks.specs.declared.close.BlockEnd.{BlockEnd}
use Rattle.blocks.specs.declared.close.Form.{Form}
use Rattle.blocks.specs.declared.any_depth.AnyDepth.{AnyDepth}
use Rattle.blocks.specs.declared.any_depth.AnyPlace.{AnyPlace}
use Rattle.blocks.specs.declared.place.BlockPlace.{BlockPlace}
use Rattle.blocks.specs.declared.place.Depth.{Depth}
use Rattle.blocks.specs.declared.rounds.Stopped.{Stopped}
use Rattle.parser.specs.declared.cursor.Cursor.{Cursor}
use Rattle.blocks.specs.Arms.{block_arm, block_ending}

-- What stands before a form's block, and then the rest of the form.
abbrev pub header : Sym → P Bool → P Bool
header keyword next = expect_keyword keyword Message.Unreached >> parse_structured_header_suffixes >> parse_line_tail >> next

abbrev pub keyword_line : Sym → P Bool → P Bool
keyword_line keyword next = expect_keyword keyword Message.Unreached >> parse_line_tail >> next

abbrev pub else_line : P BlockParseOutcome → P BlockParseOutcome
else_line next = bump >> parse_line_tail >> next

-- parse_if, behind its first block
abbrev pub else_part : Blocks → ℕ → BlockParseOutcome → P Bool
else_part block depth outcome =
    pick (reached_eof outcome) (pure true)
    ((when at_keyword ELSE then else_line (block BlockOwner.If Terminators.End depth) else pure outcome) >>= λ last. ended BlockOwner.If last)

-- a keyword, and the rest of its line
pub record KeywordLine (keyword : Sym) (w w' : World) : Type 0 where
  pub mid : World
  pub key : Ran (expect_keyword keyword Message.Unreached) w mid
  pub line : Ran parse_line_tail mid w'
  pub onward : Onward w w'
  pub past : Past w w'

-- a node's opening event, v, and then what `lead` does before what comes next; it takes a token
pub record FormHeader (v : ℕ) (lead : P Bool → P Bool) (w w' : World) : Type 0 where
  pub mid : World
  pub wrote : Wrote v w mid
  pub on : (next : P Bool) (u : World) (r : Bool) → RanTo next w' u r → RanTo (lead next) mid u r
  pub onward : Onward w w'
  pub past : Past w w'

-- an item starts here where this is said
pub record ItemAt (F : File) (p : ℕ) (item : Bool) : Type 0 where
  pub starts : item ≡ true → at_top_level_form_starter_in_block (from F p) ≡ true

-- the empty Error node of a recovery
pub record Recover (owner : BlockOwner) (boundary : BlockRecoveryBoundary) (w w' : World) : Type 0 where
  pub ran : Ran (in_node Error (error_here (Message.Recovery owner boundary))) w w'
  pub pos : w'.c.pos ≡ w.c.pos

-- what ends the loop is reported
pub record BlockEnding (k : Closing) (owner : BlockOwner) (w w' : World) (outcome : BlockParseOutcome) : Type 0 where
  pub ran : RanTo (block_ending k owner) w w' outcome
  pub pos : w'.c.pos ≡ w.c.pos

-- a block's end, and its closing event
pub record Close (k : Closing) (owner : BlockOwner) (w w' : World) (e : BlockEnd) : Type 0 where
  pub mid : World
  pub ran : RanTo (block_ending k owner) w mid e.outcome
  pub wrote : Wrote 0 mid w'
  pub onward : Onward w w'
  pub pos : w'.c.pos ≡ w.c.pos
  pub at_item : e.item ≡ true → k ≡ Closing.Item

-- a form's end, and its closing event
pub record Finish (owner : BlockOwner) (outcome : BlockParseOutcome) (w w' : World) (f : Form) : Type 0 where
  pub mid : World
  pub ran : RanTo (ended owner outcome) w mid f.eof
  pub wrote : Wrote 0 mid w'
  pub onward : Onward w w'
  pub here : ItemAt (file w') w'.c.pos f.item

-- ---- the rounds of a block, with any number of forms around it
abbrev pub any_block_place : BlockOwner → Terminators → AnyDepth → AnyPlace
any_block_place owner terminators depth = record { depth = depth; owner = owner; terminators = terminators }

-- what is left of a block at this place, and the whole of it
abbrev pub rest_at_any : AnyPlace → P BlockParseOutcome
rest_at_any p = block_in p.depth.limit.forms p.owner p.terminators p.depth.forms

abbrev pub block_at_any : AnyPlace → P BlockParseOutcome
block_at_any p = parse_block p.depth.limit.forms p.owner p.terminators p.depth.forms

-- They come to a form below the limit: what is left of the block from there is what was left of it before.
pub record AnyAtForm (p : AnyPlace) (w w' : World) : Type 0 where
  pub on : (v : World) (r : BlockParseOutcome) → RanTo (rest_at_any p) w' v r → RanTo (rest_at_any p) w v r
  pub arm : block_arm p.terminators (remaining w') ≡ BlockArm.Control
  pub below : p.depth.forms < p.depth.limit.forms

-- Or they end the block, and its closing event is written.
pub record AnyOver (p : AnyPlace) (w w' : World) (e : BlockEnd) : Type 0 where
  pub mid : World
  pub ran : RanTo (rest_at_any p) w mid e.outcome
  pub wrote : Wrote 0 mid w'
  pub here : ItemAt (file w') w'.c.pos e.item

-- Where they stop, and what holds there.
abbrev pub stop : Stopped → Cursor
stop (Stopped.Form c) = c
stop (Stopped.Closed e) = e.c

abbrev pub AnyFormOrEnd : AnyPlace → World → World → Stopped → Type 0
AnyFormOrEnd p w w' (Stopped.Form c) = AnyAtForm p w w'
AnyFormOrEnd p w w' (Stopped.Closed e) = AnyOver p w w' e

pub record AnyBlockRounds (p : AnyPlace) (w w' : World) (s : Stopped) : Type 0 where
  pub onward : Onward w w'
  pub there : AnyFormOrEnd p w w' s

-- the same behind the block's opening event
pub record AnyFirstRounds (p : AnyPlace) (w w' : World) (s : Stopped) : Type 0 where
  pub mid : World
  pub wrote : Wrote (num Kind.Block) w mid
  pub onward : Onward w w'
  pub rounds : AnyBlockRounds p mid w' s

-- ---- a block, and a form
pub record AnyParseBlock (p : AnyPlace) (w w' : World) (e : BlockEnd) : Type 0 where
  pub ran : RanTo (block_at_any p) w w' e.outcome
  pub here : ItemAt (file w') w'.c.pos e.item

pub record ParseForm (form : P Bool) (w w' : World) (f : Form) : Type 0 where
  pub ran : RanTo form w w' f.eof
  pub past : Past w w'
  pub here : ItemAt (file w') w'.c.pos f.item

-- ---- the same where no more forms stand around the block than may
abbrev pub any_depth : Depth → AnyDepth
any_depth d = record { forms = d.forms; limit = d.limit }

abbrev pub any_place : BlockPlace → AnyPlace
any_place p = any_block_place p.owner p.terminators (any_depth p.depth)

abbrev pub block_place : BlockOwner → Terminators → Depth → BlockPlace
block_place owner terminators depth = record { depth = depth; owner = owner; terminators = terminators }

abbrev pub rest_at : BlockPlace → P BlockParseOutcome
rest_at p = rest_at_any (any_place p)

abbrev pub block_at : BlockPlace → P BlockParseOutcome
block_at p = block_at_any (any_place p)

abbrev pub AtForm : BlockPlace → World → World → Type 0
AtForm p = AnyAtForm (any_place p)

abbrev pub Over : BlockPlace → World → World → BlockEnd → Type 0
Over p = AnyOver (any_place p)

abbrev pub FormOrEnd : BlockPlace → World → World → Stopped → Type 0
FormOrEnd p = AnyFormOrEnd (any_place p)

abbrev pub BlockRounds : BlockPlace → World → World → Stopped → Type 0
BlockRounds p = AnyBlockRounds (any_place p)

abbrev pub FirstRounds : BlockPlace → World → World → Stopped → Type 0
FirstRounds p = AnyFirstRounds (any_place p)

abbrev pub ParseBlock : BlockPlace → World → World → BlockEnd → Type 0
ParseBlock p = AnyParseBlock (any_place p)
