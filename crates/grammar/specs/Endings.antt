-- How a file's blocks end, in document 01's words: only the innermost block that meets the end of the file reports its missing closer; one
-- control form more than the limit puts the rest of the file in one Error node, and no missing closer is then reported.
-- Assumes nothing: these are definitions.
use Rattle.std.specs.Prelude.{ℕ, Bool, cond, ◌&&◌, ◌||◌, List, [], ◌∷◌, eqb, leb}
use Rattle.grammar.specs.Run.{Kind, Error, BeginBlock, Procedure, Block, IfOp, WhileOp, DoWhileOp, RepeatOp, Forest, nil, node, say, ◌<>◌}
use Rattle.grammar.specs.Message.{missing_end_number, plain_number, NestingTooDeep}
use Rattle.grammar.specs.Block.{BlockOwner}
use Rattle.grammar.specs.Out.{Diag}
use Rattle.grammar.specs.Laws.Good.{Calm}

-- The number of a missing closer, 1 to 7, or of the depth diagnostic, 49.
abbrev pub ending : ℕ → Bool
ending m = (leb 1 m && leb m 7) || eqb (plain_number NestingTooDeep) m

-- ---- By the diagnostics.
-- Those with such a number.
abbrev pub endings : List Diag → List Diag
endings [] = []
endings (d ∷ l) = cond (ending d.msg) (d ∷ endings l) (endings l)

-- In a file of n tokens there is none; or one, and that is a missing closer, at the end of the file; or one, the depth diagnostic.
pub data Endings (n : ℕ) : List Diag → Type 0 where
  no_ending : Endings n []
  missing_closer : (w : BlockOwner) → Endings n (record { msg = missing_end_number w; pos = n } ∷ [])
  past_limit : (i : ℕ) → Endings n (record { msg = plain_number NestingTooDeep; pos = i } ∷ [])

-- ---- By the forest.
-- The node that the owner's blocks stand in.
abbrev pub holder : BlockOwner → Kind
holder BlockOwner.Begin = BeginBlock
holder BlockOwner.Procedure = Procedure
holder BlockOwner.If = IfOp
holder BlockOwner.While = WhileOp
holder BlockOwner.DoWhileBody = DoWhileOp
holder BlockOwner.DoWhile = DoWhileOp
holder BlockOwner.Repeat = RepeatOp

-- A tree that the file ended in: its last block reports its missing closer, behind all that stands in it; or it is the rest of the file,
-- past the depth limit; or its last tree is such a tree. Nothing is reported before or behind.
pub data Unclosed : Forest → Type 0 where
  reports : (w : BlockOwner) (x y : Forest) → Calm ending x → Calm ending y → Unclosed (node (holder w) (x <> node Block (y <> say (missing_end_number w) nil) nil) nil)
  rest_of_file : (x : Forest) → Calm ending x → Unclosed (node Error (say (plain_number NestingTooDeep) x) nil)
  in_last : (k : Kind) (x y : Forest) → Calm ending x → Unclosed y → Unclosed (node k (x <> y) nil)

-- The whole file: nothing is reported; or its last tree is one that the file ended in, and nothing is reported before it.
pub data FileEnd : Forest → Type 0 where
  none_reports : (x : Forest) → Calm ending x → FileEnd x
  unclosed : (x y : Forest) → Calm ending x → Unclosed y → FileEnd (x <> y)
