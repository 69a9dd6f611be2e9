-- `blocks::close::block_ending`: each case is a callee. Assumes nothing.
use mathlib.Core.Path.{◌≡◌, refl, sym, subst}
use Rattle.blocks.specs.declared.arm.Closing.{Closing}
use Rattle.blocks.specs.Arms.{block_ending}
use Rattle.blocks.specs.Shapes.{BlockEnding}
use Rattle.grammar.specs.Block.{recover}
use Rattle.grammar.specs.declared.block.BlockOwner.{BlockOwner}
use Rattle.grammar.specs.declared.block.BlockParseOutcome.{BlockParseOutcome}
use Rattle.parser.specs.Rep.{World, RanTo}
use Rattle.parser.proofs.Kit.{done_to, ◌then_to◌}
use Rattle.blocks.proofs.close.block_ending.Goals as goal

by_case : {k k' : Closing} {owner : BlockOwner} {w w' : World} {o : BlockParseOutcome} → k ≡ k' → RanTo (block_ending k' owner) w w' o → w'.c.pos ≡ w.c.pos
    → BlockEnding k owner w w' o
by_case {owner} {w} {w'} {o} e h p = record { ran = subst (λ k. RanTo (block_ending k owner) w w' o) (sym e) h; pos = p }

pub returns-in-Eof : goal.returns-in-Eof
unfolding block_ending recover
returns-in-Eof c =
    by_case c.in-Eof.is (c.error_here-c.ensures.ran then_to done_to BlockParseOutcome.ReachedEof) c.error_here-c.ensures.pos

pub returns-in-Terminator : goal.returns-in-Terminator
unfolding block_ending recover
returns-in-Terminator c = by_case c.in-Terminator.is (done_to BlockParseOutcome.FoundTerminator) refl

pub returns-in-StrayElse : goal.returns-in-StrayElse
unfolding block_ending recover
returns-in-StrayElse c =
    by_case c.in-StrayElse.is (c.recover-c.ensures.ran then_to done_to BlockParseOutcome.RecoveredImplicitEnd) c.recover-c.ensures.pos

pub returns-in-Item : goal.returns-in-Item
unfolding block_ending recover
returns-in-Item c =
    by_case c.in-Item.is (c.recover-c-in-Item.ensures.ran then_to done_to BlockParseOutcome.RecoveredImplicitEnd) c.recover-c-in-Item.ensures.pos
