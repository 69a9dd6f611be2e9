-- `blocks::close::close`: what ends the loop, and the closing event. Assumes nothing.
use mathlib.Core.Bool.{true, false≢true}
use mathlib.Core.Path.{◌≡◌, ◌∙◌}
use Rattle.blocks.specs.declared.arm.Closing.{Closing}
use Rattle.blocks.specs.declared.close.BlockEnd.{BlockEnd}
use Rattle.blocks.specs.Shapes.{BlockEnding, Close}
use Rattle.grammar.specs.declared.block.BlockOwner.{BlockOwner}
use Rattle.parser.specs.Rep.{World, Wrote}
use Rattle.parser.proofs.Kit.{◌farther◌}
use Rattle.blocks.proofs.close.close.Goals as goal

closed : {k : Closing} {owner : BlockOwner} {w u w' : World} {e : BlockEnd} → BlockEnding k owner w u e.outcome → Wrote 0 u w' → (e.item ≡ true → k ≡ Closing.Item)
    → Close k owner w w' e
closed {u} b p i = record { mid = u; ran = b.ran; wrote = p; onward = b.ran.ran.onward farther p.onward; pos = p.pos ∙ b.pos; at_item = i }

pub returns-in-Item : goal.returns-in-Item
returns-in-Item c = closed c.block_ending-outcome.ensures c.finish_node.ensures (λ h. c.in-Item.is)

pub returns-in_default : goal.returns-in_default
returns-in_default c = closed c.block_ending-outcome.ensures c.finish_node.ensures (λ h. absurd (false≢true h))
