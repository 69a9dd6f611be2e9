-- `blocks::any_depth::parse_block_at_any_depth`: what is read at the lesser depth is read here. Assumes nothing.
use mathlib.Core.Path.{refl}
use Rattle.blocks.specs.Shapes.{any_block_place, block_place}
use Rattle.blocks.proofs.Depths.{lesser_by, block_read}
use Rattle.blocks.proofs.any_depth.parse_block_at_any_depth.Goals as goal

pub returns : goal.returns
returns c =
    let here = any_block_place c.args.owner c.args.terminators c.args.depth in
    let there = block_place c.args.owner c.args.terminators c.within.result in
    block_read here there (lesser_by here there c.within.ensures refl refl) c.parse_block.result c.parse_block.ensures
