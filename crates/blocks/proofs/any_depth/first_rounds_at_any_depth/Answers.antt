-- `blocks::any_depth::first_rounds_at_any_depth`: what is read at the lesser depth is read here. Assumes nothing.
use Rattle.blocks.proofs.Depths.{lesser_by, first_read}
use Rattle.blocks.proofs.any_depth.first_rounds_at_any_depth.Goals as goal

pub returns : goal.returns
returns c =
    let at = c.within.ensures in
    first_read c.args.place c.within.result (lesser_by c.args.place c.within.result at.depth at.owner at.terminators) c.first_rounds.result c.first_rounds.ensures
