-- `places::places` meets its contract. Assumes nothing.
use Rattle.places.proofs.Going.{goes_on, ended}
use Rattle.places.proofs.places.Goals as goal

pub loop-i-preserved : goal.loop-i-preserved
loop-i-preserved c = goes_on c.loop-i.invariant c.loop-i-test.true _ _ c.start_of.ensures c.stop_of.ensures

pub returns : goal.returns
returns c = ended c.loop-i.invariant c.min-n.ensures c.loop-i-test.false
