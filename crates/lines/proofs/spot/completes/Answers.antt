-- `lines::spot::completes` meets its contract. Assumes nothing.
use Rattle.lines.proofs.Spots.{behind_cr}
use Rattle.lines.proofs.spot.completes.Goals as goal

pub returns-else-n-source : goal.returns-else-n-source
returns-else-n-source c = behind_cr c.args.source.now c.args.n c.in-13.is
