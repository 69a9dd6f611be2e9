-- `blocks::rounds::first_rounds`: the event, and the rounds. Assumes nothing.
use Rattle.parser.proofs.Kit.{◌farther◌}
use Rattle.blocks.proofs.rounds.first_rounds.Goals as goal

pub returns : goal.returns
returns c =
    record {
      mid = _;
      wrote = c.start_node-c.ensures;
      onward = c.start_node-c.ensures.onward farther c.rounds.ensures.onward;
      rounds = c.rounds.ensures;
    }
