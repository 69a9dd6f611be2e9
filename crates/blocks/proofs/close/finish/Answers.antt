-- `blocks::close::finish`: the form's `end` where its block was closed, and the closing event. Assumes nothing.
use mathlib.Core.Bool.{not}
use mathlib.Core.Path.{ap}
use Rattle.blocks.proofs.Laws.{finished}
use Rattle.blocks.proofs.close.finish.Goals as goal

pub returns-then-b : goal.returns-then-b
returns-then-b c =
    finished c.args.b.outcome c.requires c.closing-c.ensures c.finish_node.ensures c.reached_eof.ensures
    (rw c.if-b.true (ap not c.found_terminator.ensures))

pub returns-else-b : goal.returns-else-b
returns-else-b c =
    finished c.args.b.outcome c.requires c.closing-c.ensures c.finish_node.ensures c.reached_eof.ensures (rw c.if-b.false)
