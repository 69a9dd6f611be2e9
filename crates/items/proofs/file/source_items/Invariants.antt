-- `items::file::source_items`: the items' loop without fuel; each round takes a token. Assumes nothing.
use Prim.Native.Nat.{◌-◌}
use lib.ListN.{length}
use Rattle.grammar.specs.Item.{items_in}
use Rattle.parser.specs.Rep.{world}
use Rattle.parser.proofs.Kit.{Leads}
use Rattle.items.proofs.file.source_items.Given as goal

abbrev pub invariant-loop-limit : goal.invariant-loop-limit
invariant-loop-limit l = Leads (items_in l.limit.forms) (world l.initial.parser l.initial.c) (items_in l.limit.forms) (world l.parser l.c)

abbrev pub decreases-loop-limit : goal.decreases-loop-limit
decreases-loop-limit l = length l.parser.kinds.now - l.c.pos
