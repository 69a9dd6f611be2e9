-- `items::procedure::parse_procedure`: its node, with and without a body. Assumes nothing.
use mathlib.Core.Bool.{Bool, true, not}
use Prim.Native.Nat.{ℕ}
use Rattle.grammar.specs.Block.{parse_block}
use Rattle.grammar.specs.Bump.{nop}
use Rattle.grammar.specs.Item.{procedure_body, parse_procedure}
use Rattle.grammar.specs.Run.{pick, P}
use Rattle.parser.specs.Ahead.{declared}
use Rattle.declarations.proofs.Steps.{five, steps}
use Rattle.parser.proofs.Kit.{on, off, node, done, bind}
use Rattle.items.proofs.procedure.parse_procedure.Goals as goal

-- behind what leads up to `proc`
abbrev behind : ℕ → Bool → P Bool
behind limit declared = pick (not declared) nop (procedure_body (parse_block limit))

pub returns-then-not-b : goal.returns-then-not-b
unfolding parse_procedure
returns-then-not-b c =
    node _ c.start_node-a.ensures (steps (five _ _ _ _ _ _) (bind (behind c.args.limit.forms) c.procedure_lead-b.ensures (on _ c.if-not-b.true (done true)))) c.finish_node.ensures

pub returns : goal.returns
unfolding parse_procedure
returns c =
    node _ c.start_node-a.ensures (steps (five _ _ _ _ _ _) (bind (behind c.args.limit.forms) c.procedure_lead-b.ensures (off _ c.if-not-b.false c.procedure_body-d.ensures))) c.finish_node-2.ensures
