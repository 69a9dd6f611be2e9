-- `blocks::close::recover`: the steps of its callees. Assumes nothing.
use mathlib.Core.Path.{◌∙◌}
use Rattle.parser.proofs.Kit.{node}
use Rattle.blocks.proofs.close.recover.Goals as goal

pub returns : goal.returns
returns c =
    record {
      ran = node _ c.start_node-a.ensures c.error_here-b.ensures.ran c.finish_node.ensures;
      pos = c.finish_node.ensures.pos ∙ c.error_here-b.ensures.pos ∙ c.start_node-a.ensures.pos;
    }
