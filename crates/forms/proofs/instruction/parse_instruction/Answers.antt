-- `forms::instruction::parse_instruction`: the steps of its callees. Assumes nothing.
use Rattle.grammar.specs.Instruction.{parse_instruction}
use Rattle.parser.proofs.Kit.{node}
use Rattle.forms.proofs.instruction.parse_instruction.Goals as goal

pub returns : goal.returns
unfolding parse_instruction
returns c =
    node _ c.start_node-a.ensures c.instruction_tokens-b.ensures c.finish_node.ensures
