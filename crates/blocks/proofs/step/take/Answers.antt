-- `blocks::step::take`: an instruction's answer is not asked. Assumes nothing.
use Rattle.blocks.specs.Arms.{taking}
use Rattle.blocks.proofs.Laws.{silently, took}
use Rattle.blocks.proofs.step.take.Goals as goal

pub returns-in-Instruction : goal.returns-in-Instruction
unfolding taking
returns-in-Instruction c = took c.in-Instruction.is (silently c.parse_instruction.ensures)
