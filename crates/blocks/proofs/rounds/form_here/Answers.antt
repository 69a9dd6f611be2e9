-- `blocks::rounds::form_here`: rejected past the limit, or as it is. Assumes nothing.
use mathlib.Core.Path.{refl, sym}
use native.Mathlib.Omega.{arith}
use borrow.Author.Tests.{le-leb}
use Rattle.blocks.specs.declared.arm.BlockArm.{BlockArm}
use Rattle.blocks.specs.Arms.{by_block_arm}
use Rattle.blocks.specs.Shapes.{any_place}
use Rattle.blocks.proofs.Laws.{round, said_no_item, gives}
use Rattle.parser.proofs.Kit.{stays, ◌farther◌, on_to, ◌then_to◌}
use Rattle.blocks.proofs.rounds.form_here.Goals as goal

pub returns-then-place : goal.returns-then-place
unfolding by_block_arm
returns-then-place c =
    let p = any_place c.args.place in
    let rejected = c.reject_excessive_control_flow_nesting-d.ensures in
    record {
      onward = rejected.onward farther c.ended_file.ensures.wrote.onward;
      there = record {
        mid = _;
        ran = round p BlockArm.Control (sym c.requires) refl (on_to _ (le-leb p.depth.limit.forms p.depth.forms (omega arith)) (rejected then_to gives c.ended_file.ensures.outcome));
        wrote = c.ended_file.ensures.wrote;
        here = said_no_item c.ended_file.ensures.item;
      };
    }

-- At a form below the limit nothing was done.
pub returns : goal.returns
returns c =
    record {
      onward = stays;
      there = record { on = λ v r h. h; arm = c.requires; below = omega arith };
    }
