-- `blocks::rounds::rounds`: its loop, round by round. Assumes nothing.
use mathlib.Core.Path.{ap, ◌∙◌}
use native.Mathlib.Omega.{arith}
use Rattle.grammar.specs.Look.{at_top_level_form_starter_in_block}
use Rattle.blocks.specs.declared.arm.BlockArm.{BlockArm}
use Rattle.blocks.specs.declared.arm.Closing.{Closing}
use Rattle.blocks.specs.Arms.{by_block_arm}
use Rattle.blocks.specs.Shapes.{any_place}
use Rattle.blocks.proofs.Laws.{meant, takes, round, absorbs, no_item, from_here}
use Rattle.parser.proofs.Ahead.{remembers_later}
use Rattle.parser.proofs.Kit.{same_file, same_remaining, ◌farther◌, ◌then_to◌, goes_on}
use Rattle.parser.proofs.Laws.{past_here}
use Rattle.blocks.proofs.rounds.rounds.Goals as goal

pub loop-t-smaller : goal.loop-t-smaller
loop-t-smaller c =
    let moved = past_here c.take-d.ensures (takes _ _ (meant c.args.place.terminators _ (BlockArm.Takes _) c.block_arm_here.ensures.arm c.in-Takes.is)) in
    omega (arith, moved, c.bump_regular_trivia-c.ensures.onward)

pub loop-t-preserved : goal.loop-t-preserved
unfolding by_block_arm
loop-t-preserved c =
    let i = c.loop-t.invariant.0 in
    let t = c.take-d in
    let v = c.bump_regular_trivia-c in
    let p = any_place c.args.place in (
      goes_on i (λ w' r k.
          round p (BlockArm.Takes _) c.block_arm_here.ensures.arm c.in-Takes.is
          (t.ensures then_to absorbs p.depth.limit.forms p.owner p.terminators p.depth.forms v.ensures k)),
      c.loop-t.invariant.1 farther t.ensures.onward farther v.ensures.onward,
      remembers_later _ (same_file (t.ensures.onward farther v.ensures.onward)) (omega (arith, t.ensures.onward, v.ensures.onward)) c.block_arm_here.ensures.known,
      no_item,
    )

pub returns-in-Closes : goal.returns-in-Closes
unfolding by_block_arm
returns-in-Closes c =
    let told = c.in-Closes.is in
    record {
      onward = c.loop-t.invariant.1 farther c.close.ensures.onward;
      there = record {
        mid = _;
        ran = c.loop-t.invariant.0.on _ _ (round (any_place c.args.place) (BlockArm.Closes _) c.block_arm_here.ensures.arm told c.close.ensures.ran);
        wrote = c.close.ensures.wrote;
        here = record {
          starts = λ i. ap at_top_level_form_starter_in_block (same_remaining c.close.ensures.onward c.close.ensures.pos)
              ∙ meant c.args.place.terminators _ (BlockArm.Closes Closing.Item) c.block_arm_here.ensures.arm (told ∙ ap BlockArm.Closes (c.close.ensures.at_item i));
        };
      };
    }

pub returns-in-Control : goal.returns-in-Control
returns-in-Control c = from_here _ c.loop-t.invariant.0 c.loop-t.invariant.1 c.form_here.ensures
