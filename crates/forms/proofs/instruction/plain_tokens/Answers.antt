-- `forms::instruction::plain_tokens`: each round is one of `scan`'s that takes the token and leaves the counts. Assumes nothing.
use mathlib.Core.Bool.{Bool, true}
use mathlib.Core.Path.{◌≡◌, refl, sym, ap, subst, ◌∙◌}
use Rattle.std.specs.Prelude.{Some}
use Prim.Native.Nat.{ℕ}
use native.Mathlib.Omega.{arith}
use Rattle.grammar.specs.Instruction.{instruction_round}
use Rattle.grammar.specs.Out.{kind}
use Rattle.parser.specs.Sets.{bit}
use Rattle.parser.proofs.Kit.{stays, ◌farther◌, scan_go}
use Rattle.parser.proofs.Laws.{at_some, at_within, current_in}
use Rattle.forms.proofs.Plain.{open_own, not_error, plain_here, plain_round}
use Rattle.forms.specs.Instruction.{behind, open_behind, plain_kinds}
use Rattle.forms.proofs.instruction.plain_tokens.Goals as goal

-- the token's bit, as the loop looks it up
opens : {x : Bool} {mask m : ℕ} (k : ℕ) → mask ≡ m → x ≡ bit mask k → x ≡ true → bit m k ≡ true
opens k e t h = subst (λ i. bit i k ≡ true) e (sym t ∙ h)

pub loop-c-init : goal.loop-c-init
unfolding open_behind
loop-c-init c = (record { leads = λ w' l h. h; onward = stays; messages = refl; starts = refl }, refl)

pub returns-then-not-in_set : goal.returns-then-not-in_set
returns-then-not-in_set c = c.loop-c.invariant.0

pub bump_plain-c-requires : goal.bump_plain-c-requires
bump_plain-c-requires c =
    let b = opens _ c.loop-c.invariant.1 c.in_set.ensures c.if-not-in_set.false in
    let h = at_within c.loop-c.parser.kinds.now c.loop-c.c.pos (bit plain_kinds) refl (plain_here c.loop-c.previous _ c.current-k.ensures b) in
    let k = c.current-k.ensures ∙ sym (current_in _ _ h) in
    record {
      within = h;
      no_error = λ e. not_error c.loop-c.previous c.current-k.result b (k ∙ e);
      event = open_own c.loop-c.previous c.current-k.result b ∙ ap kind k;
    }

pub loop-c-smaller : goal.loop-c-smaller
loop-c-smaller c =
    let b = opens _ c.loop-c.invariant.1 c.in_set.ensures c.if-not-in_set.false in
    let h = at_within c.loop-c.parser.kinds.now c.loop-c.c.pos (bit plain_kinds) refl (plain_here c.loop-c.previous _ c.current-k.ensures b) in
    omega (arith, h, c.bump_plain-c.ensures.bumped.moved h)

pub loop-c-preserved : goal.loop-c-preserved
loop-c-preserved c =
    let i = c.loop-c.invariant in
    let b = opens _ i.1 c.in_set.ensures c.if-not-in_set.false in
    let z = at_some (bit plain_kinds) _ (plain_here c.loop-c.previous _ c.current-k.ensures b) in
    let e = plain_round c.loop-c.previous _ c.current-k.result c.current-k.ensures b in
    let p = c.bump_plain-c.ensures in (
      record {
        leads = λ w' l k. i.0.leads w' l
            (scan_go instruction_round (behind c.loop-c.previous) (behind (Some c.current-k.result)) z e p.bumped.ran k);
        onward = i.0.onward farther p.bumped.ran.onward;
        messages = p.messages ∙ i.0.messages;
        starts = p.starts ∙ i.0.starts;
      },
      c.open_behind-mask.ensures,
    )
