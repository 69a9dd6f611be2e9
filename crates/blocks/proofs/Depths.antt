-- Where no form may stand any more, it does not matter how many stand around: a block is read as at the limit. Assumes nothing.
use mathlib.Core.Bool.{Bool, true, false}
use mathlib.Core.Path.{◌≡◌, refl, sym, ap, subst, ◌∙◌, fun_ext}
use Prim.Native.Nat.{ℕ, zero, suc}
use native.Mathlib.Omega.{arith}
use borrow.Author.Tests.{le-leb, leb-true, leb-false}
use lib.ListN.{length}
use Rattle.std.specs.Prelude.{leb, min}
use Rattle.std.proofs.Math.Nat.{min-eq_left, min-eq_right}
use Rattle.grammar.specs.Run.{P, Block, in_node, pick, ◌>>◌}
use Rattle.grammar.specs.Block.{Blocks, block_loop, block_in, parse_block}
use Rattle.grammar.specs.declared.block.BlockOwner.{BlockOwner}
use Rattle.grammar.specs.declared.block.Terminators.{Terminators}
use Rattle.grammar.specs.declared.block.BlockParseOutcome.{BlockParseOutcome}
use Rattle.parser.specs.Rep.{World, RanTo}
use Rattle.blocks.specs.declared.arm.BlockArm.{BlockArm}
use Rattle.blocks.specs.declared.close.BlockEnd.{BlockEnd}
use Rattle.blocks.specs.declared.any_depth.AnyPlace.{AnyPlace}
use Rattle.blocks.specs.declared.place.BlockPlace.{BlockPlace}
use Rattle.blocks.specs.declared.rounds.Stopped.{Stopped}
use Rattle.blocks.specs.Arms.{block_arm, by_block_arm, taking, round_is}
use Rattle.blocks.specs.Shapes.{any_place, rest_at_any, AnyBlockRounds, AnyFirstRounds, AnyParseBlock, BlockRounds, FirstRounds, ParseBlock}

picks : {A : Type 0} (f g : P A) {b : Bool} → b ≡ true → pick b f g ≡ f
picks f g e = ap (λ b. pick b f g) e

-- two depths at which the next form is rejected
module _ (limit d e : ℕ) (x : leb limit d ≡ true) (y : leb limit e ≡ true) where
  by_arm : (a : BlockArm) (again : Blocks) (o : BlockOwner) (t : Terminators) → again o t d ≡ again o t e → by_block_arm a again limit o t d ≡ by_block_arm a again limit o t e
  unfolding by_block_arm
  by_arm (BlockArm.Takes k) again o t h = ap (λ f. taking k >> f) h
  by_arm (BlockArm.Closes k) again o t h = refl
  by_arm BlockArm.Control again o t h = picks _ _ x ∙ sym (picks _ _ y)

  loops : (n : ℕ) (o : BlockOwner) (t : Terminators) → block_loop n limit o t d ≡ block_loop n limit o t e
  unfolding block_loop
  loops zero o t = refl
  loops (suc n) o t = fun_ext λ r.
      round_is (block_loop n limit) limit o t d r
      ∙ ap (λ f. f r) (by_arm (block_arm t r) (block_loop n limit) o t (loops n o t))
      ∙ sym (round_is (block_loop n limit) limit o t e r)

  read_alike : (o : BlockOwner) (t : Terminators) → block_in limit o t d ≡ block_in limit o t e
  unfolding block_in
  read_alike o t = fun_ext λ r. ap (λ f. f r) (loops (suc (length r)) o t)

-- the depth, or the limit where that is less
within_by : (limit d : ℕ) (b : Bool) (o : BlockOwner) (t : Terminators) → leb limit d ≡ b → block_in limit o t (min d limit) ≡ block_in limit o t d
within_by limit d true o t h =
    let z : min d limit ≡ limit = min-eq_right (leb-true limit d h) in
    read_alike limit (min d limit) d (ap (leb limit) z ∙ le-leb limit limit (omega arith)) h o t
within_by limit d false o t h = ap (block_in limit o t) (min-eq_left (omega (arith, leb-false limit d h)))

-- this place, at the lesser of its depth and the limit
abbrev pub lesser : AnyPlace → AnyPlace
lesser p = record { depth = record { forms = min p.depth.forms p.depth.limit.forms; limit = p.depth.limit }; owner = p.owner; terminators = p.terminators }

-- what the code makes of this place
pub lesser_by : (p : AnyPlace) (q : BlockPlace) → (q.depth.forms ≡ min p.depth.forms p.depth.limit.forms) × (q.depth.limit ≡ p.depth.limit) → q.owner ≡ p.owner → q.terminators ≡ p.terminators
    → any_place q ≡ lesser p
lesser_by p q d o t = λ i. record { depth = record { forms = d.0 i; limit = d.1 i }; owner = o i; terminators = t i }

-- A block is read there as it is here.
pub rest_there : (p : AnyPlace) → rest_at_any (lesser p) ≡ rest_at_any p
rest_there p = within_by p.depth.limit.forms p.depth.forms (leb p.depth.limit.forms p.depth.forms) p.owner p.terminators refl

module _ (p : AnyPlace) {w : World} where
  ran_there : {v : World} {r : BlockParseOutcome} → RanTo (rest_at_any (lesser p)) w v r → RanTo (rest_at_any p) w v r
  ran_there {v} {r} h = subst (λ f. RanTo f w v r) (rest_there p) h

  ran_here : {v : World} {r : BlockParseOutcome} → RanTo (rest_at_any p) w v r → RanTo (rest_at_any (lesser p)) w v r
  ran_here {v} {r} h = subst (λ f. RanTo f w v r) (sym (rest_there p)) h

rounds_there : (p : AnyPlace) {w w' : World} (s : Stopped) → AnyBlockRounds (lesser p) w w' s → AnyBlockRounds p w w' s
rounds_there p (Stopped.Form c) h = record {
  onward = h.onward;
  there = record { on = λ v r k. ran_there p (h.there.on v r (ran_here p k)); arm = h.there.arm; below = omega (arith, h.there.below) };
}
rounds_there p (Stopped.Closed e) h = record {
  onward = h.onward;
  there = record { mid = h.there.mid; ran = ran_there p h.there.ran; wrote = h.there.wrote; here = h.there.here };
}

-- What was read at a place that is this one at the lesser depth was read here.
module _ (p : AnyPlace) (q : BlockPlace) (e : any_place q ≡ lesser p) {w w' : World} where
  pub next_read : (s : Stopped) → BlockRounds q w w' s → AnyBlockRounds p w w' s
  next_read s h = rounds_there p s (subst (λ q. AnyBlockRounds q w w' s) e h)

  pub first_read : (s : Stopped) → FirstRounds q w w' s → AnyFirstRounds p w w' s
  first_read s h = record { mid = h.mid; wrote = h.wrote; onward = h.onward; rounds = rounds_there p s (subst (λ q. AnyBlockRounds q h.mid w' s) e h.rounds) }

  pub block_read : (b : BlockEnd) → ParseBlock q w w' b → AnyParseBlock p w w' b
  unfolding parse_block
  block_read b h = record { ran = subst (λ f. RanTo (in_node Block f) w w' b.outcome) (ap rest_at_any e ∙ rest_there p) h.ran; here = h.here }
