-- A loop of rounds, each of which takes a token where there is another. Assumes nothing.
use mathlib.Core.Bool.{Bool, true, false}
use Rattle.grammar.specs.Run.{P, pure, pick, ◌>>=◌, loop}
use Rattle.grammar.specs.Laws.Live.{Truly}
use Rattle.grammar.specs.Laws.Loops.{loop_eq}
-- for the rounds of the code
pub use Rattle.grammar.specs.Laws.LiveLine.{truly_path_round, truly_suffix_round}
pub use Rattle.grammar.proofs.Laws.LiveItem.{truly_attribute_round}
use Rattle.parser.specs.Rep.{Past, World, RanTo}
use Rattle.parser.proofs.Kit.{like_to, done_to, bind_to}
use Rattle.parser.proofs.Laws.{past_here}

abbrev further : P Bool → Bool → P Bool
further f u = pick u (loop f) (pure false)

module _ {f : P Bool} (t : Truly f) {w v : World} where
  pub round_last : RanTo f w v false → RanTo (loop f) w v false
  round_last h = like_to (f >>= further f) (loop_eq f t.truly _) (bind_to (further f) h (done_to false))

  pub round_more : RanTo f w v true → (w' : World) (r : Bool) → RanTo (loop f) v w' r → RanTo (loop f) w w' r
  round_more h w' r k = like_to (f >>= further f) (loop_eq f t.truly _) (bind_to (further f) h k)

  pub round_moves : RanTo f w v true → Past w v
  round_moves h = past_here h.ran (t.truly _ h.val)
