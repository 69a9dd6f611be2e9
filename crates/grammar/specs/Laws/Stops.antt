-- A block that found its terminator is at it.
-- Assumes nothing.
use Rattle.std.specs.Prelude.{ℕ, zero, suc, Bool, length}
use Rattle.std.proofs.Math.Path.{◌≡◌}
use Rattle.std.proofs.Math.Bool.{true, false}
use mathlib.Core.List.{List}
use Rattle.std.proofs.Common.{arith}
use Rattle.grammar.specs.Words.{Sym}
use Rattle.grammar.specs.Look.{at_terminator}
use Rattle.grammar.specs.Run.{Kind, P, pure, peek, in_node, pick, ◌>>=◌, when◌then◌else◌}
use Rattle.grammar.specs.Laws.Here.{both_branches}
use Rattle.grammar.specs.Block.{BlockOwner, Terminators, BlockParseOutcome, Blocks, recover, block_round, block_loop, block_in, parse_block}

pub record Stops (t : Terminators) (f : P BlockParseOutcome) : Type 0 where
  pub stops : (r : List Sym) → (f r).val ≡ BlockParseOutcome.FoundTerminator → at_terminator t (f r).rest ≡ true

module _ {t : Terminators} where
  pub stops_node : {f : P BlockParseOutcome} (k : Kind) → Stops t f → Stops t (in_node k f)
  unfolding in_node
  stops_node k S = record { stops = S.stops }

  pub stops_bind : {A : Type 0} (f : P A) {g : A → P BlockParseOutcome} → ((a : A) → Stops t (g a)) → Stops t (f >>= g)
  unfolding ◌>>=◌
  stops_bind f {g} G = record { stops = λ r e. (G (f r).val).stops (f r).rest e }

  stops_pick : (u : Bool) {f g : P BlockParseOutcome} → Stops t f → Stops t g → Stops t (pick u f g)
  stops_pick true F G = F
  stops_pick false F G = G

  stops_found : {g : P BlockParseOutcome} → Stops t g → Stops t (when at_terminator t then pure BlockParseOutcome.FoundTerminator else g)
  unfolding ◌>>=◌ peek pure
  stops_found G = record { stops = λ r. both_branches (λ x. x.val ≡ BlockParseOutcome.FoundTerminator → at_terminator t x.rest ≡ true) (at_terminator t r) _ _ (λ i e. i) (λ i. G.stops r) }

  -- No other outcome is FoundTerminator.
  stops_eof : Stops t (pure BlockParseOutcome.ReachedEof)
  unfolding pure
  stops_eof = record { stops = λ r e. grind (arith, e) }

  stops_recovered : Stops t (pure BlockParseOutcome.RecoveredImplicitEnd)
  unfolding pure
  stops_recovered = record { stops = λ r e. grind (arith, e) }

stops_round : {again : Blocks} → ((w : BlockOwner) (t : Terminators) (d : ℕ) → Stops t (again w t d)) → (lim : ℕ) (w : BlockOwner) (t : Terminators) (d : ℕ) → Stops t (block_round again lim w t d)
unfolding block_round recover
stops_round h lim w t d = search (stops_eof, stops_recovered, stops_found, stops_pick, stops_bind, h) depth 40 fits 5000

pub stops_loop : (n lim : ℕ) (w : BlockOwner) (t : Terminators) (d : ℕ) → Stops t (block_loop n lim w t d)
unfolding block_loop
stops_loop zero lim w t d = stops_bind _ (λ a. stops_eof)
stops_loop (suc n) lim w t d = stops_round (stops_loop n lim) lim w t d

pub stops_block : (lim : ℕ) (w : BlockOwner) (t : Terminators) (d : ℕ) → Stops t (parse_block lim w t d)
unfolding parse_block block_in
stops_block lim w t d = stops_node _ (record { stops = λ r e. (stops_loop (suc (length r)) lim w t d).stops r e })
