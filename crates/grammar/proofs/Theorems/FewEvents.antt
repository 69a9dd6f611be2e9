-- A file of T tokens has at most 7 * T + 2 events.
-- Assumes nothing.
use Rattle.std.specs.Prelude.{ℕ, ◌+◌, ◌*◌, ◌≤◌, ◌≡◌, refl, List, [], ◌∷◌, length}
use Rattle.std.proofs.Common.{length-append, arith}
use Rattle.grammar.specs.Words.{Sym}
use Rattle.grammar.specs.Run.{Forest, nil, leaf, node, say}
use Rattle.grammar.specs.Item.{parse}
use Rattle.grammar.specs.Out.{ev, events}
use Rattle.grammar.proofs.Laws.Cost.{weigh}
use Rattle.grammar.proofs.Laws.EventCost.{events_price, seven}

weigh_ev : (x : Forest) → length (ev x) ≡ weigh events_price x
weigh_ev nil = refl
weigh_ev (leaf s x) = omega (arith, weigh_ev x)
weigh_ev (node k c x) = omega (arith, length-append (ev c) (0 ∷ ev x), weigh_ev c, weigh_ev x)
weigh_ev (say m x) = omega (arith, weigh_ev x)

pub few_events : (limit : ℕ) (a : List Sym) → length (events limit a) ≤ 7 * length a + 2
unfolding events
few_events limit a = omega (arith, length-append (ev (parse limit a)) (0 ∷ []), weigh_ev (parse limit a), seven limit a)
