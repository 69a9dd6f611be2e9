-- At most 2 * limit + 4 nodes are open at any moment: 516 at the limit 256.
-- Assumes nothing.
use Rattle.std.specs.Prelude.{ℕ, suc, ◌+◌, ◌*◌, ◌≤◌, max, ◌≡◌, true, false, List, [], ◌∷◌, ◌++◌, eqb, ltb}
use Rattle.std.proofs.Common.{append_assoc, arith}
use Rattle.grammar.specs.Words.{Sym}
use Rattle.grammar.specs.Run.{Kind, num, Forest, nil, leaf, node, say}
use Rattle.grammar.specs.Item.{parse}
use Rattle.grammar.specs.Out.{kind, ev, events}
use Rattle.grammar.proofs.Laws.High.{height, deep}
use Rattle.grammar.proofs.Laws.Premise.{kind_pos, kind_high, num_node}
use Rattle.grammar.specs.Theorems.FewOpen.{peak}

peak_num : (e n : ℕ) (es : List ℕ) → eqb 0 e ≡ false → ltb e 27 ≡ false → peak n (e ∷ es) ≡ max n (peak n es)
peak_num e n es h k = rw (h, k)

peak_leaf : (s : Sym) (n : ℕ) (es : List ℕ) → peak n (kind s ∷ es) ≡ max n (peak n es)
peak_leaf s n es = peak_num (kind s) n es (kind_pos s) (kind_high s)

peak_open : (e n : ℕ) (es : List ℕ) → eqb 0 e ≡ false → ltb e 27 ≡ true → peak n (e ∷ es) ≡ max n (peak (suc n) es)
peak_open e n es h k = rw (h, k)

peak_node : (k : Kind) (n : ℕ) (es : List ℕ) → peak n (num k ∷ es) ≡ max n (peak (suc n) es)
peak_node k n es = peak_open (num k) n es (num_node k).0 (num_node k).1

peak_of : (n : ℕ) (x : Forest) (es : List ℕ) → peak n (ev x ++ es) ≤ max (n + height x) (peak n es)
peak_of n nil es = omega arith
peak_of n (leaf s x) es = rw (peak_leaf s n (ev x ++ es)) (omega (arith, peak_of n x es))
peak_of n (node k c x) es = rw (peak_node k n ((ev c ++ 0 ∷ ev x) ++ es), append_assoc) (omega (arith, peak_of (suc n) c (0 ∷ (ev x ++ es)), peak_of n x es))
peak_of n (say m x) es = peak_of n x es

pub few_open : (limit : ℕ) (a : List Sym) → peak 0 (events limit a) ≤ 2 * limit + 4
unfolding events
few_open limit a = omega (arith, peak_of 1 (parse limit a) (0 ∷ []), deep limit a)
