-- Every round of the item loop takes at least one token. No loop runs out of fuel and no unreached message is said: each diagnostic has a
-- number from 1 to 53.
-- Assumes nothing.
use Rattle.std.specs.Prelude.{ℕ, suc, ◌+◌, ◌≤◌, ◌<◌, ◌≡◌, refl, Bool, true, false, List, [], ◌∷◌, ◌++◌, length}
use Rattle.std.proofs.lemmas.Bool.Decides.{nat_tests}
use Rattle.std.proofs.Common.{arith}
use Rattle.lexer.specs.Syntax
use Rattle.grammar.specs.Words.{Sym, is}
use Rattle.grammar.specs.Run.{Forest, nil, leaf, node, say, leaves}
use Rattle.grammar.specs.Message.{number}
use Rattle.grammar.specs.Block.{parse_block}
use Rattle.grammar.specs.Item.{parse_source_item, items_in, parse}
use Rattle.grammar.specs.Out.{Diag, noted, dg, diags}
use Rattle.grammar.specs.Laws.Good.{Calm}
use Rattle.grammar.specs.Laws.Numbers.{no_message}
use Rattle.grammar.specs.Laws.Live.{some}
use Rattle.grammar.proofs.Laws.LiveBlock.{live_block}
use Rattle.grammar.proofs.Laws.LiveItem.{eats_item, live_items}
use Rattle.grammar.specs.Theorems.Rounds.{AllNumbered}

pub round_takes : (limit : ℕ) (s : Sym) (r : List Sym) → length (parse_source_item (parse_block limit) (s ∷ r)).rest < length (s ∷ r)
unfolding some
round_takes limit s r = (eats_item {n = 0} (live_block limit)).eats (s ∷ r) refl

numbered_app : (l m : List Diag) → AllNumbered l → AllNumbered m → AllNumbered (l ++ m)
numbered_app [] m h k = k
numbered_app (d ∷ l) m h k = (h.0, h.1, numbered_app l m h.2 k)

numbered_noted : (u : Bool) (i : ℕ) (l : List Diag) → AllNumbered l → AllNumbered (noted u i l)
unfolding number
numbered_noted true i l h = (omega arith, omega arith, h)
numbered_noted false i l h = h

in_range : (m : ℕ) → no_message m ≡ false → (1 ≤ m) × (m ≤ 53)
in_range m e = (grind (arith, nat_tests, e), grind (arith, nat_tests, e))

calm_numbered : (i : ℕ) (x : Forest) → Calm no_message x → AllNumbered (dg i x)
calm_numbered i nil k = tt
calm_numbered i (leaf s x) k = numbered_noted (is Syntax.Error s) i (dg (suc i) x) (calm_numbered (suc i) x k)
calm_numbered i (node n c x) k = numbered_app (dg i c) (dg (i + length (leaves c)) x) (calm_numbered i c k.0) (calm_numbered (i + length (leaves c)) x k.1)
calm_numbered i (say m x) k = let h = in_range m k.0 in (h.0, h.1, calm_numbered i x k.1)

pub all_numbered : (limit : ℕ) (a : List Sym) → AllNumbered (diags limit a)
unfolding diags parse items_in
all_numbered limit a = calm_numbered 0 (parse limit a) ((live_items (suc (length a)) limit).calm a refl (omega arith))
