-- The leaves of the tree, in order, are the tokens of the file, each once.
-- Assumes nothing.
use Rattle.std.specs.Prelude.{ℕ, suc, ◌≡◌, List, length}
use Rattle.std.proofs.Common.{arith}
use Rattle.grammar.specs.Words.{Sym}
use Rattle.grammar.specs.Run.{leaves}
use Rattle.grammar.specs.Item.{items_in, parse}
use Rattle.grammar.proofs.Laws.Join.{items_leaves}

pub all_tokens : (limit : ℕ) (a : List Sym) → leaves (parse limit a) ≡ a
unfolding parse items_in
all_tokens limit a = items_leaves (suc (length a)) limit a (omega arith)
