-- `marks::mark_source` meets its contract: the lexer's tokens, each with its mark. Assumes nothing.
use mathlib.Core.Path.{◌≡◌}
use Rattle.marks.proofs.Going.{Going}
use Rattle.marks.proofs.mark_source.Given as goal

abbrev pub invariant-loop-token : goal.invariant-loop-token
invariant-loop-token l =
    (goal.iterator-loop-token).can_next l.token-iterator
    × (goal.iterator-loop-token).is_finite l.token-iterator
    × (l.token-iterator.source.now ≡ l.source)
    × (l.token-iterator.offset ≡ l.start)
    × (l.tokens.kinds.ghost_name ≡ l.initial.tokens.kinds.ghost_name)
    × (l.tokens.ends.ghost_name ≡ l.initial.tokens.ends.ghost_name)
    × Going l.source l.fn.kinds l.fn.ends l.tokens l.refusal l.start
