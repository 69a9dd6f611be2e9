-- `lexer::lexer::tokenize` meets its contract: for each token its kind is written. Assumes nothing.
use mathlib.Core.Path.{◌≡◌}
use Rattle.lexer.specs.Tokens.{token_kind}
use Rattle.lexer.proofs.Going.{Writing}
use Rattle.lexer.proofs.lexer.tokenize.Given as goal

abbrev pub invariant-loop-token : goal.invariant-loop-token
invariant-loop-token l =
    (goal.iterator-loop-token).can_next l.token-iterator
    × (goal.iterator-loop-token).is_finite l.token-iterator
    × (l.token-iterator.source.now ≡ l.source)
    × (l.tokens.kinds.ghost_name ≡ l.initial.tokens.kinds.ghost_name)
    × (l.tokens.ends.ghost_name ≡ l.initial.tokens.ends.ghost_name)
    × Writing token_kind l.source l.fn.kinds l.fn.ends l.tokens l.token-iterator.offset
