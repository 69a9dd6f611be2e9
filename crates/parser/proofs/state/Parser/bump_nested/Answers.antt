-- `parser::state::Parser::bump_nested`: the token's counts, and the token. Assumes nothing.
use mathlib.Core.Path.{refl}
use native.Mathlib.Omega.{arith}
use Rattle.parser.proofs.Counts.{below_le, counted_taken}
use Rattle.parser.proofs.Laws.{eof_within}
use Rattle.parser.proofs.state.Parser.bump_nested.Goals as goal

pub bump_nesting-b-requires : goal.bump_nesting-b-requires
bump_nesting-b-requires c =
    let h = eof_within c.args.self.now.kinds.now c.args.at.c.pos refl c.requires.token in
    below_le (omega (arith, h)) c.requires.below

pub returns : goal.returns
returns c = counted_taken c.current-k.ensures c.requires.token c.requires.below c.bump_nesting-b.ensures c.bump.ensures
