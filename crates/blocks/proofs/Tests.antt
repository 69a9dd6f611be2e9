-- What the tests of a round say of the token here, by the number that `current` gave. Assumes nothing.
use mathlib.Core.Bool.{Bool, true, false}
use mathlib.Core.List.{List}
use mathlib.Core.Path.{◌≡◌, refl}
use Rattle.grammar.specs.Words.{Sym}
use Rattle.grammar.specs.Look.{one_of, eof, current, regular_trivia, at_regular_trivia}
use Rattle.parser.proofs.Ahead.{at_here, at_not}
use Rattle.parser.proofs.Laws.{at_by, at_some}
use Rattle.forms.proofs.At.{starts, controls}
use Rattle.blocks.proofs.Laws.{trivia_no_end, ident_arm, plain_starter}

module _ {x : Bool} {k : Sym} (r : List Sym) where
  pub trivia : x ≡ regular_trivia k → k ≡ current r → x ≡ at_regular_trivia r
  unfolding one_of
  trivia e c = at_by regular_trivia r refl e c

module _ (r : List Sym) where
  pub trivia_some : at_regular_trivia r ≡ true → eof r ≡ false
  trivia_some e = at_some regular_trivia r e

pub ruleset inner = (controls, starts, at_here, at_not, plain_starter)

pub ruleset outer = (trivia, trivia_some, trivia_no_end, ident_arm)
