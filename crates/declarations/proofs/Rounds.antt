-- What a round of the loop over a type's body decides, by the test that the code makes. Assumes nothing.
use mathlib.Core.Bool.{true, false, cond}
use mathlib.Core.List.{List}
use mathlib.Core.Path.{◌≡◌, ap}
use Rattle.grammar.specs.Words.{Sym}
use Rattle.grammar.specs.Look.{current}
use Rattle.grammar.specs.Run.{Round, stop}
use Rattle.grammar.specs.Nesting.{bump_nesting}
use Rattle.grammar.specs.Line.{type_round}
use Rattle.grammar.specs.declared.nesting.Nesting.{Nesting}
use Rattle.declarations.specs.Parts.{type_ends}

module _ (n : Nesting) (r : List Sym) where
  abbrev goes : Round Nesting
  goes = bump_nesting n (current r) (λ m. m)

  pub type_stops : type_ends n r ≡ true → type_round n r ≡ stop
  unfolding type_round type_ends
  type_stops e = ap (λ t. cond t stop goes) e

  pub type_counts : type_ends n r ≡ false → type_round n r ≡ goes
  unfolding type_round type_ends
  type_counts e = ap (λ t. cond t stop goes) e
