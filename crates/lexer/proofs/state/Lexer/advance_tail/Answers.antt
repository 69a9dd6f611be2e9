-- `Lexer::advance_tail` meets its contract: the run ends where the first byte stands that does not go on. Assumes nothing.
use mathlib.Core.Path.{◌≡◌, refl, sym, ap, ◌∙◌}
use mathlib.Core.Bool.{not}
use mathlib.Core.List.{List}
use Prim.Native.Nat.{ℕ, ◌+◌, ◌-◌}
use borrow.Author.Rules.{rules}
use lib.ListN.{length, take, drop, length-drop}
use lib.Seq.{take-length}
use Rattle.std.specs.Option.{unwrap_or}
use Rattle.std.proofs.lemmas.Iterator.{YieldsList-from_slice}
use Rattle.std.proofs.lemmas.Iterator.Search.{position_from_yields_List}
use Rattle.lexer.proofs.Laws.{run_to_position}
use Rattle.lexer.proofs.state.Lexer.advance_tail.Goals as goal

pub returns : goal.returns
returns g c = λ p h.
    let s = c.args.self.now in
    let rest : List ℕ = drop s.offset s.source.now in
    let all : take (length s.source.now - s.offset) rest ≡ rest = ap (λ (n : ℕ). take n rest) (sym (length-drop s.offset s.source.now)) ∙ take-length rest in
    let found = position_from_yields_List (λ b. not (p b)) _ _ c.position.result c.position.ensures.ran (YieldsList-from_slice rest (c.iter.ensures.rest ∙ all)) (λ x b q k. search (rules, h)) in
    record { source_is = refl; offset_is = ap (λ (n : ℕ). s.offset + n) (c.unwrap_or.ensures ∙ ap (λ (n : ℕ). unwrap_or c.position.result n) (ap length all) ∙ run_to_position p rest c.position.result found) }
