-- `Lexer::ahead` meets its contract: what is passed over changes nothing. Assumes nothing.
use mathlib.Core.Path.{sym, ap, ◌∙◌}
use mathlib.Core.Bool.{true, false}
use mathlib.Core.List.{List}
use Prim.Native.Nat.{ℕ}
use native.Mathlib.Omega.{arith}
use lib.ListN.{drop}
use Rattle.lexer.specs.Chars.{graphic_inside, line_inside}
use Rattle.lexer.specs.Lexer.{quoted}
use Rattle.lexer.specs.Code.{placed}
use Rattle.lexer.proofs.Quotes.{over_graphic, over_inside}
use Rattle.lexer.proofs.state.Lexer.ahead.Goals as goal

pub returns-then-identifier_like : goal.returns-then-identifier_like
returns-then-identifier_like c =
    let s = c.args.self.now in
    let m = c.advance_while in
    let a = m.ensures graphic_inside (λ b r e. e) in
    record { source_is = a.source_is; not_back = omega (arith, a.offset_is); rest_is = rw (c.if-taken.false, c.if-identifier_like.true) (over_graphic s.source.now s.offset _ a.offset_is ∙ ap (λ (l : List ℕ). placed m.new.self.offset (quoted false true (drop m.new.self.offset l))) (sym a.source_is)) }

pub returns-else-identifier_like : goal.returns-else-identifier_like
returns-else-identifier_like c =
    let s = c.args.self.now in
    let m = c.advance_while-else-identifier_like in
    let a = m.ensures line_inside (λ b r e. e) in
    record { source_is = a.source_is; not_back = omega (arith, a.offset_is); rest_is = rw (c.if-taken.false, c.if-identifier_like.false) (over_inside s.source.now s.offset _ a.offset_is ∙ ap (λ (l : List ℕ). placed m.new.self.offset (quoted false false (drop m.new.self.offset l))) (sym a.source_is)) }
