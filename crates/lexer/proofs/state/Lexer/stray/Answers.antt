-- `Lexer::stray` meets its contract. Assumes nothing.
use Prim.Native.Nat.{ℕ, pred}
use mathlib.Core.Path.{refl, ap}
use native.Mathlib.Omega.{arith}
use lib.ListN.{drop, length-take, length-drop}
use Rattle.utf8.specs.Width.{width, width_pos}
use Rattle.lexer.specs.Syntax.{Error}
use Rattle.lexer.specs.Lexer.{stray}
use Rattle.lexer.proofs.state.Lexer.stray.Goals as goal

pub overflow_sub-more : goal.overflow_sub-more
overflow_sub-more c = omega (arith, c.width-more.ensures, width_pos c.args.b)

pub returns : goal.returns
unfolding stray
returns c =
    let l = c.args.self.now in
    let b = c.args.b in
    record {
      source_is = refl;
      token_is =
          ap (λ (n : ℕ). record { kind = Error; end = n })
          (omega (arith, c.width-more.ensures, width_pos b, length-take (pred (width b)) (drop l.offset l.source.now), length-drop l.offset l.source.now, c.min.ensures));
    }
