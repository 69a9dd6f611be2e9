-- `TokenSlices::push` meets its contract. Assumes nothing.
use mathlib.Core.Path.{refl}
use native.Mathlib.Omega.{arith}
use Rattle.lexer.specs.Slices.{room_in}
use Rattle.lexer.proofs.Going.{put_within, put_behind}
use Rattle.lexer.proofs.slices.TokenSlices.push.Goals as goal

pub returns-then-n-min : goal.returns-then-n-min
returns-then-n-min c =
    let s = c.args.self.now in
    record {
      same_kinds = refl;
      same_ends = refl;
      count_is = refl;
      kinds_are = put_within (room_in s) s.kinds.now s.count c.args.kind (omega arith) (omega (arith, c.min.ensures));
      ends_are = put_within (room_in s) s.ends.now s.count c.args.end (omega arith) (omega (arith, c.min.ensures));
    }

pub returns-else-n-min : goal.returns-else-n-min
returns-else-n-min c =
    let s = c.args.self.now in
    record {
      same_kinds = refl;
      same_ends = refl;
      count_is = refl;
      kinds_are = put_behind (room_in s) s.kinds.now s.count c.args.kind (omega arith) (omega (arith, c.min.ensures));
      ends_are = put_behind (room_in s) s.ends.now s.count c.args.end (omega arith) (omega (arith, c.min.ensures));
    }
