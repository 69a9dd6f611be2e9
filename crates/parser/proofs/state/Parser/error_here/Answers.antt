-- `parser::state::Parser::error_here`: one diagnostic more, at the token here, each slice written where it has room. Assumes nothing.
use mathlib.Core.Path.{refl}
use Rattle.parser.proofs.Kit.{says}
use Rattle.parser.proofs.Laws.{say_here}
use Rattle.parser.proofs.state.Parser.error_here.Goals as goal

pub returns : goal.returns
returns c =
    record {
      ran = says _ _ c.from.ensures (say_here _ _ refl refl _ refl refl c.set_in_room.ensures c.set_in_room-2.ensures c.low_half.ensures refl refl c.one_more.ensures);
      pos = refl;
      events = refl;
    }
