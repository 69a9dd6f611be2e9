-- `parser::state::Parser::put`: one event more, written where there is room. Assumes nothing.
use mathlib.Core.Path.{refl}
use Rattle.parser.proofs.Laws.{put_event}
use Rattle.parser.proofs.state.Parser.put.Goals as goal

pub returns : goal.returns
returns c = put_event _ _ refl refl _ refl c.set_in_room.ensures refl refl c.one_more.ensures refl
