-- `parser::state::Parser::bump_plain`: the event is written and the cursor goes one on. Assumes nothing.
use mathlib.Core.Path.{refl}
use Rattle.parser.proofs.Laws.{bump_plain}
use Rattle.parser.proofs.state.Parser.bump_plain.Goals as goal

pub returns : goal.returns
returns c =
    let put = c.put-b.ensures in
    record { bumped = record { ran = bump_plain _ c.requires put; moved = λ h. refl }; messages = put.messages; starts = put.starts }
