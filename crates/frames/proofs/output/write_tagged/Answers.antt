-- `frames::output::write_tagged`: the tag, the numbers and the line's end. Assumes nothing.
use Rattle.std.proofs.lemmas.Result.{on_ok_weaker}
use Rattle.frames.proofs.Text.{appends_both}
use Rattle.frames.proofs.output.write_tagged.Goals as goal

pub returns : goal.returns
returns g c =
    let rest = c.in_ok-write_numbers.ensures in
    on_ok_weaker c.write_all-2.result
    (λ end. (rest.0, rest.1, appends_both _ _ _ _ _ (appends_both _ _ _ _ _ c.in_ok-write_all.ensures.bytes rest.2) end))
    c.write_all-2.ensures.bytes
