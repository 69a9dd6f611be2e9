-- `frames::output::write_line`: the first number, the others and the line's end. Assumes nothing.
use Rattle.std.proofs.Common.{sym, ap, subst, ◌∙◌, ◌∷◌, drop}
use Rattle.std.specs.List.{AllZip}
use Rattle.std.proofs.lemmas.List.{drop_more, take_rest}
use Rattle.std.proofs.lemmas.Result.{on_ok_weaker}
use Rattle.frames.proofs.Text.{appends_both}
use Rattle.frames.proofs.output.write_line.Goals as goal

pub returns : goal.returns
returns g c =
    let x = c.first-item.result in
    let v = c.into.result in
    let rest = c.in_ok-write_numbers.ensures in
    let whole = drop_more c.args.numbers.now 0 x c.in-len1-up.len_at_least ∙ ap (λ y. y ∷ drop 1 c.args.numbers.now) (sym c.first-item.is) in
    on_ok_weaker c.write_all-2.result
    (λ end. (
      v ∷ rest.0,
      subst (λ xs. AllZip g.T.Into.converts xs (v ∷ rest.0)) (sym whole) (c.into.ensures, subst (λ xs. AllZip g.T.Into.converts xs rest.0) (take_rest c.args.numbers.now 1) rest.1),
      appends_both _ _ _ _ _ (appends_both _ _ _ _ _ c.in_ok-write_number.ensures rest.2) end,
    )) c.write_all-2.ensures.bytes
