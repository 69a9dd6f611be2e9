-- `frames::output::write_numbers`: one number more. Assumes nothing.
use Rattle.std.proofs.Common.{sym, ap, subst, ◌∙◌, ◌++◌, ◌∷◌, [], take}
use Rattle.std.specs.List.{AllZip}
use Rattle.std.proofs.lemmas.List.{take_more, flat_map_more}
use Rattle.std.proofs.lemmas.Slice.Zip.{all_zipped_more}
use Rattle.std.specs.Io.KnownBytes.{Appends}
use Rattle.frames.specs.Text.{spaced}
use Rattle.frames.proofs.Text.{appends_both}
use Rattle.frames.proofs.output.write_numbers.Goals as goal

pub loop-number-preserved : goal.loop-number-preserved
loop-number-preserved g c =
    let i = c.loop-number.invariant in
    let v = c.into.result in
    let x = c.number-item.result in
    let taken = take_more c.args.numbers.now c.loop-number.number-index x c.loop-number-test.true ∙ ap (λ y. take c.loop-number.number-index c.args.numbers.now ++ y ∷ []) (sym c.number-item.is) in (
      i.0 ++ v ∷ [],
      subst (λ xs. AllZip g.T.Into.converts xs (i.0 ++ v ∷ [])) (sym taken) (all_zipped_more _ _ _ _ _ i.1 c.into.ensures),
      subst (λ bs. Appends (g.W.Write.contents c.args.out.now) (g.W.Write.contents c.put_spaced.new.out) bs) (flat_map_more spaced [] i.0 v)
          (appends_both _ _ _ _ _ i.2 c.in_ok-put_spaced.ensures),
    )
