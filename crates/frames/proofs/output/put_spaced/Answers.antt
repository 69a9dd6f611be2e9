-- `frames::output::put_spaced`: no number has more than twenty digits, and a space stands before them. Assumes nothing.
use Rattle.std.proofs.Common.{rules, arith, subst, ◌≡◌, ◌-◌, ◌∙◌, length, drop, OnOk}
use Rattle.std.specs.Io.KnownBytes.{Appends}
use Rattle.std.proofs.lemmas.Fmt.{length-decimal-le}
use Rattle.std.proofs.lemmas.List.{append-nil, take_all, length-drop}
use Rattle.frames.proofs.Text.{behind_space}
use Rattle.frames.proofs.output.put_spaced.Goals as goal

pub write_digits-digits-requires : goal.write_digits-digits-requires
write_digits-digits-requires g c = search (rules, length-decimal-le 20)

pub overflow_sub-digits : goal.overflow_sub-digits
overflow_sub-digits g c = search (rules, length-decimal-le 20)

pub returns : goal.returns
returns g c =
    let w = c.write_digits-digits in
    let few = length-decimal-le 20 c.args.number (omega arith) (search rules) (omega (arith, c.ranges.number)) in
    let size : length w.new.buf ≡ 21 = search rules in
    let whole = take_all (21 - (w.result - 1)) (drop (w.result - 1) w.new.buf) (omega (arith, size, length-drop (w.result - 1) w.new.buf)) in
    subst (λ bs. OnOk c.write_all.result (Appends (g.W.Write.contents c.args.out.now) (g.W.Write.contents c.write_all.new.self) bs))
    (whole ∙ behind_space w.new.buf w.result _ (omega (arith, few, w.ensures.start)) (omega (arith, w.ensures.start)) (omega (arith, size, w.ensures.start)) w.ensures.before
    (w.ensures.written ∙ append-nil _)) c.write_all.ensures.bytes
