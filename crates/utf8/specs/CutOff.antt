-- Cut off or wrong: what the second number of an error says. It is 0 exactly where bytes behind the text would make it well formed.
-- Assumes nothing.
use Rattle.std.specs.Prelude.{◌≡◌, ◌↔◌, refl, List, [], ◌∷◌, ◌++◌, Bool, true, false, ℕ, suc, ◌+◌, ◌-◌, ◌≤◌, ◌<◌, leb, length, take, drop, Err}
use Rattle.std.proofs.Common.{sym, ap, ◌∙◌, append-nil, append_assoc, arith, leb-true, leb-false, length-append, length-drop, take-append-drop, length-take-le}
use Rattle.std.proofs.lemmas.List.{take-append-le}
use Rattle.std.proofs.Math.Seq.{take-append-add}
use Rattle.utf8.specs.Table.{table_3_7, char_length}
use Rattle.utf8.specs.TableLaws.{char_length_lem}
use Rattle.utf8.specs.WellFormed.{Character, WellFormed, empty, more}
use Rattle.utf8.specs.Width.{width, width_pos}
use Rattle.utf8.specs.ErrorLen.{ProperStart, ErrorLen}
use Rattle.utf8.specs.ErrorLenLaws.{error_len_is, zero_of_start, start_of_zero, error_len_few}
use Rattle.utf8.specs.declared.Utf8Error.{Utf8Error}
use Rattle.utf8.specs.Validate.{validate}
use Rattle.utf8.specs.Laws.{validate_after, valid_from, accepts, longest, breaks, append}
use Rattle.utf8.specs.Characters.{character_starts}

-- there are bytes that make a well-formed text of these
abbrev pub Completable : List ℕ → Type 0
Completable bs = (t : List ℕ) × WellFormed (bs ++ t)

start_completable : {bs : List ℕ} → ProperStart bs → Completable bs
start_completable p = (p.rest, rw append-nil at (more p.sequence empty))

-- where no character stands, a first character takes all bytes that there are, and more
module _ (b : ℕ) (bs t : List ℕ) (none : char_length (b ∷ bs) ≡ 0) (well : WellFormed (b ∷ bs ++ t)) where
  abbrev here : List ℕ
  here = b ∷ bs

  by_length : (f : Bool) → leb (width b) (length here) ≡ f → Character table_3_7 (take (width b) (here ++ t))
      → width b ≤ suc (length (bs ++ t)) → ProperStart here
  by_length true e c w =
      let k = rw (take-append-le (width b) here t (leb-true (width b) (length here) e)) at c in
      let l = char_length_lem k (drop (width b) here) in
      absurd (omega (arith, none, rw take-append-drop at l, length-take-le (width b) here (leb-true (width b) (length here) e), width_pos b))
  by_length false e c w =
      let short = leb-false (width b) (length here) e in
      let n : ℕ = width b - length here in
      let all : length here + n ≡ width b = omega arith in
      record {
        rest = take n t;
        sequence = rw (sym all, take-append-add here t n) at c;
        begun = omega arith;
        proper = omega (arith, length-take-le n t (omega (arith, length-append bs t)));
      }

  completable_start : ProperStart here
  completable_start =
      let c = character_starts b (bs ++ t) well in
      by_length (leb (width b) (length here)) refl c.character c.within

started : (bs : List ℕ) → 0 < length bs → char_length bs ≡ 0 → Completable bs → ProperStart bs
started [] h none c = absurd (omega arith)
started (b ∷ bs) h none c = completable_start b bs c.0 none c.1

-- a well-formed start may be left out, and put in front
rest_completable : (n : ℕ) (s : List ℕ) → n ≤ length s → WellFormed (take n s) → Completable s → Completable (drop n s)
rest_completable n s h w c =
    let same = ap (λ (l : List ℕ). l ++ c.0) (sym (take-append-drop n s)) ∙ append_assoc (take n s) (drop n s) c.0 in
    (c.0, valid_from (0 + length (take n s)) (drop n s ++ c.0) (sym (ap validate same ∙ validate_after w 0 (drop n s ++ c.0)) ∙ accepts (s ++ c.0) c.1))

all_completable : (n : ℕ) (s : List ℕ) → WellFormed (take n s) → Completable (drop n s) → Completable s
all_completable n s w c =
    let same = sym (append_assoc (take n s) (drop n s) c.0) ∙ ap (λ (l : List ℕ). l ++ c.0) (take-append-drop n s) in
    (c.0, rw same at (append w c.1))

-- What the second number of an error says: which bytes could come, and M-105's words.
pub record BreaksOff (s : List ℕ) (e : Utf8Error) : Type 0 where
  pub second : ErrorLen (drop e.valid_up_to s) e.error_len
  pub at_most : e.error_len ≤ 3
  pub rest : (e.error_len ≡ 0) ↔ Completable (drop e.valid_up_to s)
  pub whole : (e.error_len ≡ 0) ↔ Completable s

pub breaks_off : (s : List ℕ) (e : Utf8Error) → validate s ≡ Err e → BreaksOff s e
breaks_off s e h =
    let l = longest s e h in
    let b = breaks s e h in
    let left : List ℕ = drop e.valid_up_to s in
    let some : 0 < length left = omega (arith, l.within, length-drop e.valid_up_to s) in
    let to_rest : e.error_len ≡ 0 → Completable left = λ z. start_completable (start_of_zero left some (sym b.1 ∙ z)) in
    let of_rest : Completable left → e.error_len ≡ 0 = λ c. b.1 ∙ zero_of_start left (started left some b.0 c) in
    record {
      second = rw (sym b.1) at (error_len_is left some);
      at_most = omega (arith, b.1, error_len_few left);
      rest = (to_rest, of_rest);
      whole = (
        λ z. all_completable e.valid_up_to s l.well_formed (to_rest z),
        λ c. of_rest (rest_completable e.valid_up_to s (omega (arith, l.within)) l.well_formed c),
      );
    }
