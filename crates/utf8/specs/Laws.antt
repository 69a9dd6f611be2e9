-- What `validate` says of a text.
use Rattle.std.specs.Prelude.{◌≡◌, refl, List, [], ◌∷◌, ◌++◌, ℕ, zero, suc, ◌+◌, ◌≤◌, ◌<◌, length, take, drop, Ok, Err}
use Rattle.std.proofs.Common.{sym, ap, ◌∙◌, subst, append-nil, append_assoc, arith, add-zero, length-append, length-drop, take-append-drop, take-add, drop-drop, length-take-le}
use Rattle.std.proofs.Math.Seq.{drop-nil, drop-append_seam}
use Rattle.utf8.specs.Table.{table_3_7, agree, length_in, char_length}
use Rattle.utf8.specs.TableLaws.{char_length_lem, char_of_length, char_some}
use Rattle.utf8.specs.WellFormed.{Character, WellFormed, empty, more}
use Rattle.utf8.specs.ErrorLen.{error_len}
use Rattle.utf8.specs.declared.Utf8Error.{Utf8Error}
use Rattle.utf8.specs.Validate.{Validity, error_at, validate_from, validate}

-- the definition's steps: over the bytes of a character, and where no character stands
pub skips : (k n : ℕ) (s : List ℕ) → validate_from k n s ≡ validate_from 0 (n + k) (drop k s)
unfolding validate_from
skips zero n s = ap (λ (m : ℕ). validate_from 0 m s) (sym (add-zero n))
skips (suc k) n [] = refl
skips (suc k) n (b ∷ bs) = skips k (n + 1) bs ∙ ap (λ (m : ℕ). validate_from 0 m (drop k bs)) (omega arith)

pub steps : (n : ℕ) (s : List ℕ) (k : ℕ) → char_length s ≡ suc k → validate_from 0 n s ≡ validate_from 0 (n + suc k) (drop (suc k) s)
unfolding validate_from length_in table_3_7 agree
steps n [] k e = absurd (omega arith)
steps n (b ∷ bs) k e = rw (e, validate_from) (skips k (n + 1) bs ∙ ap (λ (m : ℕ). validate_from 0 m (drop k bs)) (omega arith))

pub stops : (n : ℕ) (s : List ℕ) → 0 < length s → char_length s ≡ 0 → validate_from 0 n s ≡ Err (error_at n s)
unfolding validate_from
stops n [] h e = absurd (omega arith)
stops n (b ∷ bs) h e = rw (e, validate_from)

-- what a start of characters comes to
past : {c : List ℕ} → Character table_3_7 c → (n : ℕ) (s : List ℕ) → validate_from 0 n (c ++ s) ≡ validate_from 0 (n + length c) s
past {c} k n s = by_length (length c) refl
  where
    by_length : (j : ℕ) → length c ≡ j → validate_from 0 n (c ++ s) ≡ validate_from 0 (n + length c) s
    by_length zero e = absurd (omega (arith, char_some k))
    by_length (suc j) e =
        steps n (c ++ s) j (char_length_lem k s ∙ e) ∙ rw (← e) (ap (λ (l : List ℕ). validate_from 0 (n + length c) l) (drop-append_seam c s))

pub validate_after : {t : List ℕ} → WellFormed t → (n : ℕ) (u : List ℕ) → validate_from 0 n (t ++ u) ≡ validate_from 0 (n + length t) u
validate_after empty n u = ap (λ (m : ℕ). validate_from 0 m u) (sym (add-zero n))
validate_after (more {c} {s} k w) n u =
    ap (λ (l : List ℕ). validate_from 0 n l) (append_assoc c s u) ∙ past k n (s ++ u) ∙ validate_after w (n + length c) u
    ∙ ap (λ (m : ℕ). validate_from 0 m u) (omega (arith, length-append c s))

-- an error of the bytes s from offset n on: characters, and then none
record Breaks (e : Utf8Error) (n : ℕ) (s : List ℕ) : Type 0 where
  passed : ℕ
  within : passed < length s
  well_formed : WellFormed (take passed s)
  no_character : char_length (drop passed s) ≡ 0
  offset : e.valid_up_to ≡ n + passed
  second : e.error_len ≡ error_len (drop passed s)

-- what an answer says of the bytes s from offset n on
abbrev Reading : Validity → ℕ → List ℕ → Type 0
Reading (Ok _) n s = WellFormed s
Reading (Err e) n s = Breaks e n s

-- one character more in front
longer : (r : Validity) (n : ℕ) (s : List ℕ) (k : ℕ) → char_length s ≡ suc k → Reading r (n + suc k) (drop (suc k) s) → Reading r n s
longer (Ok _) n s k e w = rw take-append-drop at (more (char_of_length s k e).1 w)
longer (Err m) n s k e w =
    let c = char_of_length s k e in
    let left = drop-drop w.passed (suc k) s in
    record {
      passed = suc k + w.passed;
      within = omega (arith, length-drop (suc k) s);
      well_formed = rw take-add (more c.1 w.well_formed);
      no_character = rw left at w.no_character;
      offset = omega (arith, w.offset);
      second = w.second ∙ ap error_len left;
    }

at_char : (n b : ℕ) (bs : List ℕ) (l : ℕ) → char_length (b ∷ bs) ≡ l
    → ((k : ℕ) → k ≤ length bs → Reading (validate_from k (n + 1) bs) (n + 1 + k) (drop k bs)) → Reading (validate_from 0 n (b ∷ bs)) n (b ∷ bs)
unfolding validate_from
at_char n b bs zero e again =
    rw (stops n (b ∷ bs) (omega arith) e)
    record {
      passed = 0;
      within = omega arith;
      well_formed = empty;
      no_character = e;
      offset = omega arith;
      second = refl;
    }
at_char n b bs (suc k) e again =
    let w = again k (omega (arith, (char_of_length (b ∷ bs) k e).0)) in
    rw (e, validate_from)
    (longer (validate_from k (n + 1) bs) n (b ∷ bs) k e
    (subst (λ (m : ℕ). Reading (validate_from k (n + 1) bs) m (drop k bs)) (omega arith) w))

reads : (k n : ℕ) (s : List ℕ) → k ≤ length s → Reading (validate_from k n s) (n + k) (drop k s)
unfolding validate_from
reads k n [] h = rw drop-nil empty
reads (suc k) n (b ∷ bs) h =
    subst (λ (m : ℕ). Reading (validate_from k (n + 1) bs) m (drop k bs)) (omega arith) (reads k (n + 1) bs (omega arith))
reads zero n (b ∷ bs) h = rw add-zero (at_char n b bs (char_length (b ∷ bs)) refl (λ k. reads k (n + 1) bs))

read_from : (n : ℕ) (s : List ℕ) → Reading (validate_from 0 n s) n s
read_from n s = rw add-zero at (reads 0 n s (omega arith))

pub valid_from : (n : ℕ) (s : List ℕ) → validate_from 0 n s ≡ Ok tt → WellFormed s
valid_from n s e = rw e at (read_from n s)

-- `Ok` is said of the well-formed texts, and of no others
pub accepted : (s : List ℕ) → validate s ≡ Ok tt → WellFormed s
accepted s e = valid_from 0 s e

pub accepts : (s : List ℕ) → WellFormed s → validate s ≡ Ok tt
unfolding validate_from
accepts s w = ap validate (sym (append-nil s)) ∙ validate_after w 0 []

-- the definition passes the end of each well-formed start
reached : (s : List ℕ) (m : ℕ) → m ≤ length s → WellFormed (take m s) → validate s ≡ validate_from 0 m (drop m s)
reached s m h w =
    ap validate (sym (take-append-drop m s)) ∙ validate_after w 0 (drop m s)
    ∙ ap (λ (k : ℕ). validate_from 0 k (drop m s)) (omega (arith, length-take-le m s h))

pub not_both : (r : Validity) {e : Utf8Error} → r ≡ Ok tt → r ≡ Err e → ⊥
not_both r p q = cc

-- n is where the longest well-formed start of s ends
pub record Longest (s : List ℕ) (n : ℕ) : Type 0 where
  pub within : n < length s
  pub well_formed : WellFormed (take n s)
  pub most : (m : ℕ) → m ≤ length s → WellFormed (take m s) → m ≤ n
  pub refused : WellFormed s → ⊥

pub longest : (s : List ℕ) (e : Utf8Error) → validate s ≡ Err e → Longest s e.valid_up_to
longest s e h =
    let r : Breaks e 0 s = rw h at (read_from 0 s) in
    let here : r.passed ≡ e.valid_up_to = omega (arith, r.offset) in
    record {
      within = omega (arith, r.within);
      well_formed = rw here at r.well_formed;
      most = λ m j w.
          let t : Breaks e m (drop m s) = rw (sym (reached s m j w) ∙ h) at (read_from m (drop m s)) in
          omega (arith, t.offset);
      refused = λ w. not_both (validate s) (accepts s w) h;
    }

-- no character stands there, and the second number is computed from there
pub breaks : (s : List ℕ) (e : Utf8Error) → validate s ≡ Err e
    → (char_length (drop e.valid_up_to s) ≡ 0) × (e.error_len ≡ error_len (drop e.valid_up_to s))
breaks s e h =
    let r : Breaks e 0 s = rw h at (read_from 0 s) in
    let here : r.passed ≡ e.valid_up_to = omega (arith, r.offset) in
    (rw here at r.no_character, rw here at r.second)

-- texts one after the other
pub append : {a b : List ℕ} → WellFormed a → WellFormed b → WellFormed (a ++ b)
append empty v = v
append {b = b} (more {c} {s} k w) v = rw append_assoc (more k (append w v))

pub valid_join : (a b : List ℕ) → validate a ≡ Ok tt → validate b ≡ Ok tt → validate (a ++ b) ≡ Ok tt
valid_join a b p q = accepts (a ++ b) (append (accepted a p) (accepted b q))
