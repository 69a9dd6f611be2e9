-- Where the last character of a well-formed text starts; in joined texts, and by the bytes at the end.
-- Assumes nothing.
use Rattle.std.specs.Prelude.{◌≡◌, refl, Bool, true, false, List, [], ◌∷◌, ◌++◌, ℕ, zero, suc, pred, ◌+◌, ◌-◌, ◌<◌, ltb, length, get_or}
use Rattle.std.proofs.Common.{sym, ap, ◌∙◌, append_assoc, arith, add-zero, ltb-true, ltb-false, length-append, get_or-append-add}
use Rattle.std.proofs.Math.ListN.{get_or-append}
use Rattle.std.proofs.Math.Seq.{get_or-append_seam}
use Rattle.utf8.specs.Table.{table_3_7}
use Rattle.utf8.specs.TableLaws.{char_some}
use Rattle.utf8.specs.FirstByte.{char_width, tail_bytes}
pub use Rattle.utf8.specs.FirstByte.{Continuation}
use Rattle.utf8.specs.Rows.{no_row}
use Rattle.utf8.specs.Width.{width, width_pos}
use Rattle.utf8.specs.WellFormed.{Character, WellFormed, empty, more}
use Rattle.utf8.specs.Characters.{character_starts}

-- the bytes from offset n on, of which the first k belong to the character before, which starts at m
unfoldable pub last_from : ℕ → ℕ → ℕ → List ℕ → ℕ
last_from k m n [] = m
last_from (suc k) m n (b ∷ bs) = last_from k m (n + 1) bs
last_from zero m n (b ∷ bs) = last_from (pred (width b)) n (n + 1) bs

-- the offset of the last character; 0 of an empty text
abbrev pub last_char : List ℕ → ℕ
last_char s = last_from 0 0 0 s

-- every offset p further on
moved : (p k m n : ℕ) (s : List ℕ) → last_from k (p + m) (p + n) s ≡ p + last_from k m n s
unfolding last_from
moved p k m n [] = refl
moved p (suc k) m n (b ∷ bs) = ap (λ (i : ℕ). last_from k (p + m) i bs) (omega arith) ∙ moved p k m (n + 1) bs
moved p zero m n (b ∷ bs) = ap (λ (i : ℕ). last_from (pred (width b)) (p + n) i bs) (omega arith) ∙ moved p (pred (width b)) n (n + 1) bs

-- over the bytes of a character behind its first
through : (m n : ℕ) (c s : List ℕ) → last_from (length c) m n (c ++ s) ≡ last_from 0 m (n + length c) s
unfolding last_from
through m n [] s = ap (λ (i : ℕ). last_from 0 m i s) (sym (add-zero n))
through m n (b ∷ c) s = through m (n + 1) c s ∙ ap (λ (i : ℕ). last_from 0 m i s) (omega arith)

-- a character that starts here is later than any before
starts_here : (m n : ℕ) (s : List ℕ) → 0 < length s → last_from 0 m n s ≡ last_from 0 n n s
unfolding last_from
starts_here m n [] h = absurd (omega arith)
starts_here m n (b ∷ bs) h = refl

first : {c : List ℕ} → Character table_3_7 c → (s : List ℕ) → last_char (c ++ s) ≡ last_from 0 0 (length c) s
unfolding last_from
first {c = []} k s = absurd (omega (arith, char_some k))
first {c = b ∷ c} k s =
    ap (λ (m : ℕ). last_from (pred m) 0 (0 + 1) (c ++ s)) (sym (char_width k))
    ∙ through 0 (0 + 1) c s
    ∙ ap (λ (i : ℕ). last_from 0 0 i s) (omega arith)

alone : {c : List ℕ} → Character table_3_7 c → last_char (c ++ []) ≡ 0
unfolding last_from
alone k = first k []

past : {c : List ℕ} → Character table_3_7 c → (s : List ℕ) → 0 < length s → last_char (c ++ s) ≡ length c + last_char s
past {c} k s h =
    first k s ∙ starts_here 0 (length c) s h
    ∙ ap (λ (i : ℕ). last_from 0 i i s) (sym (add-zero (length c)))
    ∙ moved (length c) 0 0 0 s

-- joined texts
pub last_append : {a : List ℕ} → WellFormed a → (b : List ℕ) → 0 < length b → last_char (a ++ b) ≡ length a + last_char b
last_append empty b h = omega arith
last_append (more {c} {s} k w) b h =
    ap last_char (append_assoc c s b)
    ∙ past k (s ++ b) (omega (arith, length-append s b))
    ∙ omega (arith, last_append w b h, length-append c s)

-- a well-formed text does not start with a continuation byte
lead : (b : ℕ) (bs : List ℕ) → WellFormed (b ∷ bs) → Continuation b → ⊥
unfolding table_3_7
lead b bs w h = omega (arith, (character_starts b bs w).length_is, width_pos b, no_row 1 b bs (omega arith))

-- the bytes of a first character behind its first byte
tail_of : {c : List ℕ} → Character table_3_7 c → (s : List ℕ) (j : ℕ) → suc j < length c → Continuation (get_or (c ++ s) (suc j) 0)
tail_of {c = []} k s j h = absurd (omega arith)
tail_of {c = b ∷ c} k s j h = rw (get_or-append c s 0 j (omega arith)) (tail_bytes k j (omega arith))

only : {c : List ℕ} → Character table_3_7 c → (at : ℕ) → at < length (c ++ []) → (Continuation (get_or (c ++ []) at 0) → ⊥) → 0 ≡ at
only k zero h here = refl
only {c} k (suc j) h here = absurd (here (tail_of k [] j (omega (arith, length-append c []))))

-- The last byte that is no continuation byte starts the last character.
abbrev pub LastStart : List ℕ → Type 0
LastStart s =
    (at : ℕ) → at < length s → (Continuation (get_or s at 0) → ⊥)
    → ((k : ℕ) → at < k → k < length s → Continuation (get_or s k 0)) → last_char s ≡ at

pub last_is : {s : List ℕ} → WellFormed s → LastStart s
last_is empty at h here behind = absurd (omega arith)
last_is (more {c} {s = []} k w) at h here behind = alone k ∙ only k at h here
last_is (more {c} {s = b ∷ s} k w) at h here behind = by_side (ltb at (length c)) refl (λ j p q r. last_is w j p q r)
  where
    by_side : (t : Bool) → ltb at (length c) ≡ t → LastStart (b ∷ s) → last_char (c ++ b ∷ s) ≡ at
    by_side true e again =
        let n = length-append c (b ∷ s) in
        absurd (lead b s w (rw (get_or-append_seam c b s 0) at (behind (length c) (ltb-true at (length c) e) (omega arith))))
    by_side false e again =
        let n = length-append c (b ∷ s) in
        let j : ℕ = at - length c in
        let i : length c + j ≡ at = omega (arith, ltb-false at (length c) e) in
        past k (b ∷ s) (omega arith)
        ∙ ap (λ (m : ℕ). length c + m)
        (again j (omega arith) (rw (← i, get_or-append-add c (b ∷ s) j 0) at here)
        (λ m p q. rw (get_or-append-add c (b ∷ s) m 0) at (behind (length c + m) (omega arith) (omega arith))))
        ∙ i

-- and if all are continuation bytes there is none
pub last_none : {s : List ℕ} → WellFormed s → ((k : ℕ) → k < length s → Continuation (get_or s k 0)) → last_char s ≡ 0
unfolding last_from
last_none {s = []} w all = refl
last_none {s = b ∷ bs} w all = absurd (lead b bs w (all 0 (omega arith)))
