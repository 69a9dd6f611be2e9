-- What a loop over the tokens keeps: what is still to be written, over what has been written, is the whole. f says what is
-- written for a token. Assumes nothing.
use Prim.Native.Nat.{ℕ, suc, ◌≤◌, ◌<◌, ◌+◌, ◌-◌}
use mathlib.Core.Path.{◌≡◌, refl, sym, ap, ap₂, subst, ◌∙◌}
use mathlib.Core.List.{List, ◌++◌, map}
use native.Mathlib.Omega.{arith}
use lib.ListN.{length, get_or, take, drop, set, length-set, length-drop}
use Rattle.std.proofs.Common.{length-append, min}
use lib.Seq.{length-take-le}
use Rattle.std.proofs.lemmas.List.{take-append-drop, set-append_left, set_past}
use Rattle.std.proofs.Math.Seq.{take-append_seam, drop-append_seam}
use Rattle.lexer.specs.Lexer.{Token, next, tokenize}
use Rattle.room.specs.Over.{over, given_back}
use Rattle.lexer.specs.declared.slices.TokenSlices.{TokenSlices}
use Rattle.lexer.specs.Tokens.{MAX_SOURCE, ends, token_ends, room, TokensFit}
use Rattle.lexer.specs.Slices.{room_in, put, Push}
use Rattle.lexer.specs.Laws.{token}
use Rattle.lexer.specs.Code.{Placed, placed}
use Rattle.lexer.proofs.Laws.{next_byte}
use Rattle.lexer.proofs.Rest.{rest, rest_none, rest_more, ends_more, end_within}

pub record Going (f : Token → ℕ) (s kinds₀ ends₀ kinds ends' : List ℕ) (at n : ℕ) : Type 0 where
  pub within : at ≤ length s
  pub size : length s ≤ MAX_SOURCE
  pub fewer : n ≤ at
  pub kinds_len : length kinds ≡ length kinds₀
  pub ends_len : length ends' ≡ length ends₀
  pub same_room : length kinds₀ ≡ length ends₀
  pub count : length (tokenize s) ≡ n + length (rest s at)
  pub kinds_are : over kinds₀ 0 (map f (tokenize s)) ≡ over kinds n (map f (rest s at))
  pub ends_are : over ends₀ 0 (token_ends s) ≡ over ends' n (ends at (rest s at))

pub begins : {f : Token → ℕ} (s kinds ends' : List ℕ) → length s ≤ MAX_SOURCE → length kinds ≡ length ends' → Going f s kinds ends' kinds ends' 0 0
begins s kinds ends' h same = record {
  within = omega arith;
  size = h;
  fewer = omega arith;
  kinds_len = refl;
  ends_len = refl;
  same_room = same;
  count = omega arith;
  kinds_are = refl;
  ends_are = refl;
}

-- the token at the cursor, in its place and with its text
abbrev pub here : List ℕ → ℕ → Placed
here s at = placed (at + 1) (next (get_or s at 0) (drop (at + 1) s))

abbrev pub token_here : List ℕ → ℕ → Token
token_here s at = token (get_or s at 0) (drop (at + 1) s)

-- the token that the lexer gave at its offset, where its source is this one
pub same_source : {r : List ℕ} (s : List ℕ) {i : ℕ} (at : ℕ) (t : Placed) → r ≡ s → i ≡ at → i < length r → t ≡ here r i → (at < length s) × (t ≡ here s at)
same_source s {i} at t e f h p = subst (λ (k : ℕ). (k < length s) × (t ≡ here s k)) f (subst (λ (l : List ℕ). (i < length l) × (t ≡ here l i)) e (h, p))

-- it ends behind the cursor and within the source
pub ends_within : {f : Token → ℕ} {s kinds₀ ends₀ kinds ends' : List ℕ} {at n : ℕ} → Going f s kinds₀ ends₀ kinds ends' at n → at < length s
    → (t : Placed) → t ≡ here s at → (at < t.end) × (t.end ≤ length s)
ends_within {s = s} {at = at} g h t e = rw e (omega arith, end_within s at h)

pub text_here : (s : List ℕ) (at : ℕ) → at < length s → (t : Placed) → t ≡ here s at → take (t.end - at) (drop at s) ≡ (token_here s at).text
text_here s at h t e =
    let more = (next (get_or s at 0) (drop (at + 1) s)).more in
    let n : (here s at).end - at ≡ suc more = omega arith in
    ap (λ (x : Placed). take (x.end - at) (drop at s)) e
    ∙ ap (λ (n : ℕ). take n (drop at s)) n
    ∙ ap (take (suc more)) (next_byte s at h)

pub goes_on : {f : Token → ℕ} {s kinds₀ ends₀ kinds ends' : List ℕ} {at n : ℕ} → Going f s kinds₀ ends₀ kinds ends' at n → at < length s
    → (t : Placed) → t ≡ here s at → (v : ℕ) → v ≡ f (token_here s at) → (kinds'' ends'' : List ℕ) → kinds'' ≡ set kinds n v → ends'' ≡ set ends' n t.end
    → Going f s kinds₀ ends₀ kinds'' ends'' t.end (n + 1)
goes_on {f} {s} {kinds₀} {ends₀} {kinds} {ends'} {at} {n} g h t e v q kinds'' ends'' ke ee = rw (ke, ee, e, q) (record {
  within = end_within s at h;
  size = g.size;
  fewer = omega (arith, g.fewer);
  kinds_len = length-set kinds n (f (token_here s at)) ∙ g.kinds_len;
  ends_len = length-set ends' n (here s at).end ∙ g.ends_len;
  same_room = g.same_room;
  count = g.count ∙ omega (arith, ap (λ (r : List Token). length r) (rest_more s at h));
  kinds_are = g.kinds_are ∙ ap (λ (r : List Token). over kinds n (map f r)) (rest_more s at h);
  ends_are = g.ends_are ∙ ap (over ends' n) (ends_more s at h);
})

pub ended : {f : Token → ℕ} {s kinds₀ ends₀ kinds ends' : List ℕ} {at n : ℕ} → Going f s kinds₀ ends₀ kinds ends' at n → length s ≤ at
    → (n ≡ length (tokenize s)) × (kinds ≡ over kinds₀ 0 (map f (tokenize s))) × (ends' ≡ over ends₀ 0 (token_ends s))
unfolding ends
ended {f} {s} {kinds₀} {ends₀} {kinds} {ends'} {at} {n} g h =
    let m = rest_none s at h in (
      omega (arith, g.count, ap (λ (r : List Token). length r) m),
      sym (g.kinds_are ∙ ap (λ (r : List Token). over kinds n (map f r)) m),
      sym (g.ends_are ∙ ap (λ (r : List Token). over ends' n (ends at r)) m),
    )

-- the length of a list that a number was written to, and what is within the room and what is not
module _ (r : ℕ) (l : List ℕ) (n v : ℕ) (h : r ≤ length l) where
  size : length (set (take r l) n v) ≡ r
  size = length-set (take r l) n v ∙ length-take-le r l h

  length_put : length (put r l n v) ≡ length l
  length_put = length-append (set (take r l) n v) (drop r l) ∙ omega (arith, size, length-drop r l)

  within_put : take r (put r l n v) ≡ set (take r l) n v
  within_put = ap (λ (k : ℕ). take k (put r l n v)) (sym size) ∙ take-append_seam (set (take r l) n v) (drop r l)

  behind_put : drop r (put r l n v) ≡ drop r l
  behind_put = ap (λ (k : ℕ). drop k (put r l n v)) (sym size) ∙ drop-append_seam (set (take r l) n v) (drop r l)

  -- a write within the room, and none behind it
  pub put_within : n < r → set l n v ≡ put r l n v
  put_within k = ap (λ (m : List ℕ). set m n v) (sym (take-append-drop r l)) ∙ set-append_left (take r l) (drop r l) n v (omega (arith, length-take-le r l h))

  pub put_behind : r ≤ n → l ≡ put r l n v
  put_behind k = sym (take-append-drop r l) ∙ ap (λ (m : List ℕ). m ++ drop r l) (sym (set_past (take r l) n v (omega (arith, length-take-le r l h))))

-- The slices at a token: the parts within the room go on, and the others are as they were.
pub record Writing (f : Token → ℕ) (s kinds₀ ends₀ : List ℕ) (w : TokenSlices) (at : ℕ) : Type 0 where
  pub going : Going f s (take (room kinds₀ ends₀) kinds₀) (take (room kinds₀ ends₀) ends₀) (take (room kinds₀ ends₀) w.kinds.now) (take (room kinds₀ ends₀) w.ends.now) at w.count
  pub kinds_size : length w.kinds.now ≡ length kinds₀
  pub ends_size : length w.ends.now ≡ length ends₀
  pub kinds_rest : drop (room kinds₀ ends₀) w.kinds.now ≡ drop (room kinds₀ ends₀) kinds₀
  pub ends_rest : drop (room kinds₀ ends₀) w.ends.now ≡ drop (room kinds₀ ends₀) ends₀

pub begins_writing : {f : Token → ℕ} (s : List ℕ) (w : TokenSlices) → length s ≤ MAX_SOURCE → w.count ≡ 0 → {at : ℕ} → at ≡ 0
    → Writing f s w.kinds.now w.ends.now w at
begins_writing {f} s w h ce e =
    let r : ℕ = room_in w in
    let g : Going f s (take r w.kinds.now) (take r w.ends.now) (take r w.kinds.now) (take r w.ends.now) 0 0 =
    begins s (take r w.kinds.now) (take r w.ends.now) h (length-take-le r w.kinds.now (omega arith) ∙ sym (length-take-le r w.ends.now (omega arith))) in
    record { going = rw (ce, e) g; kinds_size = refl; ends_size = refl; kinds_rest = refl; ends_rest = refl }

pub writes_on : {f : Token → ℕ} {s kinds₀ ends₀ : List ℕ} {w : TokenSlices} {at : ℕ} → Writing f s kinds₀ ends₀ w at → at < length s
    → (t : Placed) → t ≡ here s at → (v : ℕ) → v ≡ f (token_here s at) → (w' : TokenSlices) → Push v t.end w w' → Writing f s kinds₀ ends₀ w' t.end
writes_on {f} {s} {kinds₀} {ends₀} {w} {at} g h t e v q w' p =
    let r : ℕ = room kinds₀ ends₀ in
    let same : room_in w ≡ r = ap₂ min g.kinds_size g.ends_size in
    let in_kinds : r ≤ length w.kinds.now = omega (arith, g.kinds_size) in
    let in_ends : r ≤ length w.ends.now = omega (arith, g.ends_size) in
    let kinds_are : w'.kinds.now ≡ put r w.kinds.now w.count v = p.kinds_are ∙ ap (λ (k : ℕ). put k w.kinds.now w.count v) same in
    let ends_are : w'.ends.now ≡ put r w.ends.now w.count t.end = p.ends_are ∙ ap (λ (k : ℕ). put k w.ends.now w.count t.end) same in
    let on : Going f s (take r kinds₀) (take r ends₀) (take r w'.kinds.now) (take r w'.ends.now) t.end (w.count + 1) =
    goes_on g.going h t e v q _ _
    (ap (take r) kinds_are ∙ within_put r w.kinds.now w.count v in_kinds)
    (ap (take r) ends_are ∙ within_put r w.ends.now w.count t.end in_ends) in
    record {
      going = rw p.count_is on;
      kinds_size = ap length kinds_are ∙ length_put r w.kinds.now w.count v in_kinds ∙ g.kinds_size;
      ends_size = ap length ends_are ∙ length_put r w.ends.now w.count t.end in_ends ∙ g.ends_size;
      kinds_rest = ap (drop r) kinds_are ∙ behind_put r w.kinds.now w.count v in_kinds ∙ g.kinds_rest;
      ends_rest = ap (drop r) ends_are ∙ behind_put r w.ends.now w.count t.end in_ends ∙ g.ends_rest;
    }

-- and what is in them at the end
pub all_written : {f : Token → ℕ} {s kinds₀ ends₀ : List ℕ} {w : TokenSlices} {at : ℕ} → Writing f s kinds₀ ends₀ w at → length s ≤ at
    → (kinds ends' : List ℕ) → kinds ≡ w.kinds.now → ends' ≡ w.ends.now → TokensFit f s kinds₀ ends₀ w.count kinds ends'
all_written {f} {s} {kinds₀} {ends₀} {w} {at} g h kinds ends' ke ee =
    let r : ℕ = room kinds₀ ends₀ in
    let e = ended g.going h in
    record {
      count_is = e.0;
      kinds_are =
          ke
          ∙ sym (take-append-drop r w.kinds.now)
          ∙ ap (λ (l : List ℕ). take r w.kinds.now ++ l) g.kinds_rest
          ∙ given_back kinds₀ _ (map f (tokenize s)) r r e.1 refl (omega arith);
      ends_are =
          ee
          ∙ sym (take-append-drop r w.ends.now)
          ∙ ap (λ (l : List ℕ). take r w.ends.now ++ l) g.ends_rest
          ∙ given_back ends₀ _ (token_ends s) r r e.2 refl (omega arith);
    }
