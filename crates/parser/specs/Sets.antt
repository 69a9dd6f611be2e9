-- Sets of numbers below 64 as the bits of a number, and the sets of trivia, which are runs. Assumes nothing.
use Rattle.std.specs.Prelude.{ℕ, ◌≤◌, ◌<◌, ◌^◌, ◌/◌, ◌%◌, ◌≡◌, refl, Bool, true, false, cond, ◌&&◌, ◌||◌, List, [], ◌∷◌, T, eqb, leb, ltb}
use Rattle.std.proofs.Common.{sym, ap, ap₂, ◌∙◌, arith, ltb-true, ltb-false, lt-ltb, le-ltb, leb-true, eq-eqb, ne_eqb, eqb-true, ltb→lt}
use Rattle.std.proofs.lemmas.Bool.{false≢true, eqb-false, agree_below, agree_below_at}
use Rattle.lexer.specs.Syntax.{Whitespace, Ident}
use Rattle.grammar.specs.Words.{MARK, key}
use Rattle.grammar.specs.Look.{one_of}
use Rattle.grammar.specs.Out.{kind}

unfoldable pub bit : ℕ → ℕ → Bool
bit mask k = cond (ltb k 64) (eqb ((mask / 2 ^ k) % 2) 1) false

unfoldable pub word_bit : ℕ → ℕ → Bool
word_bit mask k = eqb (k % MARK) Ident && bit mask (k / MARK)

both : (s t : Bool) → T (s && t) → T s × T t
both true true h = (tt, tt)
both true false h = absurd h
both false t h = absurd h

is_true : (t : Bool) → T t → t ≡ true
is_true true h = refl
is_true false h = absurd h

agree_at : (f g : ℕ → Bool) (n k : ℕ) → T (agree_below f g n) → k < n → f k ≡ g k
agree_at f g n k t h = agree_below_at f g n k (is_true _ t) h

-- all of them below 64
abbrev small : List ℕ → Bool
small [] = true
small (x ∷ xs) = ltb x 64 && small xs

none_above : (ks : List ℕ) (k : ℕ) → T (small ks) → 64 ≤ k → one_of ks k ≡ false
unfolding one_of
none_above [] k t h = refl
none_above (x ∷ xs) k t h =
    let b = both (ltb x 64) (small xs) t in
    rw (ne_eqb x k (λ e. let l = ltb→lt x 64 b.0 in omega arith)) (none_above xs k b.1 h)

abbrev low : ℕ → ℕ → Bool
low mask k = eqb ((mask / 2 ^ k) % 2) 1

-- a set's bits say which numbers are in it: one computed test over 64 numbers
pub bits_are : (mask : ℕ) (ks : List ℕ) (k : ℕ) → T (agree_below (low mask) (one_of ks) 64) → T (small ks) → bit mask k ≡ one_of ks k
unfolding bit
bits_are mask ks k t s = by_test (ltb k 64) refl
  where
    by_test : (u : Bool) → ltb k 64 ≡ u → cond u (low mask k) false ≡ one_of ks k
    by_test true e = agree_at (low mask) (one_of ks) 64 k t (ltb-true k 64 e)
    by_test false e = sym (none_above ks k s (ltb-false k 64 e))

-- what holds of each number in a set: one computed test over 64 numbers
pub each_of : (mask : ℕ) (p : ℕ → Bool) (k : ℕ) → T (agree_below (λ i. low mask i && p i) (low mask) 64) → bit mask k ≡ true → p k ≡ true
unfolding bit
each_of mask p k t = by_test (ltb k 64) refl
  where
    by_test : (u : Bool) → ltb k 64 ≡ u → cond u (low mask k) false ≡ true → p k ≡ true
    by_test true e h = sym (ap (λ u. u && p k) h) ∙ agree_at (λ i. low mask i && p i) (low mask) 64 k t (ltb-true k 64 e) ∙ h
    by_test false e h = absurd (false≢true h)

-- the same of words, which stand in the high byte of an Ident
abbrev pub keys : List ℕ → List ℕ
keys [] = []
keys (w ∷ ws) = key w ∷ keys ws

key_is : (w k : ℕ) → eqb (key w) k ≡ (eqb (k % MARK) Ident && eqb w (k / MARK))
key_is w k = by_test (eqb (k % MARK) Ident) (eqb w (k / MARK)) refl refl
  where
    by_test : (u v : Bool) → eqb (k % MARK) Ident ≡ u → eqb w (k / MARK) ≡ v → eqb (key w) k ≡ (u && v)
    by_test true true e f = eq-eqb (key w) k (omega (arith, eqb-true (k % MARK) Ident e, eqb-true w (k / MARK) f))
    by_test true false e f = ne_eqb (key w) k (λ q. eqb-false w (k / MARK) f (omega arith))
    by_test false v e f = ne_eqb (key w) k (λ q. eqb-false (k % MARK) Ident e (omega arith))

keys_are : (ws : List ℕ) (k : ℕ) → one_of (keys ws) k ≡ (eqb (k % MARK) Ident && one_of ws (k / MARK))
unfolding one_of
keys_are ws k = by_test (eqb (k % MARK) Ident) refl ws
  where
    by_test : (u : Bool) → eqb (k % MARK) Ident ≡ u → (ws : List ℕ) → one_of (keys ws) k ≡ (u && one_of ws (k / MARK))
    by_test true e [] = refl
    by_test false e [] = refl
    by_test true e (w ∷ ws) = ap₂ ◌||◌ (key_is w k ∙ ap (λ t. t && eqb w (k / MARK)) e) (by_test true e ws)
    by_test false e (w ∷ ws) = ap₂ ◌||◌ (key_is w k ∙ ap (λ t. t && eqb w (k / MARK)) e) (by_test false e ws)

pub word_bits_are : (mask : ℕ) (ws : List ℕ) (k : ℕ) → T (agree_below (low mask) (one_of ws) 64) → T (small ws) → word_bit mask k ≡ one_of (keys ws) k
unfolding word_bit
word_bits_are mask ws k t s = ap (λ u. eqb (k % MARK) Ident && u) (bits_are mask ws (k / MARK) t s) ∙ sym (keys_are ws k)

-- ---- trivia of the kinds from Whitespace up to `last`
unfoldable pub trivia_to : ℕ → ℕ → Bool
trivia_to last k = leb Whitespace k && leb k last

trivia_from : (last k : ℕ) → trivia_to last k ≡ true → (Whitespace ≤ k) × (k ≤ last)
unfolding trivia_to
trivia_from last k = by_test (leb Whitespace k) (leb k last) refl refl
  where
    by_test : (u v : Bool) → leb Whitespace k ≡ u → leb k last ≡ v → u && v ≡ true → (Whitespace ≤ k) × (k ≤ last)
    by_test true true e f h = (leb-true Whitespace k e, leb-true k last f)
    by_test true false e f h = absurd (false≢true h)
    by_test false v e f h = absurd (false≢true h)

-- which kinds these are: one computed test over 64 numbers
pub trivia_is : (last : ℕ) (ks : List ℕ) (k : ℕ) → T (agree_below (trivia_to last) (one_of ks) 64) → T (small (last ∷ ks)) → trivia_to last k ≡ one_of ks k
trivia_is last ks k t s = by_test (ltb k 64) refl
  where
    b : T (ltb last 64) × T (small ks)
    b = both (ltb last 64) (small ks) s

    none : 64 ≤ k → (u : Bool) → trivia_to last k ≡ u → u ≡ false
    none h true e = let l = ltb→lt last 64 b.0 in let m = (trivia_from last k e).1 in absurd (omega arith)
    none h false e = refl

    by_test : (u : Bool) → ltb k 64 ≡ u → trivia_to last k ≡ one_of ks k
    by_test true e = agree_at (trivia_to last) (one_of ks) 64 k t (ltb-true k 64 e)
    by_test false e = none (ltb-false k 64 e) (trivia_to last k) refl ∙ sym (none_above ks k b.1 (ltb-false k 64 e))

-- each is the event of the token that it is, and none is Error
pub trivia_own : (last k : ℕ) → last < MARK → trivia_to last k ≡ true → (k ≡ kind k) × (k ≡ 1 → ⊥)
trivia_own last k h e =
    let f = trivia_from last k e in
    (rw (lt-ltb k MARK (omega arith), le-ltb k 27 f.0), λ z. omega arith)
