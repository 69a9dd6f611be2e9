-- A run of writes into a lent list, from a place on: a write past the end changes nothing, as `set` past the end does.
-- Assumes nothing.
use Rattle.std.specs.Prelude.{◌≡◌, refl, List, [], ◌∷◌, ◌++◌, ℕ, zero, suc, ◌+◌, ◌≤◌, length, take, drop, set}
use Rattle.std.proofs.Common.{sym, ap, ◌∙◌, append-nil, arith, add-zero, not-suc-le-zero, add-one, length-set, length-append, length-drop, take-append-drop, take_all, take_at, length-take-le}
use Rattle.std.proofs.Math.Seq.{drop-length}

abbrev pub over : List ℕ → ℕ → List ℕ → List ℕ
over l i [] = l
over l i (v ∷ vs) = over (set l i v) (i + 1) vs

pub length_over : (l : List ℕ) (i : ℕ) (vs : List ℕ) → length (over l i vs) ≡ length l
length_over l i [] = refl
length_over l i (v ∷ vs) = length_over (set l i v) (i + 1) vs ∙ length-set l i v

-- one run after another
pub over_append : (l : List ℕ) (i : ℕ) (vs ws : List ℕ) → over l i (vs ++ ws) ≡ over (over l i vs) (i + length vs) ws
over_append l i [] ws = ap (λ (n : ℕ). over l n ws) (sym (add-zero i))
over_append l i (v ∷ vs) ws =
    over_append (set l i v) (i + 1) vs ws
    ∙ ap (λ (n : ℕ). over (over (set l i v) (i + 1) vs) n ws) (omega arith)

pub cons_over : (x : ℕ) (l : List ℕ) (i : ℕ) (vs : List ℕ) → over (x ∷ l) (suc i) vs ≡ x ∷ over l i vs
cons_over x l i [] = refl
cons_over x l i (v ∷ vs) =
    ap (λ (n : ℕ). over (x ∷ set l i v) n vs) (add-one (suc i))
    ∙ cons_over x (set l i v) (suc i) vs
    ∙ ap (λ (n : ℕ). x ∷ over (set l i v) n vs) (sym (add-one i))

pub nil_over : (i : ℕ) (vs : List ℕ) → over [] i vs ≡ []
nil_over i [] = refl
nil_over i (v ∷ vs) = nil_over (i + 1) vs

-- The first numbers of vs that fit, and then what l held.
abbrev pub fit : ℕ → List ℕ → List ℕ → List ℕ
fit room vs l = take room vs ++ drop (length (take room vs)) l

-- as readers see it: what fits, and then what was there
pub over_fit : (l vs : List ℕ) → over l 0 vs ≡ fit (length l) vs l
over_fit [] vs = nil_over 0 vs
over_fit (x ∷ l) [] = refl
over_fit (x ∷ l) (v ∷ vs) = cons_over v l 0 vs ∙ ap (λ (k : List ℕ). v ∷ k) (over_fit l vs)

-- numbers that all have room stand first
pub fit_first : (r n : ℕ) (vs l : List ℕ) → length vs ≡ n → n ≤ r → take n (fit r vs l) ≡ vs
fit_first r n vs l e h =
    ap (λ (k : List ℕ). take n (k ++ drop (length k) l)) (take_all r vs (omega arith)) ∙ take_at vs (drop (length vs) l) n e

pub written : (l vs : List ℕ) (n : ℕ) → n ≤ length l → length vs ≡ n → over l 0 vs ≡ vs ++ drop n l
written l vs n h e = over_fit l vs ∙ rw (take_all (length l) vs (omega arith), e)

pub over_all : (l vs : List ℕ) → length vs ≡ length l → over l 0 vs ≡ vs
over_all l vs e = written l vs (length l) (omega arith) e ∙ ap (λ (k : List ℕ). vs ++ k) (drop-length l) ∙ append-nil vs

-- a part of a list, written over and given back
pub in_room : (l vs : List ℕ) (room : ℕ) → room ≤ length l → over (take room l) 0 vs ++ drop room l ≡ fit room vs l
in_room l vs zero h = ap (λ (r : List ℕ). r ++ l) (nil_over 0 vs)
in_room [] vs (suc r) h = absurd (not-suc-le-zero h)
in_room (x ∷ l) [] (suc r) h = ap (λ (k : List ℕ). x ∷ k) (take-append-drop r l)
in_room (x ∷ l) (v ∷ vs) (suc r) h =
    ap (λ (k : List ℕ). k ++ drop r l) (cons_over v (take r l) 0 vs)
    ∙ ap (λ (k : List ℕ). v ∷ k) (in_room l vs r (omega arith))

pub given_back : (l l' vs : List ℕ) (room n : ℕ) → l' ≡ over (take room l) 0 vs → room ≡ n → n ≤ length l → l' ++ drop room l ≡ fit n vs l
given_back l l' vs room n e h k = rw (e, h) (in_room l vs n k)

pub length_fit : (r : ℕ) (vs l : List ℕ) → r ≤ length l → length (fit r vs l) ≡ length l
length_fit r vs l h =
    sym (ap length (in_room l vs r h))
    ∙ omega (arith, length-append (over (take r l) 0 vs) (drop r l), length_over (take r l) 0 vs, length-take-le r l h, length-drop r l)
