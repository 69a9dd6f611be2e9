-- Diagnostics stand in the order of their tokens: none stands at a token before that of the one before it.
-- Assumes nothing.
use Rattle.std.specs.Prelude.{ℕ, zero, suc, ◌+◌, ◌≤◌, ◌≡◌, refl, Bool, true, false, List, [], ◌∷◌, ◌++◌, map, length}
use Rattle.std.proofs.Common.{append_assoc, append-nil, length-append, arith}
use Rattle.lexer.specs.Syntax
use Rattle.grammar.specs.Words.{Sym, is}
use Rattle.grammar.specs.Run.{Forest, nil, leaf, node, say, leaves}
use Rattle.grammar.specs.Item.{parse}
use Rattle.grammar.specs.Out.{Diag, noted, dg, diags, place, places}

-- numbers of which none is below n, nor below the one before it
abbrev pub NeverFalling : ℕ → List ℕ → Type 0
NeverFalling n [] = Unit {0}
NeverFalling n (x ∷ l) = (n ≤ x) × NeverFalling x l

pub from_below : (m n : ℕ) (l : List ℕ) → m ≤ n → NeverFalling n l → NeverFalling m l
from_below m n [] h p = tt
from_below m n (x ∷ l) h p = (let k = p.0 in omega arith, p.1)

abbrev positions : List Diag → List ℕ
positions l = map (λ d. d.pos) l

noted_in_order : (u : Bool) (i : ℕ) (l : List Diag) → NeverFalling (suc i) (positions l) → NeverFalling i (positions (noted u i l))
noted_in_order true i l p = (omega arith, from_below i (suc i) (positions l) (omega arith) p)
noted_in_order false i l p = from_below i (suc i) (positions l) (omega arith) p

noted_onto : (u : Bool) (i : ℕ) (k l : List Diag) → noted u i k ++ l ≡ noted u i (k ++ l)
noted_onto true i k l = refl
noted_onto false i k l = refl

-- a forest's diagnostics, before others at its end or behind it
forest_in_order : (i : ℕ) (x : Forest) (l : List Diag) → NeverFalling (i + length (leaves x)) (positions l)
    → NeverFalling i (positions (dg i x ++ l))
forest_in_order i nil l p = from_below i (i + 0) (positions l) (omega arith) p
forest_in_order i (leaf s x) l p =
    rw (noted_onto (is Syntax.Error s) i (dg (suc i) x) l)
    (noted_in_order (is Syntax.Error s) i (dg (suc i) x ++ l)
    (forest_in_order (suc i) x l (from_below (suc i + length (leaves x)) (i + suc (length (leaves x))) (positions l) (omega arith) p)))
forest_in_order i (node k c x) l p =
    let j = i + length (leaves c) in
    rw (append_assoc (dg i c) (dg j x) l)
    (forest_in_order i c (dg j x ++ l)
    (forest_in_order j x l
    (from_below (j + length (leaves x)) (i + length (leaves c ++ leaves x)) (positions l) (omega (arith, length-append (leaves c) (leaves x))) p)))
forest_in_order i (say m x) l p = (omega arith, forest_in_order i x l p)

pub diagnostics_in_order : (limit : ℕ) (a : List Sym) → NeverFalling 0 (positions (diags limit a))
unfolding diags
diagnostics_in_order limit a = rw (← append-nil (dg 0 (parse limit a))) (forest_in_order 0 (parse limit a) [] tt)

-- the start of token i; behind the last token, the anchor
abbrev start_of : List ℕ → ℕ → ℕ → ℕ → ℕ
start_of es s anchor i = (place 0 es s anchor i).start

-- tokens of which none starts behind the next one, nor behind the anchor
abbrev pub StartsInOrder : ℕ → List ℕ → ℕ → Type 0
StartsInOrder s [] anchor = Unit {0}
StartsInOrder s (e ∷ es) anchor = (s ≤ start_of es e anchor 0) × StartsInOrder e es anchor

message_free : (m n : ℕ) (es : List ℕ) (s anchor i : ℕ) → (place m es s anchor i).start ≡ (place n es s anchor i).start
message_free m n [] s anchor i = refl
message_free m n (e ∷ es) s anchor zero = refl
message_free m n (e ∷ es) s anchor (suc i) = message_free m n es e anchor i

first_lowest : (es : List ℕ) (s anchor j : ℕ) → StartsInOrder s es anchor → start_of es s anchor 0 ≤ start_of es s anchor j
first_lowest [] s anchor j p = omega arith
first_lowest (e ∷ es) s anchor zero p = omega arith
first_lowest (e ∷ es) s anchor (suc j) p = let h = first_lowest es e anchor j p.1 in let k = p.0 in omega arith

lower_first : (es : List ℕ) (s anchor i j : ℕ) → StartsInOrder s es anchor → i ≤ j → start_of es s anchor i ≤ start_of es s anchor j
lower_first [] s anchor i j p h = omega arith
lower_first (e ∷ es) s anchor zero j p h = first_lowest (e ∷ es) s anchor j p
lower_first (e ∷ es) s anchor (suc i) zero p h = absurd (omega arith)
lower_first (e ∷ es) s anchor (suc i) (suc j) p h = lower_first es e anchor i j p.1 (omega arith)

-- tokens in order have starts in order
pub places_in_order : (es : List ℕ) (anchor : ℕ) → StartsInOrder 0 es anchor → (i : ℕ) (l : List Diag) → NeverFalling i (positions l)
    → NeverFalling (start_of es 0 anchor i) (map (λ p. p.start) (places es anchor l))
places_in_order es anchor p i [] q = tt
places_in_order es anchor p i (d ∷ l) q =
    let h = lower_first es 0 anchor i d.pos p q.0 in
    rw (message_free d.msg 0 es 0 anchor d.pos) (h, places_in_order es anchor p d.pos l q.1)
