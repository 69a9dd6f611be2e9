-- Events and diagnostics of one forest behind another, and the messages of places.
-- Assumes nothing.
use Rattle.std.specs.Prelude.{ℕ, zero, suc, ◌+◌, ◌≡◌, refl, Bool, true, false, length}
use Rattle.std.proofs.Common.{sym, ◌∙◌, ap, ap₂, length-append, arith}
use mathlib.Core.List.{List, [], ◌∷◌, ◌++◌, append_assoc, map, map-append, drop_last}
use Rattle.lexer.specs.Syntax
use Rattle.grammar.specs.Words.{is}
use Rattle.grammar.specs.Run.{num, Forest, nil, leaf, node, say, ◌<>◌, leaves}
use Rattle.grammar.specs.Out.{kind, ev, Diag, noted, dg, place, places}
use Rattle.grammar.specs.Joins.{move}

pub ev_app : (x y : Forest) → ev (x <> y) ≡ ev x ++ ev y
ev_app nil y = refl
ev_app (leaf s x) y = ap (λ l. kind s ∷ l) (ev_app x y)
ev_app (node k c x) y = rw (ev_app x y) (ap (λ l. num k ∷ l) (sym (append_assoc (ev c) (0 ∷ ev x) (ev y))))
ev_app (say m x) y = ev_app x y

noted_app : (u : Bool) (i : ℕ) (l m : List Diag) → noted u i (l ++ m) ≡ noted u i l ++ m
noted_app true i l m = refl
noted_app false i l m = refl

pub dg_app : (i : ℕ) (x y : Forest) → dg i (x <> y) ≡ dg i x ++ dg (i + length (leaves x)) y
dg_app i nil y = ap (λ n. dg n y) (omega arith)
dg_app i (leaf s x) y = rw (dg_app (suc i) x y) (noted_app (is Syntax.Error s) i (dg (suc i) x) (dg (suc i + length (leaves x)) y) ∙ ap (λ n. noted (is Syntax.Error s) i (dg (suc i) x) ++ dg n y) (omega arith))
dg_app i (node k c x) y = rw (dg_app (i + length (leaves c)) x y) (sym (append_assoc (dg i c) (dg (i + length (leaves c)) x) (dg (i + length (leaves c) + length (leaves x)) y)) ∙ ap (λ n. dg i c ++ dg (i + length (leaves c)) x ++ dg n y) (omega (arith, length-append (leaves c) (leaves x))))
dg_app i (say m x) y = ap (λ l. record { msg = m; pos = i } ∷ l) (dg_app i x y)

noted_move : (u : Bool) (n i : ℕ) (l : List Diag) → noted u (n + i) (map (move n) l) ≡ map (move n) (noted u i l)
noted_move true n i l = refl
noted_move false n i l = refl

pub dg_move : (n i : ℕ) (x : Forest) → dg (n + i) x ≡ map (move n) (dg i x)
dg_move n i nil = refl
dg_move n i (leaf s x) = ap (noted (is Syntax.Error s) (n + i)) (ap (λ j. dg j x) (omega arith) ∙ dg_move n (suc i) x) ∙ noted_move (is Syntax.Error s) n i (dg (suc i) x)
dg_move n i (node k c x) = ap₂ ◌++◌ (dg_move n i c) (ap (λ j. dg j x) (omega arith) ∙ dg_move n (i + length (leaves c)) x) ∙ sym (map-append (move n) (dg i c) (dg (i + length (leaves c)) x))
dg_move n i (say m x) = ap (λ l. record { msg = m; pos = n + i } ∷ l) (dg_move n i x)

pub but_last : (l : List ℕ) (e : ℕ) → drop_last (l ++ e ∷ []) ≡ l
but_last [] e = refl
but_last (f ∷ []) e = refl
but_last (f ∷ g ∷ l) e = ap (λ x. f ∷ x) (but_last (g ∷ l) e)

-- a place has its diagnostic's message
pub place_msg : (m : ℕ) (es : List ℕ) (s anchor i : ℕ) → (place m es s anchor i).msg ≡ m
place_msg m [] s anchor i = refl
place_msg m (e ∷ es) s anchor zero = refl
place_msg m (e ∷ es) s anchor (suc i) = place_msg m es e anchor i

pub messages_of_places : (es : List ℕ) (anchor : ℕ) (l : List Diag) → map (λ p. p.msg) (places es anchor l) ≡ map (λ d. d.msg) l
messages_of_places es anchor [] = refl
messages_of_places es anchor (d ∷ l) = ap₂ ◌∷◌ (place_msg d.msg es 0 anchor d.pos) (messages_of_places es anchor l)
