-- Indices that were written while there was room: what stands in the slices when each has become a place.
-- Assumes nothing.
use Rattle.std.specs.Prelude.{ℕ, suc, ◌≡◌, refl, List, [], ◌∷◌, ◌++◌, map, length, take, drop}
use Rattle.std.proofs.Common.{sym, ap, ◌∙◌, arith}
use Rattle.std.proofs.lemmas.List.{length-map}
use Rattle.room.specs.Over.{over, nil_over, cons_over}
use Rattle.grammar.specs.Out.{Diag, places}
use Rattle.places.specs.Places.{start_of, stop_of, Places}
use Rattle.places.proofs.Laws.{starts_of_places, stops_of_places}

-- behind the writes
rest_over : (l vs : List ℕ) → drop (length vs) (over l 0 vs) ≡ drop (length vs) l
rest_over l [] = refl
rest_over [] (v ∷ vs) = ap (drop (suc (length vs))) (nil_over 0 (v ∷ vs))
rest_over (x ∷ l) (v ∷ vs) = ap (drop (suc (length vs))) (cons_over v l 0 vs) ∙ rest_over l vs

-- the values written into l, by f, written into a list m of the same length
by_each : (f : ℕ → ℕ) (l m vs : List ℕ) → length l ≡ length m → map f (take (length vs) (over l 0 vs)) ++ drop (length vs) m ≡ over m 0 (map f vs)
by_each f l m [] h = refl
by_each f [] [] (v ∷ vs) h =
    ap (λ (r : List ℕ). map f (take (suc (length vs)) r) ++ []) (nil_over 0 (v ∷ vs)) ∙ sym (nil_over 0 (map f (v ∷ vs)))
by_each f [] (y ∷ m) (v ∷ vs) h = absurd (omega arith)
by_each f (x ∷ l) [] (v ∷ vs) h = absurd (omega arith)
by_each f (x ∷ l) (y ∷ m) (v ∷ vs) h =
    ap (λ (r : List ℕ). map f (take (suc (length vs)) r) ++ drop (length vs) m) (cons_over v l 0 vs)
    ∙ ap (λ (r : List ℕ). f v ∷ r) (by_each f l m vs (omega arith))
    ∙ sym (cons_over (f v) m 0 (map f vs))

abbrev indices : List Diag → List ℕ
indices l = map (λ d. d.pos) l

-- The indices of the diagnostics l were written into `starts`: after `places` the starts and stops of their places are written so.
pub places_over : (ends : List ℕ) (anchor : ℕ) (l : List Diag) (starts stops starts' stops' : List ℕ) → length starts ≡ length stops
    → Places ends anchor (length l) (over starts 0 (indices l)) stops starts' stops'
    → (starts' ≡ over starts 0 (map (λ p. p.start) (places ends anchor l)))
    × (stops' ≡ over stops 0 (map (λ p. p.stop) (places ends anchor l)))
places_over ends anchor l starts stops starts' stops' h p =
    let vs : List ℕ = indices l in
    let n : length l ≡ length vs = sym (length-map l _) in (
      p.starts_are
          ∙ ap (λ (k : ℕ). map (start_of ends anchor) (take k (over starts 0 vs)) ++ drop k (over starts 0 vs)) n
          ∙ ap (λ (r : List ℕ). map (start_of ends anchor) (take (length vs) (over starts 0 vs)) ++ r) (rest_over starts vs)
          ∙ by_each (start_of ends anchor) starts starts vs refl
          ∙ ap (over starts 0) (sym (starts_of_places ends anchor l)),
      p.stops_are
          ∙ ap (λ (k : ℕ). map (stop_of ends anchor) (take k (over starts 0 vs)) ++ drop k stops) n
          ∙ by_each (stop_of ends anchor) starts stops vs h
          ∙ ap (over stops 0) (sym (stops_of_places ends anchor l)),
    )
