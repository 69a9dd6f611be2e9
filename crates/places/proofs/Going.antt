-- What the loop over the entries keeps: what is still to be written, over what has been written, is the whole. Assumes nothing.
use Prim.Native.Nat.{ℕ, suc, ◌+◌, ◌≤◌, ◌<◌, min}
use mathlib.Core.Path.{◌≡◌, refl, sym, ap, ◌∙◌}
use mathlib.Core.List.{List, [], ◌∷◌, ◌++◌, map}
use native.Mathlib.Omega.{arith}
use native.Mathlib.Numerals.{add-one}
use lib.ListN.{length, get_or, take, drop, set, length-set, length-take, length-map, drop_of_length-le}
use lib.Seq.{drop-cons, drop-set-lt, take-set-lt, get_or-take, length-take-le}
use Rattle.std.proofs.lemmas.List.{take_min, drop_min}
use Rattle.room.specs.Over.{over, written}
use Rattle.places.specs.Places.{start_of, stop_of, Places}

pub record Going (ends : List ℕ) (anchor n : ℕ) (starts₀ stops₀ starts stops : List ℕ) (i : ℕ) : Type 0 where
  pub room : n ≤ length starts₀
  pub same_room : length starts₀ ≡ length stops₀
  pub starts_len : length starts ≡ length starts₀
  pub stops_len : length stops ≡ length stops₀
  pub starts_done : over starts₀ 0 (map (start_of ends anchor) (take n starts₀)) ≡ over starts i (map (start_of ends anchor) (drop i (take n starts)))
  pub stops_done : over stops₀ 0 (map (stop_of ends anchor) (take n starts₀)) ≡ over stops i (map (stop_of ends anchor) (drop i (take n starts)))

-- the index to read, and those behind it
next_is : (n : ℕ) (l : List ℕ) (i v : ℕ) → i < n → n ≤ length l → drop i (take n l) ≡ get_or l i 0 ∷ drop (i + 1) (take n (set l i v))
next_is n l i v h k =
    drop-cons (take n l) i 0 (omega (arith, length-take-le n l k))
    ∙ ap (λ (x : ℕ). x ∷ drop (suc i) (take n l)) (get_or-take n l i 0 h)
    ∙ ap (λ (r : List ℕ). get_or l i 0 ∷ r)
    (ap (λ (m : ℕ). drop m (take n l)) (sym (add-one i))
    ∙ sym (drop-set-lt (i + 1) (take n l) i v (omega arith))
    ∙ ap (drop (i + 1)) (sym (take-set-lt n l i v h)))

pub goes_on : {ends : List ℕ} {anchor n : ℕ} {starts₀ stops₀ starts stops : List ℕ} {i : ℕ} → Going ends anchor n starts₀ stops₀ starts stops i
    → i < n → (v w : ℕ) → v ≡ start_of ends anchor (get_or starts i 0) → w ≡ stop_of ends anchor (get_or starts i 0)
    → Going ends anchor n starts₀ stops₀ (set starts i v) (set stops i w) (i + 1)
goes_on {ends} {anchor} {n} {starts₀} {stops₀} {starts} {stops} {i} g h v w p q =
    let k : n ≤ length starts = omega (arith, g.room, g.starts_len) in
    record {
      room = g.room;
      same_room = g.same_room;
      starts_len = length-set starts i v ∙ g.starts_len;
      stops_len = length-set stops i w ∙ g.stops_len;
      starts_done =
          g.starts_done
          ∙ ap (λ (r : List ℕ). over starts i (map (start_of ends anchor) r)) (next_is n starts i v h k)
          ∙ ap (λ (x : ℕ). over (set starts i x) (i + 1) (map (start_of ends anchor) (drop (i + 1) (take n (set starts i v))))) (sym p);
      stops_done =
          g.stops_done
          ∙ ap (λ (r : List ℕ). over stops i (map (stop_of ends anchor) r)) (next_is n starts i v h k)
          ∙ ap (λ (x : ℕ). over (set stops i x) (i + 1) (map (stop_of ends anchor) (drop (i + 1) (take n (set starts i v))))) (sym q);
    }

-- the list in the end, where nothing is left to write
whole : (f : ℕ → ℕ) (count n : ℕ) (l₀ vs l : List ℕ) → length vs ≡ length l₀ → n ≡ min count (length l₀)
    → over l₀ 0 (map f (take n vs)) ≡ l → l ≡ map f (take count vs) ++ drop count l₀
whole f count n l₀ vs l same e d =
    let k : n ≤ length vs = omega arith in
    let t : take n vs ≡ take count vs = ap (λ (m : ℕ). take m vs) (e ∙ ap (min count) (sym same)) ∙ take_min count vs in
    let r : drop n l₀ ≡ drop count l₀ = ap (λ (m : ℕ). drop m l₀) e ∙ drop_min count l₀ in
    sym d
    ∙ written l₀ (map f (take n vs)) n (omega arith) (length-map (take n vs) f ∙ length-take-le n vs k)
    ∙ rw (t, r)

pub ended : {ends : List ℕ} {anchor count : ℕ} {starts₀ stops₀ starts stops : List ℕ} {i n : ℕ} → Going ends anchor n starts₀ stops₀ starts stops i
    → n ≡ min count (length starts₀) → n ≤ i → Places ends anchor count starts₀ stops₀ starts stops
ended {ends} {anchor} {count} {starts₀} {stops₀} {starts} {stops} {i} {n} g e h =
    let j : length (take n starts) ≤ i = omega (arith, length-take n starts) in
    let none : drop i (take n starts) ≡ [] = drop_of_length-le (take n starts) j in
    record {
      starts_are =
          whole (start_of ends anchor) count n starts₀ starts₀ starts refl e
          (g.starts_done ∙ ap (λ (r : List ℕ). over starts i (map (start_of ends anchor) r)) none);
      stops_are =
          whole (stop_of ends anchor) count n stops₀ starts₀ stops g.same_room (e ∙ ap (min count) g.same_room)
          (g.stops_done ∙ ap (λ (r : List ℕ). over stops i (map (stop_of ends anchor) r)) none);
    }
