-- Laws of places: they are grammar's; an index as the code reads it.
-- Assumes nothing.
use Rattle.std.specs.Prelude.{ℕ, zero, suc, ◌-◌, ◌≤◌, ◌<◌, ◌≡◌, refl, List, [], ◌∷◌, map, length, get_or}
use Rattle.std.proofs.Common.{ap₂, ◌∙◌, arith}
use Rattle.std.proofs.Math.Path.{ap}
use Rattle.grammar.specs.Out.{Diag, Place, place, places}
use Rattle.places.specs.Places.{start_of, stop_of}

-- the message does not matter for the place
place_from : (m : ℕ) (ends : List ℕ) (s anchor i : ℕ)
    → place m ends s anchor i ≡ record { msg = m; start = (place 0 ends s anchor i).start; stop = (place 0 ends s anchor i).stop }
place_from m [] s anchor i = refl
place_from m (e ∷ es) s anchor zero = refl
place_from m (e ∷ es) s anchor (suc i) = place_from m es e anchor i

pub place_is : (m : ℕ) (ends : List ℕ) (anchor i : ℕ) → place m ends 0 anchor i ≡ record { msg = m; start = start_of ends anchor i; stop = stop_of ends anchor i }
unfolding start_of stop_of
place_is m ends anchor i = place_from m ends 0 anchor i

-- the starts and the stops of grammar's places
pub starts_of_places : (ends : List ℕ) (anchor : ℕ) (l : List Diag) → map (λ p. p.start) (places ends anchor l) ≡ map (start_of ends anchor) (map (λ d. d.pos) l)
starts_of_places ends anchor [] = refl
starts_of_places ends anchor (d ∷ l) = ap₂ ◌∷◌ (ap (λ (p : Place). p.start) (place_is d.msg ends anchor d.pos)) (starts_of_places ends anchor l)

pub stops_of_places : (ends : List ℕ) (anchor : ℕ) (l : List Diag) → map (λ p. p.stop) (places ends anchor l) ≡ map (stop_of ends anchor) (map (λ d. d.pos) l)
stops_of_places ends anchor [] = refl
stops_of_places ends anchor (d ∷ l) = ap₂ ◌∷◌ (ap (λ (p : Place). p.stop) (place_is d.msg ends anchor d.pos)) (stops_of_places ends anchor l)

-- behind the last token; at a token, its end, and the end of the one before
behind : (ends : List ℕ) (s anchor i : ℕ) → length ends ≤ i → place 0 ends s anchor i ≡ record { msg = 0; start = anchor; stop = anchor }
behind [] s anchor i h = refl
behind (e ∷ es) s anchor zero h = absurd (omega arith)
behind (e ∷ es) s anchor (suc i) h = behind es e anchor i (omega arith)

at_token : (ends : List ℕ) (s anchor i : ℕ) → i < length ends → place 0 ends s anchor i ≡ record { msg = 0; start = get_or (s ∷ ends) i 0; stop = get_or ends i 0 }
at_token [] s anchor i h = absurd (omega arith)
at_token (e ∷ es) s anchor zero h = refl
at_token (e ∷ es) s anchor (suc i) h = at_token es e anchor i (omega arith)

module _ (ends : List ℕ) (anchor i : ℕ) where
  pub start_behind : length ends ≤ i → start_of ends anchor i ≡ anchor
  unfolding start_of
  start_behind h = ap (λ (p : Place). p.start) (behind ends 0 anchor i h)

  pub stop_behind : length ends ≤ i → stop_of ends anchor i ≡ anchor
  unfolding stop_of
  stop_behind h = ap (λ (p : Place). p.stop) (behind ends 0 anchor i h)

  pub stop_at : i < length ends → stop_of ends anchor i ≡ get_or ends i 0
  unfolding stop_of
  stop_at h = ap (λ (p : Place). p.stop) (at_token ends 0 anchor i h)

  start_at : i < length ends → start_of ends anchor i ≡ get_or (0 ∷ ends) i 0
  unfolding start_of
  start_at h = ap (λ (p : Place). p.start) (at_token ends 0 anchor i h)

  pub start_first : i ≡ 0 → i < length ends → start_of ends anchor i ≡ 0
  start_first e h = start_at h ∙ ap (λ (k : ℕ). get_or (0 ∷ ends) k 0) e

  pub start_later : (i ≡ 0 → ⊥) → i < length ends → start_of ends anchor i ≡ get_or ends (i - 1) 0
  start_later n h = start_at h ∙ ap (λ (k : ℕ). get_or (0 ∷ ends) k 0) one_less
    where
      one_less : i ≡ suc (i - 1)
      one_less = omega arith
