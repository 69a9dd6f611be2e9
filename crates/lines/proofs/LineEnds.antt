-- A line end is completed exactly at the offsets where `completed` says so.
-- Assumes nothing.
use Rattle.std.specs.Prelude.{ℕ, zero, suc, ◌≡◌, ◌↔◌, refl, Bool, true, false, cond, ◌&&◌, List, [], ◌∷◌, eqb, length, get_or, Contains, ◌≤◌, ◌<◌}
use Rattle.std.proofs.Common.{sym, ap, ◌∙◌, true≢false, arith, ◌⊎◌, inl, inr, ne_eqb, subst}
use Rattle.std.proofs.Math.Nat.{eq-or-lt_of_le}
use Rattle.std.proofs.lemmas.Bool.Decides.{eqb_tells}
use Rattle.lines.specs.Ends.{completed, ends_by, line_start}
use Rattle.lines.specs.LineEnd.{LineEnd, cr_lf, lone_cr, lone_lf, EndsAt, FallingFrom, EndsBy, LastEnd}

-- behind an LF
behind_lf : (source : List ℕ) (n : ℕ) → get_or source n 0 ≡ 10 → EndsAt source (suc n)
behind_lf source zero h = (0, lone_lf 0 h (λ m e. absurd (omega (arith, e))))
behind_lf source (suc n) h =
    elim (eqb_tells (get_or source n 0) 13) [
      | inl w ↦ (n, cr_lf n w.1 h)
      | inr w ↦ (suc n, lone_lf (suc n) h (λ m e k. w.1 (ap (λ (i : ℕ). get_or source i 0) (omega (arith, e)) ∙ k)))
    ]

-- the tests of `completed`, one by one
by_tests : (source : List ℕ) (n : ℕ) → completed source (suc n) ≡ true → EndsAt source (suc n)
by_tests source n h =
    elim (eqb_tells (get_or source n 0) 10) [
      | inl w ↦ behind_lf source n w.1
      | inr w ↦
          elim (eqb_tells (get_or source n 0) 13) [
            | inl v ↦
                elim (eqb_tells (get_or source (suc n) 0) 10) [
                  | inl u ↦ absurd (true≢false (sym (rw (w.0, v.0, u.0) at h)))
                  | inr u ↦ (n, lone_cr n v.1 u.1)
                ]
            | inr v ↦ absurd (true≢false (sym (rw (w.0, v.0) at h)))
          ]
    ]

ends_there : (source : List ℕ) (e : ℕ) → completed source e ≡ true → EndsAt source e
ends_there source zero h = absurd (true≢false (sym h))
ends_there source (suc n) h = by_tests source n h

completed_there : (source : List ℕ) {n e : ℕ} → LineEnd source n e → completed source e ≡ true
completed_there source (cr_lf n h k) = rw k refl
completed_there source (lone_cr n h k) = rw (h, ne_eqb (get_or source (suc n) 0) 10 k) refl
completed_there source (lone_lf n h k) = rw h refl

pub completed_is : (source : List ℕ) (e : ℕ) → completed source e ≡ true ↔ EndsAt source e
completed_is source e = (ends_there source e, λ w. completed_there source w.1)

-- where each line end begins: before an LF behind a CR, else at the byte before where it is completed
begins : List ℕ → ℕ → ℕ
begins source zero = zero
begins source (suc zero) = zero
begins source (suc (suc n)) = cond (eqb (get_or source (suc n) 0) 10 && eqb (get_or source n 0) 13) n (suc n)

begins_there : (source : List ℕ) {n e : ℕ} → LineEnd source n e → begins source e ≡ n
unfolding begins
begins_there source (cr_lf n h k) = rw (h, k) refl
begins_there source (lone_cr zero h k) = refl
begins_there source (lone_cr (suc n) h k) = rw h refl
begins_there source (lone_lf zero h k) = refl
begins_there source (lone_lf (suc n) h k) = rw (h, ne_eqb (get_or source n 0) 13 (k n refl)) refl

-- A line end that is completed at an offset begins at one place.
pub one_start : (source : List ℕ) {m n e : ℕ} → LineEnd source m e → LineEnd source n e → m ≡ n
one_start source a b = sym (begins_there source a) ∙ begins_there source b

falling_from : (m n : ℕ) (l : List ℕ) → m ≤ n → FallingFrom m l → FallingFrom n l
falling_from m n [] h f = tt
falling_from m n (e ∷ l) h f = (omega (arith, f.0), f.1)

-- what stands in a falling list is below its bound
below : (n e : ℕ) (l : List ℕ) → FallingFrom n l → Contains l e → e < n
below n e [] f c = absurd (omega (arith, c.1))
below n e (x ∷ l) f c = by_index (below x e l f.1) c.0 c.1 c.2
  where
    by_index : (Contains l e → e < x) → (i : ℕ) → i < suc (length l) → get_or (x ∷ l) i e ≡ e → e < n
    by_index again zero h q = omega (arith, f.0, q)
    by_index again (suc i) h q = omega (arith, f.0, again (i, omega arith, q))

module _ (source : List ℕ) where
  abbrev Listed : ℕ → ℕ → List ℕ → Type 0
  Listed o e l = Contains l e ↔ (e ≤ o) × EndsAt source e

  listed_more : (n e : ℕ) (l : List ℕ) → completed source (suc n) ≡ true → Listed n e l → Listed (suc n) e (suc n ∷ l)
  listed_more n e l k b = (λ c. into c.0 c.1 c.2, λ w. from w.1 (eq-or-lt_of_le w.0))
    where
      into : (i : ℕ) → i < suc (length l) → get_or (suc n ∷ l) i e ≡ e → (e ≤ suc n) × EndsAt source e
      into zero h q = (omega (arith, q), subst (EndsAt source) q (ends_there source (suc n) k))
      into (suc i) h q = let r = b.0 (i, omega arith, q) in (omega (arith, r.0), r.1)

      from : EndsAt source e → (e ≡ suc n) ⊎ (e < suc n) → Contains (suc n ∷ l) e
      from w (inl q) = (0, omega arith, sym q)
      from w (inr h) = let r = b.1 (omega arith, w) in (suc r.0, omega (arith, r.1), r.2)

  listed_still : (n e : ℕ) (l : List ℕ) → completed source (suc n) ≡ false → Listed n e l → Listed (suc n) e l
  listed_still n e l k b = (λ c. let r = b.0 c in (omega (arith, r.0), r.1), λ w. from w.1 (eq-or-lt_of_le w.0))
    where
      from : EndsAt source e → (e ≡ suc n) ⊎ (e < suc n) → Contains l e
      from w (inl q) = absurd (true≢false (sym (completed_there source w.1) ∙ ap (completed source) q ∙ k))
      from w (inr h) = b.1 (omega arith, w)

  next_listed : (n e : ℕ) (u : Bool) → completed source (suc n) ≡ u → Listed n e (ends_by source n)
      → Listed (suc n) e (cond u (suc n ∷ ends_by source n) (ends_by source n))
  next_listed n e true = listed_more n e (ends_by source n)
  next_listed n e false = listed_still n e (ends_by source n)

  none_at_start : (e : ℕ) → e ≤ 0 → EndsAt source e → ⊥
  none_at_start zero h w = true≢false (sym (completed_there source w.1))
  none_at_start (suc e) h w = absurd (omega arith)

  listed : (o e : ℕ) → Listed o e (ends_by source o)
  listed zero e = (λ c. absurd (omega (arith, c.1)), λ w. absurd (none_at_start e w.0 w.1))
  listed (suc n) e = next_listed n e (completed source (suc n)) refl (listed n e)

  next_once : (n : ℕ) (u : Bool) (l : List ℕ) → FallingFrom (suc n) l → FallingFrom (suc (suc n)) (cond u (suc n ∷ l) l)
  next_once n true l f = (omega arith, f)
  next_once n false l f = falling_from (suc n) (suc (suc n)) l (omega arith) f

  once : (o : ℕ) → FallingFrom (suc o) (ends_by source o)
  once zero = tt
  once (suc n) = next_once n (completed source (suc n)) (ends_by source n) (once n)

  pub ends_are : (o : ℕ) → EndsBy source o (ends_by source o)
  ends_are o = record { once = once o; these = listed o }

  pub start_is : (o : ℕ) → LastEnd source o (line_start source o)
  start_is o = by_ends (ends_by source o) (ends_are o)
    where
      by_ends : (l : List ℕ) → EndsBy source o l → LastEnd source o (get_or l 0 0)
      by_ends [] b = record { within = omega arith; ends = inl refl; last = λ e h k w. absurd (omega (arith, ((b.these e).1 (k, w)).1)) }
      by_ends (s ∷ l) b = record {
        within = omega (arith, b.once.0);
        ends = inr ((b.these s).0 (0, omega arith, refl)).1;
        last = λ e h k w. absurd (omega (arith, below (suc s) e (s ∷ l) (omega arith, b.once.1) ((b.these e).1 (k, w))));
      }
