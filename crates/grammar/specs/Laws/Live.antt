-- Live: no message number outside 1 to 53, so neither fuel that ran out nor an unreached expect; and no token comes back.
-- Eats, Truly: at least one token is taken. All are closed under the ways to put functions together.
-- Assumes nothing.
use Prim.Native.Nat.{ℕ, zero, suc, ◌≤◌, ◌<◌}
use Rattle.std.specs.Prelude.{◌≡◌, Bool, not, ◌&&◌}
use Rattle.std.proofs.Math.Path.{refl}
use Rattle.std.proofs.Common.{ap, length-append}
use Rattle.std.proofs.Math.Bool.{true, false}
use Rattle.std.proofs.lemmas.Bool.{false≢true}
use mathlib.Core.List.{List, [], ◌∷◌}
use Rattle.std.proofs.Math.ListN.{length}
use native.Mathlib.Omega.{arith}
use Rattle.grammar.specs.Words.{Sym}
use Rattle.grammar.specs.Look.{at, eof}
use Rattle.grammar.specs.Run.{Kind, Forest, nil, leaf, node, say, ◌<>◌, P, pure, peek, in_node, pick, ◌>>=◌, when◌then◌else◌, take_token, err, Round, stop, go, warn, turn, scan, repeat, loop}
use Rattle.grammar.specs.Laws.Good.{Calm, scan_split}
use Rattle.grammar.specs.Laws.Here.{both_branches}
use Rattle.grammar.specs.Laws.Hush.{Hush, scan_calm}
use Rattle.grammar.specs.Laws.Numbers.{no_message}

-- Where q holds and fewer than n tokens are left.
pub record Live (q : List Sym → Bool) (n : ℕ) {A : Type 0} (f : P A) : Type 0 where
  pub calm : (r : List Sym) → q r ≡ true → length r < n → Calm no_message (f r).out
  pub less : (r : List Sym) → length (f r).rest ≤ length r

pub record Eats (q : List Sym → Bool) {A : Type 0} (f : P A) : Type 0 where
  pub eats : (r : List Sym) → q r ≡ true → length (f r).rest < length r

-- Where f says true it took a token.
pub record Truly (f : P Bool) : Type 0 where
  pub truly : (r : List Sym) → (f r).val ≡ true → length (f r).rest < length r

abbrev pub anywhere : List Sym → Bool
anywhere r = true

unfoldable pub some : List Sym → Bool
some [] = false
some (s ∷ r) = true

pub calm_join : (bad : ℕ → Bool) (x y : Forest) → Calm bad x → Calm bad y → Calm bad (x <> y)
calm_join bad nil y h k = k
calm_join bad (leaf s x) y h k = calm_join bad x y h k
calm_join bad (node n c x) y h k = (h.0, calm_join bad x y h.1 k)
calm_join bad (say m x) y h k = (h.0, calm_join bad x y h.1 k)

module _ {n : ℕ} where
  pub live_pure : {A : Type 0} (a : A) → Live anywhere n (pure a)
  unfolding pure
  live_pure a = record { calm = λ r e h. tt; less = λ r. omega arith }

  pub live_take : Live anywhere n take_token
  unfolding take_token
  live_take = record { calm = c; less = l }
    where
      c : (r : List Sym) → anywhere r ≡ true → length r < n → Calm no_message (take_token r).out
      c [] e h = tt
      c (s ∷ r) e h = tt

      l : (r : List Sym) → length (take_token r).rest ≤ length r
      l [] = omega arith
      l (s ∷ r) = omega arith

  pub live_err : (m : ℕ) → no_message m ≡ false → Live anywhere n (err m)
  unfolding err
  live_err m e = record { calm = λ r q h. (e, tt); less = λ r. omega arith }

  pub live_pick : (u : Bool) {q : List Sym → Bool} {A : Type 0} {f g : P A} → Live q n f → Live q n g → Live q n (pick u f g)
  live_pick true F G = F
  live_pick false F G = G

  pub live_node : (k : Kind) {q : List Sym → Bool} {A : Type 0} {f : P A} → Live q n f → Live q n (in_node k f)
  unfolding in_node
  live_node k F = record { calm = λ r e h. (F.calm r e h, tt); less = F.less }

  pub live_weak : {q q' : List Sym → Bool} {A : Type 0} {f : P A} → ((r : List Sym) → q' r ≡ true → q r ≡ true) → Live q n f → Live q' n f
  live_weak i F = record { calm = λ r e h. F.calm r (i r e) h; less = F.less }

  pub live_all : {q : List Sym → Bool} {A : Type 0} {f : P A} → Live anywhere n f → Live q n f
  live_all F = live_weak (λ r e. refl) F

  pub live_bind : {A B : Type 0} {q : List Sym → Bool} {f : P A} {g : A → P B} → Live q n f → ((a : A) → Live anywhere n (g a)) → Live q n (f >>= g)
  unfolding ◌>>=◌
  live_bind {f} {g} F G = record {
    calm = λ r e h. calm_join no_message (f r).out (g (f r).val (f r).rest).out (F.calm r e h) ((G (f r).val).calm (f r).rest refl (omega (arith, F.less r)));
    less = λ r. omega (arith, F.less r, (G (f r).val).less (f r).rest);
  }

  pub live_if : {A : Type 0} (t : List Sym → Bool) {q : List Sym → Bool} {f g : P A} → Live q n f → Live q n g → Live q n (when t then f else g)
  unfolding ◌>>=◌ peek
  live_if t {f} {g} F G = record { calm = λ r e h. (live_pick (t r) F G).calm r e h; less = λ r. (live_pick (t r) F G).less r }

  -- In the first branch the test is known.
  pub live_case : {A : Type 0} (t : List Sym → Bool) {q : List Sym → Bool} {f g : P A} → Live t n f → Live q n g → Live q n (when t then f else g)
  unfolding ◌>>=◌ peek
  live_case t F G = record {
    calm = λ r e h. both_branches (λ x. Calm no_message x.out) (t r) _ _ (λ i. F.calm r i h) (λ i. G.calm r e h);
    less = λ r. both_branches (λ x. length x.rest ≤ length r) (t r) _ _ (λ i. F.less r) (λ i. G.less r);
  }

  -- In the second too: there it is false.
  pub live_cases : {A : Type 0} (t : List Sym → Bool) {q : List Sym → Bool} {f g : P A} → Live t n f → Live (λ r. q r && not (t r)) n g → Live q n (when t then f else g)
  unfolding ◌>>=◌ peek
  live_cases t F G = record {
    calm = λ r e h. both_branches (λ x. Calm no_message x.out) (t r) _ _ (λ i. F.calm r i h) (λ i. G.calm r (rw (e, i)) h);
    less = λ r. both_branches (λ x. length x.rest ≤ length r) (t r) _ _ (λ i. F.less r) (λ i. G.less r);
  }

  pub live_eof : {A : Type 0} {f g : P A} → Live anywhere n f → Live some n g → Live anywhere n (when eof then f else g)
  unfolding ◌>>=◌ peek eof some
  live_eof {f} {g} F G = record { calm = c; less = l }
    where
      c : (r : List Sym) → anywhere r ≡ true → length r < n → Calm no_message ((when eof then f else g) r).out
      c [] e h = F.calm [] refl h
      c (s ∷ r) e h = G.calm (s ∷ r) refl h

      l : (r : List Sym) → length ((when eof then f else g) r).rest ≤ length r
      l [] = F.less []
      l (s ∷ r) = G.less (s ∷ r)

-- The step from one fuel to the next: something was taken.
pub live_eat : {n : ℕ} {A B : Type 0} {q : List Sym → Bool} {f : P A} {g : A → P B} → Live q (suc n) f → Eats q f → ((a : A) → Live anywhere n (g a)) → Live q (suc n) (f >>= g)
unfolding ◌>>=◌
live_eat {f} {g} F E G = record {
  calm = λ r e h. calm_join no_message (f r).out (g (f r).val (f r).rest).out (F.calm r e h) ((G (f r).val).calm (f r).rest refl (omega (arith, E.eats r e)));
  less = λ r. omega (arith, F.less r, (G (f r).val).less (f r).rest);
}

pub eats_bind : {A B : Type 0} {q : List Sym → Bool} {f : P A} {g : A → P B} (n : ℕ) → Eats q f → ((a : A) → Live anywhere n (g a)) → Eats q (f >>= g)
unfolding ◌>>=◌
eats_bind {f} {g} n E G = record { eats = λ r e. omega (arith, E.eats r e, (G (f r).val).less (f r).rest) }

pub eats_node : {A : Type 0} {q : List Sym → Bool} {f : P A} (k : Kind) → Eats q f → Eats q (in_node k f)
unfolding in_node
eats_node k E = record { eats = E.eats }

pub eats_take : Eats some take_token
unfolding some take_token
eats_take = record { eats = g }
  where
    g : (r : List Sym) → some r ≡ true → length (take_token r).rest < length r
    g [] e = absurd (false≢true e)
    g (s ∷ r) e = omega arith

pub eats_weak : {q q' : List Sym → Bool} {A : Type 0} {f : P A} → ((r : List Sym) → q' r ≡ true → q r ≡ true) → Eats q f → Eats q' f
eats_weak i E = record { eats = λ r e. E.eats r (i r e) }

pub at_some : (p : Sym → Bool) (r : List Sym) → at p r ≡ true → some r ≡ true
unfolding at some
at_some p [] e = e
at_some p (s ∷ r) e = refl

pub eats_case : {A : Type 0} (t : List Sym → Bool) {q : List Sym → Bool} {f g : P A} → Eats t f → Eats q g → Eats q (when t then f else g)
unfolding ◌>>=◌ peek
eats_case t F G = record { eats = λ r e. both_branches (λ x. length x.rest < length r) (t r) _ _ (F.eats r) (λ i. G.eats r e) }

pub eats_cases : {A : Type 0} (t : List Sym → Bool) {q : List Sym → Bool} {f g : P A} → Eats t f → Eats (λ r. q r && not (t r)) g → Eats q (when t then f else g)
unfolding ◌>>=◌ peek
eats_cases t F G = record { eats = λ r e. both_branches (λ x. length x.rest < length r) (t r) _ _ (F.eats r) (λ i. G.eats r (rw (e, i))) }

pub truly_bind : {A : Type 0} {f : P A} {g : A → P Bool} → Live anywhere 0 f → ((a : A) → Truly (g a)) → Truly (f >>= g)
unfolding ◌>>=◌
truly_bind {A} {f} {g} F G = record { truly = λ r e. omega (arith, F.less r, (G (f r).val).truly (f r).rest e) }

pub truly_case : (t : List Sym → Bool) {f g : P Bool} → Eats t f → Truly g → Truly (when t then f else g)
unfolding ◌>>=◌ peek
truly_case t F G = record { truly = λ r. both_branches (λ x. x.val ≡ true → length x.rest < length r) (t r) _ _ (λ i e. F.eats r i) (λ i. G.truly r) }

pub truly_if : (t : List Sym → Bool) {f g : P Bool} → Truly f → Truly g → Truly (when t then f else g)
unfolding ◌>>=◌ peek
truly_if t F G = record { truly = λ r. both_branches (λ x. x.val ≡ true → length x.rest < length r) (t r) _ _ (λ i. F.truly r) (λ i. G.truly r) }

pub truly_false : Truly (pure false)
unfolding pure
truly_false = record { truly = λ r e. absurd (false≢true e) }

-- loop { .. }, where a round that goes on takes a token
module _ {f : P Bool} (F : (n : ℕ) → Live anywhere n f) (E : Truly f) where
  repeat_calm : (n : ℕ) (r : List Sym) → length r < n → Calm no_message (repeat n f r).out
  unfolding repeat ◌>>=◌ pure
  repeat_calm zero r h = absurd (omega arith)
  repeat_calm (suc n) r h = calm_join no_message (f r).out (pick (f r).val (repeat n f) (pure false) (f r).rest).out ((F (suc (length r))).calm r refl (omega arith))
      (both_branches (λ x. Calm no_message x.out) (f r).val _ _ (λ i. repeat_calm n (f r).rest (omega (arith, E.truly r i))) (λ i. tt))

  repeat_less : (n : ℕ) (r : List Sym) → length (repeat n f r).rest ≤ length r
  unfolding repeat ◌>>=◌ pure err
  repeat_less zero r = omega arith
  repeat_less (suc n) r = both_branches (λ x. length x.rest ≤ length r) (f r).val _ _ (λ i. omega (arith, (F 0).less r, repeat_less n (f r).rest)) (λ i. (F 0).less r)

  pub live_loop : {n : ℕ} → Live anywhere n (loop f)
  unfolding loop
  live_loop = record { calm = λ r e h. repeat_calm (suc (length r)) r (omega arith); less = λ r. repeat_less (suc (length r)) r }

  pub eats_loop : {q : List Sym → Bool} → Eats q f → Eats q (loop f)
  unfolding loop repeat ◌>>=◌ pure
  eats_loop X = record { eats = λ r e. both_branches (λ x. length x.rest < length r) (f r).val _ _ (λ i. omega (arith, X.eats r e, repeat_less (length r) (f r).rest)) (λ i. X.eats r e) }

-- The round takes the token.
abbrev pub takes : {L : Type 0} → Round L → Bool
takes stop = false
takes (go l) = true
takes (warn m l) = true

module _ {L : Type 0} (step : L → List Sym → Round L) where
  pub scan_less : (l : L) (r : List Sym) → length (scan step l r).rest ≤ length r
  scan_less l r = omega (arith, simp length-append at (ap length (scan_split step l r)))

  pub live_scan : {n : ℕ} → ((l : L) (r : List Sym) → Hush no_message (step l r)) → (l : L) → Live anywhere n (scan step l)
  live_scan q l = record { calm = λ r e h. scan_calm step q l r; less = scan_less l }

  pub eats_scan : (p : Sym → Bool) (l : L) → ((s : Sym) (r : List Sym) → p s ≡ true → takes (step l (s ∷ r)) ≡ true) → Eats (at p) (scan step l)
  unfolding at scan
  eats_scan p l h = record { eats = c }
    where
      t : (s : Sym) (r : List Sym) (u : Round L) → takes u ≡ true → length (turn u l s r (λ l'. scan step l' r)).rest < length (s ∷ r)
      t s r stop e = absurd (false≢true e)
      t s r (go l') e = omega (arith, scan_less l' r)
      t s r (warn m l') e = omega (arith, scan_less l' r)

      c : (r : List Sym) → at p r ≡ true → length (scan step l r).rest < length r
      c [] e = absurd (false≢true e)
      c (s ∷ r) e = t s r (step l (s ∷ r)) (h s r e)
