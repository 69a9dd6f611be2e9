-- Good: what a parser function does in one file, and in a file that goes on; closed under the ways to put functions together.
-- Assumes nothing.
use Prim.Native.Nat.{ℕ, zero, suc, ◌≤◌}
use Rattle.std.specs.Prelude.{◌≡◌, Bool, true, length}
use Rattle.std.proofs.Math.Path.{refl}
use Rattle.std.proofs.Common.{sym, ◌∙◌, ap, subst, true≢false, arith}
use Rattle.std.proofs.Math.Bool.{false}
use mathlib.Core.List.{List, [], ◌∷◌, ◌++◌, append-nil, append_assoc}
use Rattle.grammar.specs.Words.{Sym}
use Rattle.grammar.specs.Run.{Kind, Forest, nil, leaf, node, say, ◌<>◌, leaves, Res, P, pure, peek, in_node, pick, ◌>>=◌, ◌>>◌, when◌then◌else◌, take_token, err, Round, stop, go, warn, turn, scan, m_never, repeat, loop}
use Rattle.std.proofs.Math.ListN.{length-append}
use Rattle.grammar.specs.Laws.Ahead.{tail_nil, Cond, same, more, cond_after}

pub leaves_app : (x y : Forest) → leaves (x <> y) ≡ leaves x ++ leaves y
leaves_app nil y = refl
leaves_app (leaf s x) y = ap (λ l. s ∷ l) (leaves_app x y)
leaves_app (node k c x) y = ap (λ l. leaves c ++ l) (leaves_app x y) ∙ sym (append_assoc (leaves c) (leaves x) (leaves y))
leaves_app (say m x) y = leaves_app x y

pub app_assoc : (x y z : Forest) → (x <> y) <> z ≡ x <> (y <> z)
app_assoc nil y z = refl
app_assoc (leaf s x) y z = ap (leaf s) (app_assoc x y z)
app_assoc (node k c x) y z = ap (node k c) (app_assoc x y z)
app_assoc (say m x) y z = ap (say m) (app_assoc x y z)

-- No diagnostic of the forest is bad.
abbrev pub Calm : (ℕ → Bool) → Forest → Type 0
Calm bad nil = Unit {0}
Calm bad (leaf s x) = Calm bad x
Calm bad (node k c x) = Calm bad c × Calm bad x
Calm bad (say m x) = (bad m ≡ false) × Calm bad x

pub calm_app : (bad : ℕ → Bool) (x y : Forest) → Calm bad (x <> y) → Calm bad x × Calm bad y
calm_app bad nil y k = (tt, k)
calm_app bad (leaf s x) y k = calm_app bad x y k
calm_app bad (node n c x) y k = let g = calm_app bad x y k.1 in ((k.0, g.0), g.1)
calm_app bad (say m x) y k = let g = calm_app bad x y k.1 in ((k.0, g.0), g.1)

-- The result with b behind what is left.
abbrev pub ext : {A : Type 0} → List Sym → Res A → Res A
ext b x = record { rest = x.rest ++ b; out = x.out; val = x.val }

-- (L) f takes what it puts out, in order. (J) Where f did nothing bad and left an `end` and a newline,
-- f' does the same on the file that goes on by b. f' is f with more fuel, or a higher limit; b may be [].
pub record Good (b : List Sym) (bad : ℕ → Bool) {A : Type 0} (f f' : P A) : Type 0 where
  pub split : (r : List Sym) → leaves (f r).out ++ (f r).rest ≡ r
  pub goes : (r : List Sym) → Cond b (f r).rest → Calm bad (f r).out → f' (r ++ b) ≡ ext b (f r)

pub goes_bind : {A B : Type 0} (b : List Sym) (f f' : P A) (g g' : A → P B) (r : List Sym) → f' (r ++ b) ≡ ext b (f r) → g' (f r).val ((f r).rest ++ b) ≡ ext b (g (f r).val (f r).rest) → (f' >>= g') (r ++ b) ≡ ext b ((f >>= g) r)
unfolding ◌>>=◌
goes_bind b f f' g g' r p q = rw (p, q)

pub goes_node : {A : Type 0} (b : List Sym) (j : Kind) (f f' : P A) (r : List Sym) → f' (r ++ b) ≡ ext b (f r) → in_node j f' (r ++ b) ≡ ext b (in_node j f r)
unfolding in_node
goes_node b j f f' r p = rw p

module _ {b : List Sym} {bad : ℕ → Bool} where
  -- What was left before, from what is left after.
  pub cond_split : {A : Type 0} {f f' : P A} → Good b bad f f' → (r : List Sym) → Cond b (f r).rest → Cond b r
  cond_split {f} h r c = subst (Cond b) (h.split r) (cond_after (leaves (f r).out) c)

  pub good_pure : {A : Type 0} (a : A) → Good b bad (pure a) (pure a)
  unfolding pure
  good_pure a = record { split = λ r. refl; goes = λ r c k. refl }

  pub good_peek : {A : Type 0} (t : List Sym → A) → ((r : List Sym) → Cond b r → t (r ++ b) ≡ t r) → Good b bad (peek t) (peek t)
  unfolding peek
  good_peek t h = record { split = λ r. refl; goes = λ r c k. rw (h r c) }

  pub good_take : Good b bad take_token take_token
  unfolding take_token
  good_take = record { split = s; goes = g }
    where
      s : (r : List Sym) → leaves (take_token r).out ++ (take_token r).rest ≡ r
      s [] = refl
      s (x ∷ r) = refl

      g : (r : List Sym) → Cond b (take_token r).rest → Calm bad (take_token r).out → take_token (r ++ b) ≡ ext b (take_token r)
      g [] (same e) k = rw e
      g [] (more t) k = absurd (tail_nil t)
      g (x ∷ r) c k = refl

  pub good_err : (m : ℕ) → Good b bad (err m) (err m)
  unfolding err
  good_err m = record { split = λ r. refl; goes = λ r c k. refl }

  pub good_node : (n : Kind) {A : Type 0} {f f' : P A} → Good b bad f f' → Good b bad (in_node n f) (in_node n f')
  unfolding in_node
  good_node n {A} {f} {f'} h = record { split = λ r. rw append-nil (h.split r); goes = λ r c k. goes_node b n f f' r (h.goes r c k.0) }

  pub good_pick : (u : Bool) {A : Type 0} {f f' g g' : P A} → Good b bad f f' → Good b bad g g' → Good b bad (pick u f g) (pick u f' g')
  good_pick true F G = F
  good_pick false F G = G

  pub good_bind : {A B : Type 0} {f f' : P A} {g g' : A → P B} → Good b bad f f' → ((a : A) → Good b bad (g a) (g' a)) → Good b bad (f >>= g) (f' >>= g')
  unfolding ◌>>=◌
  good_bind {f} {f'} {g} {g'} F G = record { split = s; goes = h }
    where
      s : (r : List Sym) → leaves ((f >>= g) r).out ++ ((f >>= g) r).rest ≡ r
      s r = rw (leaves_app, append_assoc) (ap (λ l. leaves (f r).out ++ l) ((G (f r).val).split (f r).rest) ∙ F.split r)

      h : (r : List Sym) → Cond b ((f >>= g) r).rest → Calm bad ((f >>= g) r).out → (f' >>= g') (r ++ b) ≡ ext b ((f >>= g) r)
      h r c k =
          let p = calm_app bad (f r).out (g (f r).val (f r).rest).out k in
          goes_bind b f f' g g' r (F.goes r (cond_split (G (f r).val) (f r).rest c) p.0) ((G (f r).val).goes (f r).rest c p.1)

  pub good_if : {A : Type 0} (t : List Sym → Bool) {f f' g g' : P A} → ((r : List Sym) → Cond b r → t (r ++ b) ≡ t r) → Good b bad f f' → Good b bad g g' → Good b bad (when t then f else g) (when t then f' else g')
  good_if t h F G = good_bind (good_peek t h) (λ u. good_pick u F G)

  -- Out of fuel: that is bad.
  pub good_fuel : bad m_never ≡ true → {A : Type 0} (a : A) {g : P A} → Good b bad (err m_never >> pure a) g
  unfolding ◌>>=◌ err pure
  good_fuel fuel a = record { split = λ r. refl; goes = λ r c k. absurd (true≢false (sym fuel ∙ k.0)) }

  good_repeat : bad m_never ≡ true → (n m : ℕ) → n ≤ m → {f f' : P Bool} → Good b bad f f' → Good b bad (repeat n f) (repeat m f')
  unfolding repeat
  good_repeat fuel zero m h F = good_fuel fuel false
  good_repeat fuel (suc n) zero h F = absurd (omega arith)
  good_repeat fuel (suc n) (suc m) h F = good_bind F (λ c. good_pick c (good_repeat fuel n m (omega arith) F) (good_pure false))

  pub good_loop : bad m_never ≡ true → {f f' : P Bool} → Good b bad f f' → Good b bad (loop f) (loop f')
  unfolding loop
  good_loop fuel F = record {
    split = λ r. (good_repeat fuel (suc (length r)) (suc (length r)) (omega arith) F).split r;
    goes = λ r. (good_repeat fuel (suc (length r)) (suc (length (r ++ b))) (omega (arith, length-append r b)) F).goes r;
  }

module _ {L : Type 0} where
  pub turn_split : (u : Round L) (l : L) (s : Sym) (r : List Sym) (k : L → Res L) → ((l' : L) → leaves (k l').out ++ (k l').rest ≡ r) → leaves (turn u l s r k).out ++ (turn u l s r k).rest ≡ s ∷ r
  turn_split stop l s r k e = refl
  turn_split (go l') l s r k e = ap (λ x. s ∷ x) (e l')
  turn_split (warn m l') l s r k e = ap (λ x. s ∷ x) (e l')

  pub scan_split : (step : L → List Sym → Round L) (l : L) (r : List Sym) → leaves (scan step l r).out ++ (scan step l r).rest ≡ r
  unfolding scan
  scan_split step l [] = refl
  scan_split step l (s ∷ r) = turn_split (step l (s ∷ r)) l s r (λ l'. scan step l' r) (λ l'. scan_split step l' r)

  module _ (b : List Sym) (bad : ℕ → Bool) where
    turn_goes : (u : Round L) (l : L) (s : Sym) (r : List Sym) (k k' : L → Res L) → ((l' : L) → Cond b (k l').rest → Calm bad (k l').out → k' l' ≡ ext b (k l')) → Cond b (turn u l s r k).rest → Calm bad (turn u l s r k).out → turn u l s (r ++ b) k' ≡ ext b (turn u l s r k)
    turn_goes stop l s r k k' e c q = refl
    turn_goes (go l') l s r k k' e c q = rw (e l' c q)
    turn_goes (warn m l') l s r k k' e c q = rw (e l' c q.1)

    module _ (step : L → List Sym → Round L) (h : (l : L) (r : List Sym) → Cond b r → step l (r ++ b) ≡ step l r) where
      scan_goes : (l : L) (r : List Sym) → Cond b (scan step l r).rest → Calm bad (scan step l r).out → scan step l (r ++ b) ≡ ext b (scan step l r)
      unfolding scan
      scan_goes l [] (same e) k = rw e
      scan_goes l [] (more t) k = absurd (tail_nil t)
      scan_goes l (s ∷ r) c k =
          rw (h l (s ∷ r) (subst (Cond b) (scan_split step l (s ∷ r)) (cond_after (leaves (scan step l (s ∷ r)).out) c)))
          (turn_goes (step l (s ∷ r)) l s r (λ l'. scan step l' r) (λ l'. scan step l' (r ++ b)) (λ l'. scan_goes l' r) c k)

      pub good_scan : (l : L) → Good b bad (scan step l) (scan step l)
      good_scan l = record { split = scan_split step l; goes = scan_goes l }
