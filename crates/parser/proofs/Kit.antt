-- The kit: how what the callees do is put together, once for each way in which the definition puts functions together. Assumes nothing.
use mathlib.Core.Bool.{Bool, true, false, false≢true}
use mathlib.Core.List.{List, [], ◌∷◌}
use mathlib.Core.Path.{◌≡◌, refl, sym, ap, ap₂, subst, ◌∙◌}
use Prim.Native.Nat.{ℕ}
use native.Mathlib.Omega.{arith}
use lib.ListN.{length-append}
use Rattle.grammar.specs.Words.{Sym, from}
use Rattle.grammar.specs.Look
use Rattle.grammar.specs.Run
use Rattle.grammar.specs.Run.{Kind, num, P, pure, peek, in_node, pick, ◌>>=◌, ◌>>◌, when◌then◌else◌, take_token, scan, Round, stop, go, warn, turn}
use Rattle.grammar.specs.Out.{ev, dg}
use Rattle.grammar.specs.State.{State, after, run, write}
use Rattle.grammar.specs.Laws.Code.{run_bind, run_node, run_pure}
use Rattle.parser.specs.declared.state.Parser.{Parser}
use Rattle.parser.specs.Rep.{World, file, remaining, Rep, Small, SameParserSlices, Onward, Wrote, Ran, RanTo}

run_same : {A : Type 0} (f g : P A) (s : State) → f s.rest ≡ g s.rest → run f s ≡ run g s
unfolding run
run_same f g s e = ap (λ x. after s x) e

-- what came before is no longer
small_before : {A : Type 0} (f : P A) (s : State) → Small (run f s) → Small s
unfolding run
small_before f s z = record {
  pos = omega (arith, z.pos);
  events = omega (arith, z.events, length-append s.evs (ev (f s.rest).out));
  diags = omega (arith, z.diags, length-append s.dgs (dg s.pos (f s.rest).out));
}

pub small_written : (v : ℕ) (s : State) → Small (write v s) → Small s
small_written v s z = record { pos = z.pos; events = omega (arith, z.events, length-append s.evs (v ∷ [])); diags = z.diags }

same : {p : Parser} → SameParserSlices p p
same = record { kinds = refl; events = refl; messages = refl; starts = refl; event_room = refl; message_room = refl; start_room = refl }

also_same : {p q r : Parser} → SameParserSlices p q → SameParserSlices q r → SameParserSlices p r
also_same a b = record {
  kinds = b.kinds ∙ a.kinds;
  events = b.events ∙ a.events;
  messages = b.messages ∙ a.messages;
  starts = b.starts ∙ a.starts;
  event_room = b.event_room ∙ a.event_room;
  message_room = b.message_room ∙ a.message_room;
  start_room = b.start_room ∙ a.start_room;
}

pub stays : {w : World} → Onward w w
stays = record { ahead = omega arith; tokens = refl; slices = same }

pub same_file : {w w' : World} → Onward w w' → file w' ≡ file w
same_file o = ap (λ l. l.now) o.slices.kinds

-- no token taken: what is left is the same
pub same_remaining : {w w' : World} → Onward w w' → w'.c.pos ≡ w.c.pos → remaining w' ≡ remaining w
same_remaining o p = ap₂ from (same_file o) p

infixr 10 ◌farther◌
pub ◌farther◌ : {w v w' : World} → Onward w v → Onward v w' → Onward w w'
a farther b = record { ahead = omega arith; tokens = b.tokens ∙ a.tokens; slices = also_same a.slices b.slices }

if_is : {A : Type 0} (t : List Sym → Bool) (f g : P A) (r : List Sym) → (when t then f else g) r ≡ pick (t r) f g r
unfolding ◌>>=◌ peek
if_is t f g r = refl

node_rest : {A : Type 0} (k : Kind) (f : P A) (r : List Sym) → (in_node k f r).rest ≡ (f r).rest
unfolding in_node
node_rest k f r = refl

node_val : {A : Type 0} (k : Kind) (f : P A) (r : List Sym) → (in_node k f r).val ≡ (f r).val
unfolding in_node
node_val k f r = refl

bind_rest : {A B : Type 0} (f : P A) (g : A → P B) (r : List Sym) → ((f >>= g) r).rest ≡ (g (f r).val (f r).rest).rest
unfolding ◌>>=◌
bind_rest f g r = refl

bind_val : {A B : Type 0} (f : P A) (g : A → P B) (r : List Sym) → ((f >>= g) r).val ≡ (g (f r).val (f r).rest).val
unfolding ◌>>=◌
bind_val f g r = refl

pure_rest : {A : Type 0} (a : A) (r : List Sym) → (pure a r).rest ≡ r
unfolding pure
pure_rest a r = refl

pure_val : {A : Type 0} (a : A) (r : List Sym) → (pure a r).val ≡ a
unfolding pure
pure_val a r = refl

module _ {A : Type 0} {w w' : World} where
  -- f and g are the same at what is left here
  pub like : {f : P A} (g : P A) → f (remaining w) ≡ g (remaining w) → Ran g w w' → Ran f w w'
  like {f} g e h = record {
    sim = λ b s r z.
        let q = run_same f g s (ap f r.rest ∙ e ∙ ap g (sym r.rest)) in
        subst (Rep b w') (sym q) (h.sim b s r (subst Small q z));
    rest = ap (λ x. x.rest) e ∙ h.rest;
    onward = h.onward;
  }

  pub like_to : {f : P A} {a : A} (g : P A) → f (remaining w) ≡ g (remaining w) → RanTo g w w' a → RanTo f w w' a
  like_to g e h = record { ran = like g e h.ran; val = ap (λ x. x.val) e ∙ h.val }

  -- a test of the code, x, that says what t says here
  pub yes : (t : List Sym → Bool) {f : P A} (g : P A) {x : Bool} → x ≡ t (remaining w) → x ≡ true → Ran f w w' → Ran (when t then f else g) w w'
  yes t {f} g e k h = like f (if_is t f g _ ∙ ap (λ u. pick u f g (remaining w)) (sym e ∙ k)) h

  pub no : (t : List Sym → Bool) (f : P A) {g : P A} {x : Bool} → x ≡ t (remaining w) → x ≡ false → Ran g w w' → Ran (when t then f else g) w w'
  no t f {g} e k h = like g (if_is t f g _ ∙ ap (λ u. pick u f g (remaining w)) (sym e ∙ k)) h

  pub yes_to : (t : List Sym → Bool) {f : P A} (g : P A) {x : Bool} {a : A} → x ≡ t (remaining w) → x ≡ true → RanTo f w w' a → RanTo (when t then f else g) w w' a
  yes_to t {f} g e k h = like_to f (if_is t f g _ ∙ ap (λ u. pick u f g (remaining w)) (sym e ∙ k)) h

  pub no_to : (t : List Sym → Bool) (f : P A) {g : P A} {x : Bool} {a : A} → x ≡ t (remaining w) → x ≡ false → RanTo g w w' a → RanTo (when t then f else g) w w' a
  no_to t f {g} e k h = like_to g (if_is t f g _ ∙ ap (λ u. pick u f g (remaining w)) (sym e ∙ k)) h

  -- a value of the code that decides
  pub on : {f : P A} (g : P A) {x : Bool} → x ≡ true → Ran f w w' → Ran (pick x f g) w w'
  on {f} g k h = subst (λ (u : Bool). Ran (pick u f g) w w') (sym k) h

  pub off : (f : P A) {g : P A} {x : Bool} → x ≡ false → Ran g w w' → Ran (pick x f g) w w'
  off f {g} k h = subst (λ (u : Bool). Ran (pick u f g) w w') (sym k) h

  pub on_to : {f : P A} (g : P A) {x : Bool} {a : A} → x ≡ true → RanTo f w w' a → RanTo (pick x f g) w w' a
  on_to {f} g {a} k h = subst (λ (u : Bool). RanTo (pick u f g) w w' a) (sym k) h

  pub off_to : (f : P A) {g : P A} {x : Bool} {a : A} → x ≡ false → RanTo g w w' a → RanTo (pick x f g) w w' a
  off_to f {g} {a} k h = subst (λ (u : Bool). RanTo (pick u f g) w w' a) (sym k) h

  -- start_node .. finish_node
  pub node : (k : Kind) {f : P A} {v v' : World} → Wrote (num k) w v → Ran f v v' → Wrote 0 v' w' → Ran (in_node k f) w w'
  node k {f} p h q = record {
    sim = λ b s r z.
        let z₂ = subst Small (run_node k f s) z in
        let z₁ = small_written 0 _ z₂ in
        subst (Rep b w') (sym (run_node k f s)) (q.sim b _ (h.sim b _ (p.sim b s r (small_before f _ z₁)) z₁) z₂);
    rest = node_rest k f _ ∙ ap (λ l. (f l).rest) (sym p.rest) ∙ h.rest ∙ sym q.rest;
    onward = p.onward farther h.onward farther q.onward;
  }

  pub node_to : (k : Kind) {f : P A} {v v' : World} {a : A} → Wrote (num k) w v → RanTo f v v' a → Wrote 0 v' w' → RanTo (in_node k f) w w' a
  node_to k {f} p h q = record { ran = node k p h.ran q; val = node_val k f _ ∙ ap (λ l. (f l).val) (sym p.rest) ∙ h.val }

module _ {A : Type 0} {w : World} (a : A) where
  pub done : Ran (pure a) w w
  done = record { sim = λ b s r z. subst (Rep b w) (sym (run_pure a s)) r; rest = pure_rest a _; onward = stays }

  pub done_to : RanTo (pure a) w w a
  done_to = record { ran = done; val = pure_val a _ }

module _ {A B : Type 0} {w v w' : World} where
  -- one after the other
  pub bind : {f : P A} (g : A → P B) {a : A} → RanTo f w v a → Ran (g a) v w' → Ran (f >>= g) w w'
  bind {f} g {a} h k = record {
    sim = λ b s r z.
        let q = run_bind f g s ∙ ap (λ a. run (g a) (run f s)) (ap (λ l. (f l).val) r.rest ∙ h.val) in
        let z₁ = subst Small q z in
        subst (Rep b w') (sym q) (k.sim b (run f s) (h.ran.sim b s r (small_before (g a) (run f s) z₁)) z₁);
    rest = bind_rest f g _ ∙ ap₂ (λ a l. (g a l).rest) h.val h.ran.rest ∙ k.rest;
    onward = h.ran.onward farther k.onward;
  }

  pub bind_to : {f : P A} (g : A → P B) {a : A} {c : B} → RanTo f w v a → RanTo (g a) v w' c → RanTo (f >>= g) w w' c
  bind_to {f} g h k = record { ran = bind g h k.ran; val = bind_val f g _ ∙ ap₂ (λ a l. (g a l).val) h.val h.ran.rest ∙ k.val }

  infixr 10 ◌then◌ ◌then_to◌
  pub ◌then◌ : {f : P A} {g : P B} → Ran f w v → Ran g v w' → Ran (f >> g) w w'
  ◌then◌ {f} {g} h k = record {
    sim = λ b s r z.
        let q = run_bind f (λ a. g) s in
        let z₁ = subst Small q z in
        subst (Rep b w') (sym q) (k.sim b (run f s) (h.sim b s r (small_before g (run f s) z₁)) z₁);
    rest = bind_rest f (λ a. g) _ ∙ ap (λ l. (g l).rest) h.rest ∙ k.rest;
    onward = h.onward farther k.onward;
  }

  pub ◌then_to◌ : {f : P A} {g : P B} {c : B} → Ran f w v → RanTo g v w' c → RanTo (f >> g) w w' c
  ◌then_to◌ {f} {g} h k = record { ran = h then k.ran; val = bind_val f (λ a. g) _ ∙ ap (λ l. (g l).val) h.rest ∙ k.val }

-- the same answer in other words, and the same message
pub answers : {A : Type 0} {f : P A} {w w' : World} {a a' : A} → RanTo f w w' a → a ≡ a' → RanTo f w w' a'
answers h e = record { ran = h.ran; val = h.val ∙ e }

pub says : {w w' : World} (m m' : ℕ) → m ≡ m' → Ran (Run.err m) w w' → Ran (Run.err m') w w'
says {w} {w'} m m' e h = subst (λ n. Ran (Run.err n) w w') e h

-- ---- loops. The loop that began as f₀ at w₀ has come to f at w: what goes on from there goes on from the start
pub record Leads {A : Type 0} (f₀ : P A) (w₀ : World) (f : P A) (w : World) : Type 0 where
  pub on : (w' : World) (r : A) → RanTo f w w' r → RanTo f₀ w₀ w' r

pub begins : {A : Type 0} {f : P A} {w : World} → Leads f w f w
begins = record { on = λ w' r h. h }

pub begins_as : {A : Type 0} {f g : P A} {w : World} → f ≡ g → Leads f w g w
begins_as {w} e = record { on = λ w' r h. subst (λ f. RanTo f w w' r) (sym e) h }

-- a round that goes on
pub goes_on : {A : Type 0} {f₀ f g : P A} {w₀ w v : World} → Leads f₀ w₀ f w → ((w' : World) (r : A) → RanTo g v w' r → RanTo f w w' r) → Leads f₀ w₀ g v
goes_on l k = record { on = λ w' r h. l.on w' r (k w' r h) }

-- ---- scan: a round stops, takes the token, or reports and takes it
module _ {L : Type 0} (step : L → List Sym → Round L) where
  scan_stop_eq : (l : L) (r : List Sym) → step l r ≡ stop → scan step l r ≡ pure l r
  unfolding scan pure
  scan_stop_eq l [] e = refl
  scan_stop_eq l (s ∷ r) e = ap (λ t. turn t l s r (λ l'. scan step l' r)) e

  scan_end_eq : (l : L) (r : List Sym) → Look.eof r ≡ true → scan step l r ≡ pure l r
  unfolding scan pure Look.eof
  scan_end_eq l [] e = refl
  scan_end_eq l (s ∷ r) e = absurd (false≢true e)

  pub scan_go_eq : (l l' : L) (r : List Sym) → Look.eof r ≡ false → step l r ≡ go l' → scan step l r ≡ (take_token >> scan step l') r
  unfolding scan ◌>>=◌ take_token Look.eof
  scan_go_eq l l' [] h e = absurd (false≢true (sym h))
  scan_go_eq l l' (s ∷ r) h e = ap (λ t. turn t l s r (λ l'. scan step l' r)) e

  pub scan_warn_eq : (l l' : L) (m : ℕ) (r : List Sym) → Look.eof r ≡ false → step l r ≡ warn m l' → scan step l r ≡ (Run.err m >> take_token >> scan step l') r
  unfolding scan ◌>>=◌ take_token Run.err Look.eof
  scan_warn_eq l l' m [] h e = absurd (false≢true (sym h))
  scan_warn_eq l l' m (s ∷ r) h e = ap (λ t. turn t l s r (λ l'. scan step l' r)) e

  module _ {w : World} where
    pub scan_stop : (l : L) → step l (remaining w) ≡ stop → RanTo (scan step l) w w l
    scan_stop l e = like_to (pure l) (scan_stop_eq l _ e) (done_to l)

    pub scan_end : (l : L) → Look.eof (remaining w) ≡ true → RanTo (scan step l) w w l
    scan_end l e = like_to (pure l) (scan_end_eq l _ e) (done_to l)

    pub scan_go : (l l' : L) {v w' : World} {r : L} → Look.eof (remaining w) ≡ false → step l (remaining w) ≡ go l' → Ran take_token w v → RanTo (scan step l') v w' r → RanTo (scan step l) w w' r
    scan_go l l' z e t h = like_to (take_token >> scan step l') (scan_go_eq l l' _ z e) (t then_to h)

  -- the same behind the rounds before
  module _ {f₀ : P L} {w₀ w : World} {l : L} (i : Leads f₀ w₀ (scan step l) w) where
    pub loop_stops : step l (remaining w) ≡ stop → RanTo f₀ w₀ w l
    loop_stops e = i.on _ _ (scan_stop l e)

    pub loop_ends : {x : Bool} → x ≡ Look.eof (remaining w) → x ≡ true → RanTo f₀ w₀ w l
    loop_ends e t = i.on _ _ (scan_end l (sym e ∙ t))

    pub loop_takes : {l' : L} {v : World} → Look.eof (remaining w) ≡ false → step l (remaining w) ≡ go l' → Ran take_token w v → Leads f₀ w₀ (scan step l') v
    loop_takes {l'} z e t = goes_on i (λ w' r k. scan_go l l' z e t k)
