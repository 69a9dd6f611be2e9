-- One event, one diagnostic, one token more: what they do to what stands for a state; and what is read of the tokens.
-- Assumes nothing.
use mathlib.Core.Bool.{Bool, true, false, false≢true}
use mathlib.Core.List.{List, [], ◌∷◌, ◌++◌, append-nil, map, map-append}
use mathlib.Core.Path.{◌≡◌, refl, sym, ap, ap₂, subst, ◌∙◌}
use Prim.Native.Nat.{ℕ, ◌+◌, ◌-◌, ◌≤◌, ◌<◌, ◌^◌}
use native.Mathlib.Numerals.{add-one}
use native.Mathlib.Omega.{arith}
use lib.Dec.{leb, eqb}
use lib.ListN.{length, get_or, set, drop, length-append, length-drop, length-map, length-set, drop_of_length-le}
use lib.Seq.{drop-cons}
use borrow.Author.Tests.{leb-true, leb-false, ne_eqb}
use Rattle.room.specs.Over.{over, over_append}
use Rattle.lexer.specs.Syntax
use Rattle.grammar.specs.Words.{Sym, is}
use Rattle.grammar.specs.Words.{File, from}
use Rattle.grammar.specs.Look.{at, skip}
use Rattle.grammar.specs.Look
use Rattle.grammar.specs.Look.{current}
use Rattle.grammar.specs.Run.{P, take_token}
use Rattle.grammar.specs.Run
use Rattle.grammar.specs.declared.message.Message.{Message}
use Rattle.grammar.specs.Message.{number}
use Rattle.grammar.specs.Out.{kind, Diag}
use Rattle.grammar.specs.State.{State, run, write, report}
use Rattle.grammar.specs.Laws.Code.{run_err}
use Rattle.parser.specs.Rep.{World, file, remaining, Rep, Small, Onward, Past, Wrote, Ran, PlainToken}
use Rattle.parser.proofs.Kit.{stays, ◌farther◌, small_written}

abbrev unrecognized : ℕ
unrecognized = number Message.UnrecognizedToken

length_snoc : {A : Type 0} (xs : List A) (x : A) → length (xs ++ x ∷ []) ≡ length xs + 1
length_snoc xs x = length-append xs (x ∷ [])

-- one number more, where those before it have come to
over_one : (l vs : List ℕ) (n v : ℕ) → length vs ≡ n → over l 0 (vs ++ v ∷ []) ≡ set (over l 0 vs) n v
over_one l vs n v e = over_append l 0 vs (v ∷ []) ∙ ap (λ k. set (over l 0 vs) k v) (omega (arith, e))

-- the same of what is written for each of a list
over_map : {A : Type 0} (f : A → ℕ) (l : List ℕ) (xs : List A) (n : ℕ) (x : A) {l' : List ℕ} → length xs ≡ n → l' ≡ over l 0 (map f xs)
    → set l' n (f x) ≡ over l 0 (map f (xs ++ x ∷ []))
over_map f l xs n x e q = rw (q, map-append f xs (x ∷ [])) (sym (over_one l (map f xs) n (f x) (length-map xs f ∙ e)))

err_rest : (m : ℕ) (r : List Sym) → (Run.err m r).rest ≡ r
unfolding Run.err
err_rest m r = refl

-- ---- one event more, one diagnostic more: the code's count is right where it fits
module _ (w w' : World) (k : w'.p.kinds ≡ w.p.kinds) (p : w'.c.pos ≡ w.c.pos) where
  remaining_is : remaining w' ≡ remaining w
  remaining_is = ap₂ (λ (f : File) (i : ℕ). from f i) (ap (λ l. l.now) k) p

  tokens_is : length (file w') ≡ length (file w)
  tokens_is = ap (λ l. length l.now) k

  pub put_event : (v : ℕ) → w'.p.events.ghost_name ≡ w.p.events.ghost_name → w'.p.events.now ≡ set w.p.events.now w.c.events v
      → w'.p.messages ≡ w.p.messages → w'.p.starts ≡ w.p.starts → (w.c.events + 1 < 2 ^ 64 → w'.c.events ≡ w.c.events + 1) → w'.c.diags ≡ w.c.diags → Wrote v w w'
  put_event v g l m t n d = record {
    sim = λ b s r z.
        let fits : w.c.events + 1 < 2 ^ 64 = omega (arith, z.events, length_snoc s.evs v, r.evs) in
        record {
          rest = r.rest ∙ sym remaining_is;
          pos = r.pos ∙ sym p;
          evs = length_snoc s.evs v ∙ ap (λ n. n + 1) r.evs ∙ sym (n fits);
          dgs = r.dgs ∙ sym d;
          events = l ∙ ap (λ (l : List ℕ). set l w.c.events v) r.events ∙ sym (over_one b.p.events.now s.evs w.c.events v r.evs);
          messages = ap (λ l. l.now) m ∙ r.messages;
          starts = ap (λ l. l.now) t ∙ r.starts;
        };
    rest = remaining_is;
    pos = p;
    messages = m;
    starts = t;
    onward = record {
      ahead = omega (arith, p);
      tokens = tokens_is;
      slices = record {
        kinds = k;
        events = g;
        messages = ap (λ l. l.ghost_name) m;
        starts = ap (λ l. l.ghost_name) t;
        event_room = ap length l ∙ length-set w.p.events.now w.c.events v;
        message_room = ap (λ l. length l.now) m;
        start_room = ap (λ l. length l.now) t;
      };
    };
  }

  pub say_here : (m : ℕ) {x : ℕ} → w'.p.messages.ghost_name ≡ w.p.messages.ghost_name → w'.p.starts.ghost_name ≡ w.p.starts.ghost_name
      → w'.p.messages.now ≡ set w.p.messages.now w.c.diags m → w'.p.starts.now ≡ set w.p.starts.now w.c.diags x → (w.c.pos < 2 ^ 32 → x ≡ w.c.pos)
      → w'.p.events ≡ w.p.events → w'.c.events ≡ w.c.events → (w.c.diags + 1 < 2 ^ 64 → w'.c.diags ≡ w.c.diags + 1) → Ran (Run.err m) w w'
  say_here m {x} g g' l l' i u e n = record {
    sim = λ b s r z.
        let z₁ : Small (report m s) = subst Small (run_err m s) z in
        let new : Diag = record { msg = m; pos = s.pos } in
        let fits : w.c.diags + 1 < 2 ^ 64 = omega (arith, z₁.diags, length_snoc s.dgs new, r.dgs) in
        let at : x ≡ s.pos = i (omega (arith, z₁.pos, r.pos)) ∙ sym r.pos in
        subst (Rep b _) (sym (run_err m s)) (record {
          rest = r.rest ∙ sym remaining_is;
          pos = r.pos ∙ sym p;
          evs = r.evs ∙ sym e;
          dgs = length_snoc s.dgs new ∙ ap (λ n. n + 1) r.dgs ∙ sym (n fits);
          events = ap (λ l. l.now) u ∙ r.events;
          messages = l ∙ over_map (λ d. d.msg) b.p.messages.now s.dgs w.c.diags new r.dgs r.messages;
          starts = l' ∙ ap (set w.p.starts.now w.c.diags) at ∙ over_map (λ d. d.pos) b.p.starts.now s.dgs w.c.diags new r.dgs r.starts;
        });
    rest = err_rest m _ ∙ sym remaining_is;
    onward = record {
      ahead = omega (arith, p);
      tokens = tokens_is;
      slices = record {
        kinds = k;
        events = ap (λ l. l.ghost_name) u;
        messages = g;
        starts = g';
        event_room = ap (λ l. length l.now) u;
        message_room = ap length l ∙ length-set w.p.messages.now w.c.diags m;
        start_room = ap length l' ∙ length-set w.p.starts.now w.c.diags x;
      };
    };
  }

-- ---- the tokens from a place on
module _ (F : File) where
  pub rest_nil : (p : ℕ) → length F ≤ p → drop p F ≡ []
  rest_nil p h = drop_of_length-le F h

  pub rest_cons : (p : ℕ) → p < length F → drop p F ≡ get_or F p 0 ∷ drop (p + 1) F
  rest_cons p h = drop-cons F p 0 h ∙ ap (λ (n : ℕ). get_or F p 0 ∷ drop n F) (sym (add-one p))

  -- a test of the token here, or of none
  pub at_in : (t : Sym → Bool) (p : ℕ) → p < length F → t (get_or F p 0) ≡ at t (drop p F)
  unfolding at
  at_in t p h = sym (ap (at t) (rest_cons p h))

  pub at_out : (t : Sym → Bool) (p : ℕ) → length F ≤ p → false ≡ at t (drop p F)
  unfolding at
  at_out t p h = sym (ap (at t) (rest_nil p h))

  pub eof_is : (p : ℕ) → leb (length F) p ≡ Look.eof (drop p F)
  unfolding Look.eof
  eof_is p = go (leb (length F) p) refl
    where
      go : (t : Bool) → leb (length F) p ≡ t → t ≡ Look.eof (drop p F)
      go true e = sym (ap Look.eof (rest_nil p (leb-true _ _ e)))
      go false e = sym (ap Look.eof (rest_cons p (leb-false _ _ e)))

-- ---- a token is taken: its event is written, after a report where it is of no kind, and the cursor goes one on
run_end : (s : State) → s.rest ≡ [] → run take_token s ≡ s
unfolding run take_token
run_end s e = rw (e, append-nil s.evs, append-nil s.dgs) (let z : s.pos + 0 ≡ s.pos = omega arith in ap (λ (n : ℕ). record { rest = []; pos = n; evs = s.evs; dgs = s.dgs }) z)

abbrev one_on : List Sym → State → State
one_on l s = record { rest = l; pos = s.pos + 1; evs = s.evs; dgs = s.dgs }

run_plain : (x : Sym) (l : List Sym) (s : State) → s.rest ≡ x ∷ l → is Syntax.Error x ≡ false → run take_token s ≡ one_on l (write (kind x) s)
unfolding run take_token
run_plain x l s e n = rw (e, n, append-nil s.dgs)

run_bad : (x : Sym) (l : List Sym) (s : State) → s.rest ≡ x ∷ l → is Syntax.Error x ≡ true → run take_token s ≡ one_on l (write (kind x) (report unrecognized s))
unfolding run take_token
run_bad x l s e n = rw (e, n)

-- what w' holds, one token on from w
abbrev pub past : World → World → World
past w w' = record { p = w'.p; c = record { pos = w.c.pos + 1; events = w'.c.events; diags = w'.c.diags } }

take_nil : (r : List Sym) → r ≡ [] → (take_token r).rest ≡ r
unfolding take_token
take_nil r e = ap (λ l. (take_token l).rest) e ∙ sym e

take_cons : (r : List Sym) (x : Sym) (l : List Sym) → r ≡ x ∷ l → (take_token r).rest ≡ l
unfolding take_token
take_cons r x l e = ap (λ l. (take_token l).rest) e

pub take_end : {w : World} → length (file w) ≤ w.c.pos → Ran take_token w w
take_end {w} h = record {
  sim = λ b s r z. subst (Rep b w) (sym (run_end s (r.rest ∙ rest_nil (file w) w.c.pos h))) r;
  rest = take_nil _ (rest_nil (file w) w.c.pos h);
  onward = stays;
}

-- what is left one token on
abbrev behind : World → List Sym
behind w = from (file w) (w.c.pos + 1)

-- the cursor one token on
on_past : {w w' : World} → Onward w w' → Onward w (past w w')
on_past o = record { ahead = omega arith; tokens = o.tokens; slices = o.slices }

behind_is : {w w' : World} → Onward w w' → remaining (past w w') ≡ behind w
behind_is {w} o = ap (λ l. from l.now (w.c.pos + 1)) o.slices.kinds

step_on : {b : World} (w : World) {w' : World} {s : State} → Onward w w' → s.pos ≡ w.c.pos → Rep b w' s → Rep b (past w w') (one_on (behind w) s)
step_on w o e z = record {
  rest = sym (behind_is o);
  pos = ap (λ i. i + 1) e;
  evs = z.evs;
  dgs = z.dgs;
  events = z.events;
  messages = z.messages;
  starts = z.starts;
}

head : {w : World} (x : Sym) → w.c.pos < length (file w) → get_or (file w) w.c.pos 0 ≡ x → {b : World} {s : State} → Rep b w s → s.rest ≡ x ∷ behind w
head {w} x h e r = r.rest ∙ rest_cons (file w) w.c.pos h ∙ ap (λ (y : Sym). y ∷ behind w) e

small_here : {l : List Sym} {s : State} → Small (one_on l s) → Small s
small_here z = record { pos = omega (arith, z.pos); events = z.events; diags = z.diags }

module _ {w w' : World} (x : Sym) (h : w.c.pos < length (file w)) (e : get_or (file w) w.c.pos 0 ≡ x) where
  take_plain : is Syntax.Error x ≡ false → Wrote (kind x) w w' → Ran take_token w (past w w')
  take_plain n p = record {
    sim = λ b s r z.
        let q = run_plain x (behind w) s (head {w = w} x h e r) n in
        subst (Rep b (past w w')) (sym q) (step_on w p.onward r.pos (p.sim b s r (small_here (subst Small q z))));
    rest = take_cons _ _ _ (rest_cons (file w) w.c.pos h) ∙ sym (behind_is p.onward);
    onward = on_past p.onward;
  }

  take_bad : {v : World} → is Syntax.Error x ≡ true → Ran (Run.err unrecognized) w v → Wrote (kind x) v w' → Ran take_token w (past w w')
  take_bad n m p = record {
    sim = λ b s r z.
        let q = run_bad x (behind w) s (head {w = w} x h e r) n in
        let z₁ = small_here (subst Small q z) in
        let z₂ = subst Small (sym (run_err unrecognized s)) (small_written (kind x) _ z₁) in
        subst (Rep b (past w w')) (sym q)
        (step_on w (m.onward farther p.onward) r.pos (p.sim b (report unrecognized s) (subst (Rep b _) (run_err unrecognized s) (m.sim b s r z₂)) z₁));
    rest = take_cons _ _ _ (rest_cons (file w) w.c.pos h) ∙ sym (behind_is (m.onward farther p.onward));
    onward = on_past (m.onward farther p.onward);
  }

-- a test that holds is made at a token
pub at_some : (t : Sym → Bool) (r : List Sym) → at t r ≡ true → Look.eof r ≡ false
unfolding at Look.eof
at_some t [] e = absurd (false≢true e)
at_some t (s ∷ r) e = refl

module _ (F : File) (p : ℕ) {x : Bool} where
  pub at_within : (t : Sym → Bool) → x ≡ at t (drop p F) → x ≡ true → p < length F
  at_within t e h = leb-false _ _ (eof_is F p ∙ at_some t _ (sym e ∙ h))

  pub eof_within : x ≡ Look.eof (drop p F) → x ≡ false → p < length F
  eof_within e h = leb-false _ _ (eof_is F p ∙ sym e ∙ h)

-- ---- bump
module _ {w w' : World} where
  pub bump_bad : {v : World} → w.c.pos < length (file w) → get_or (file w) w.c.pos 0 ≡ 1 → Ran (Run.err unrecognized) w v → Wrote 60 v w' → Ran take_token w (past w w')
  bump_bad {v} h e m p =
      let s = get_or (file w) w.c.pos 0 in
      take_bad s h refl (ap (λ n. eqb 1 n) e) m (subst (λ n. Wrote n v w') (sym (ap kind e)) p)

  pub bump_plain : (e : ℕ) → PlainToken (file w) w.c.pos e → Wrote e w w' → Ran take_token w (past w w')
  bump_plain e t p = take_plain (get_or (file w) w.c.pos 0) t.within refl (ne_eqb 1 _ (λ z. t.no_error (sym z))) (subst (λ n. Wrote n w w') t.event p)

-- ---- what is left says where the cursor is
module _ (F : File) where
  pub tokens_left : (p : ℕ) → length (from F p) ≡ length F - p
  tokens_left p = length-drop p F

pub past_here : {A : Type 0} {f : P A} {w w' : World} → Ran f w w' → length (f (remaining w)).rest < length (remaining w) → Past w w'
past_here {w} {w'} h e = record {
  on = omega (arith, e, ap length h.rest, tokens_left (file w) w.c.pos, tokens_left (file w') w'.c.pos, h.onward.tokens);
  within = omega (arith, e, tokens_left (file w) w.c.pos);
}

-- ---- lookahead
skip_stays : (p : Sym → Bool) (r : List Sym) → at p r ≡ false → r ≡ skip p r
unfolding skip at
skip_stays p [] k = refl
skip_stays p (s ∷ r) k = sym (ap (λ (u : Bool). elim u [ true ↦ skip p r | false ↦ s ∷ r ]) k)

module _ (F : File) (p : Sym → Bool) (i : ℕ) {x : Bool} (e : x ≡ at p (drop i F)) where
  pub skip_on : x ≡ true → skip p (drop i F) ≡ skip p (drop (i + 1) F)
  unfolding skip at
  skip_on h =
      let q = rest_cons F i (at_within F i p e h) in
      ap (skip p) q ∙ ap (λ (u : Bool). elim u [ true ↦ skip p (drop (i + 1) F) | false ↦ get_or F i 0 ∷ drop (i + 1) F ]) (sym (ap (at p) q) ∙ sym e ∙ h)

  pub skip_off : x ≡ false → drop i F ≡ skip p (drop i F)
  skip_off h = skip_stays p (drop i F) (sym e ∙ h)

-- ---- the token here, by its number
module _ (F : File) (p : ℕ) where
  pub current_in : p < length F → get_or F p 0 ≡ current (drop p F)
  unfolding current
  current_in h = sym (ap current (rest_cons F p h))

  pub current_out : length F ≤ p → Syntax.Tombstone ≡ current (drop p F)
  unfolding current
  current_out h = sym (ap current (rest_nil F p h))

  pub skip_end : (t : Sym → Bool) → length F ≤ p → drop p F ≡ skip t (drop p F)
  skip_end t h = skip_stays t (drop p F) (sym (at_out F t p h))

-- a test of the token here that Tombstone fails
pub at_current : (t : Sym → Bool) (r : List Sym) → t Syntax.Tombstone ≡ false → t (current r) ≡ at t r
unfolding current at
at_current t [] e = e
at_current t (s ∷ r) e = refl

-- the same of a number that `current` gave
pub at_by : (t : Sym → Bool) (r : List Sym) {x : Bool} {k : Sym} → t Syntax.Tombstone ≡ false → x ≡ t k → k ≡ current r → x ≡ at t r
at_by t r n e c = e ∙ ap t c ∙ at_current t r n

-- any test, where there is a token
pub at_token : (t : Sym → Bool) (r : List Sym) → Look.eof r ≡ false → at t r ≡ t (current r)
unfolding current at Look.eof
at_token t [] e = absurd (false≢true (sym e))
at_token t (s ∷ r) e = refl

pub ruleset skips = (at_in, skip_on, skip_off, skip_end)
