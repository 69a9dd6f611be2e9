-- What the small steps do at a token that is known.
-- Assumes nothing.
use Rattle.std.specs.Prelude.{◌≡◌, refl, Bool, true, false, cond, not, ◌&&◌, List, [], ◌∷◌}
use Rattle.std.proofs.Common.{arith, sym, ◌∙◌, ap}
use Rattle.std.proofs.Math.Bool.{or-false}
use Rattle.std.proofs.lemmas.Bool.{false≢true, eqb-true, ne_eqb, and_parts, not-true}
use Rattle.grammar.specs.Words.{Sym, is}
use Rattle.grammar.specs.Look.{one_of, regular_trivia, at, skip}
use Rattle.grammar.specs.Run.{nil, leaf, ◌<>◌, Res, P, pure, peek, pick, ◌>>=◌, when◌then◌else◌, take_token, scan}
use Rattle.grammar.specs.Message.{Message}
use Rattle.grammar.specs.Laws.Good.{app_assoc}
use Rattle.grammar.specs.Bump.{while_round, bump_while, expect_kind}

-- ---- Tests.
-- an `if`, as its test chooses between two arms
pub if_arm : {A X : Type 0} (h : X → Res A) (t : List Sym → Bool) (f g : P A) (r : List Sym) {a b : X} → f r ≡ h a → g r ≡ h b → (when t then f else g) r ≡ h (cond (t r) a b)
unfolding ◌>>=◌ peek
if_arm h t f g r {a} {b} p q = by (t r)
  where
    by : (u : Bool) → pick u f g r ≡ h (cond u a b)
    by true = p
    by false = q

-- What is shown of both branches holds of the one that is picked.
pub both_branches : {A : Type 0} (Q : Res A → Type 0) (u : Bool) (f g : P A) {r : List Sym} → (u ≡ true → Q (f r)) → (u ≡ false → Q (g r)) → Q (pick u f g r)
both_branches Q true f g F G = F refl
both_branches Q false f g F G = G refl

-- At a token that is not p, a run of p is empty.
pub while_no : (p : Sym → Bool) (r : List Sym) → at p r ≡ false → bump_while p r ≡ pure true r
unfolding bump_while scan while_round at pure
while_no p [] e = refl
while_no p (s ∷ r) e = rw (e, scan)

-- A run of p ends where skip says.
scan_rest : (p : Sym → Bool) (l : Bool) (r : List Sym) → (scan (while_round p) l r).rest ≡ skip p r
unfolding scan while_round at skip
scan_rest p l [] = refl
scan_rest p l (s ∷ r) = grind (arith, scan_rest p l r)

pub while_rest : (p : Sym → Bool) (r : List Sym) → (bump_while p r).rest ≡ skip p r
unfolding bump_while
while_rest p r = scan_rest p true r

-- Where f does nothing, what comes behind it decides.
pub bind_nothing : {A B : Type 0} (f : P A) (g : A → P B) (a : A) (r : List Sym) → f r ≡ pure a r → (f >>= g) r ≡ g a r
unfolding ◌>>=◌ pure
bind_nothing {A} {B} f g a r e = ap (λ (x : Res A). let y : Res B = g x.val x.rest in record { rest = y.rest; out = x.out <> y.out; val = y.val }) e

pub bind_assoc : {A B C : Type 0} (f : P A) (g : A → P B) (h : B → P C) (r : List Sym) → ((f >>= g) >>= h) r ≡ (f >>= λ a. g a >>= h) r
unfolding ◌>>=◌
bind_assoc {A} {B} {C} f g h r =
    let x : Res A = f r in
    let y : Res B = g x.val x.rest in
    let z : Res C = h y.val y.rest in
    ap (λ o. record { rest = z.rest; out = o; val = z.val }) (app_assoc x.out y.out z.out)

abbrev pub taken : Sym → List Sym → Res Bool
taken s r = record { rest = r; out = leaf s nil; val = true }

-- At its kind, expect takes it, and nothing else.
pub expect_here : (k : Sym) (m : Message) → regular_trivia k ≡ false → (s : Sym) (r : List Sym) → is k s ≡ true → expect_kind k m (s ∷ r) ≡ taken s r
unfolding expect_kind bump_while scan while_round at ◌>>=◌ peek take_token pure
expect_here k m h s r e = let t : regular_trivia s ≡ false = rw (← eqb-true k s e) h in rw (t, scan, e)

-- ---- Classes that share no token.
-- A token of p is none that p leaves out.
pub is_not : (p : Sym → Bool) (k s : Sym) → p k ≡ false → p s ≡ true → is k s ≡ false
is_not p k s h e = ne_eqb k s (λ i. false≢true (sym h ∙ ap p i ∙ e))

unfoldable pub none : (Sym → Bool) → List Sym → Bool
none p [] = true
none p (k ∷ ks) = not (p k) && none p ks

pub one_of_not : (p : Sym → Bool) (ks : List Sym) → none p ks ≡ true → (s : Sym) → p s ≡ true → one_of ks s ≡ false
unfolding none one_of
one_of_not p [] h s e = refl
one_of_not p (k ∷ ks) h s e = let g = and_parts (not (p k)) _ h in rw (is_not p k s (not-true (p k) g.0) e) (one_of_not p ks g.1 s e)

pub at_not : (p : Sym → Bool) (ks : List Sym) → none p ks ≡ true → (r : List Sym) → at p r ≡ true → at (one_of ks) r ≡ false
unfolding at
at_not p ks h [] e = refl
at_not p ks h (s ∷ r) e = one_of_not p ks h s e

pub at_not_one : (p : Sym → Bool) (k : Sym) → p k ≡ false → (r : List Sym) → at p r ≡ true → at (is k) r ≡ false
unfolding at
at_not_one p k h [] e = refl
at_not_one p k h (s ∷ r) e = is_not p k s h e

pub one_of_one : (k : Sym) (r : List Sym) → at (one_of (k ∷ [])) r ≡ true → at (is k) r ≡ true
unfolding at one_of
one_of_one k [] e = e
one_of_one k (s ∷ r) e = sym (or-false (is k s)) ∙ e
