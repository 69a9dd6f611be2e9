-- Cost: what a function puts out, at a price for each leaf, node and diagnostic, against what each token that it takes pays.
-- Assumes nothing.
use Prim.Native.Nat.{ℕ, zero, suc, ◌+◌, ◌*◌, ◌≤◌, ◌<◌}
use Rattle.std.specs.Prelude.{◌≡◌, not, ◌&&◌, ◌||◌}
use Rattle.std.proofs.Math.Path.{refl}
use Rattle.std.proofs.Math.Bool.{Bool, true, false, cond}
use Rattle.std.proofs.lemmas.Bool.{false≢true}
use mathlib.Core.List.{List, [], ◌∷◌}
use Rattle.std.proofs.Math.ListN.{length}
use native.Mathlib.Omega.{arith}
use Rattle.lexer.specs.Syntax.{Whitespace, Newline, Comment, Equal}
use Rattle.grammar.specs.Words.{Sym, is, PUB}
use Rattle.grammar.specs.Look.{one_of, regular_trivia, at, skip, eof, at_terminator}
use Rattle.grammar.specs.Run.{Kind, Forest, nil, leaf, node, say, ◌<>◌, Res, P, pure, peek, in_node, pick, ◌>>=◌, ◌>>◌, when◌then◌else◌, take_token, err, Round, stop, go, warn, turn, scan, repeat, loop}
use Rattle.grammar.specs.Message.{Message, number, ExpectedConstantName, ExpectedConstantEqual}
use Rattle.grammar.specs.Bump.{bump_while, expect_kind, expect_name}
use Rattle.grammar.specs.Line.{parse_expr_until_line_end, parse_line_tail}
use Rattle.grammar.specs.Block.{Terminators, BlockParseOutcome}
use Rattle.grammar.specs.Laws.Here.{both_branches, while_rest, bind_nothing, expect_here, while_no, at_not, none}
use Rattle.grammar.specs.Item.{parse_visibility, optional_visibility}
use Rattle.grammar.proofs.Laws.LiveItem.{opens}
use Rattle.grammar.specs.Laws.Stops.{Stops}
use Rattle.grammar.specs.Laws.Live.{anywhere, some, takes, Truly}

-- A token pays for itself and a diagnostic.
pub record Price : Type 0 where
  pub of_leaf : Sym → ℕ
  pub of_node : ℕ
  pub of_say : ℕ
  pub pay : ℕ
  pub fits : (s : Sym) → of_say + of_leaf s ≤ pay

abbrev pub weigh : Price → Forest → ℕ
weigh p nil = 0
weigh p (leaf s x) = p.of_leaf s + weigh p x
weigh p (node k c x) = p.of_node + (weigh p c + weigh p x)
weigh p (say m x) = p.of_say + weigh p x

pub weigh_app : (p : Price) (x y : Forest) → weigh p (x <> y) ≡ weigh p x + weigh p y
weigh_app p nil y = omega arith
weigh_app p (leaf s x) y = omega (arith, weigh_app p x y)
weigh_app p (node k c x) y = omega (arith, weigh_app p x y)
weigh_app p (say m x) y = omega (arith, weigh_app p x y)

-- Where q holds: of what the tokens taken pay, `over` is left over; or `lack` is lacking.
pub record Cost (p : Price) (q : List Sym → Bool) (lack over : ℕ) {A : Type 0} (f : P A) : Type 0 where
  pub cost : (r : List Sym) → q r ≡ true → weigh p (f r).out + p.pay * length (f r).rest + over ≤ p.pay * length r + lack

module _ (p : Price) {L : Type 0} where
  turn_cost : (u : Round L) (l : L) (s : Sym) (r : List Sym) (k : L → Res L) → ((l' : L) → weigh p (k l').out + p.pay * length (k l').rest + 0 ≤ p.pay * length r + 0) → weigh p (turn u l s r k).out + p.pay * length (turn u l s r k).rest + 0 ≤ p.pay * length (s ∷ r) + 0
  turn_cost stop l s r k h = omega arith
  turn_cost (go l') l s r k h = omega (arith, h l', p.fits s)
  turn_cost (warn m l') l s r k h = omega (arith, h l', p.fits s)

  pub scan_cost : (step : L → List Sym → Round L) (l : L) (r : List Sym) → weigh p (scan step l r).out + p.pay * length (scan step l r).rest + 0 ≤ p.pay * length r + 0
  unfolding scan
  scan_cost step l [] = omega arith
  scan_cost step l (s ∷ r) = turn_cost (step l (s ∷ r)) l s r (λ l'. scan step l' r) (λ l'. scan_cost step l' r)

module _ {p : Price} where
  pub cost_weak : {q q' : List Sym → Bool} {c e c' e' : ℕ} {A : Type 0} {f : P A} → Cost p q c e f → ((r : List Sym) → q' r ≡ true → q r ≡ true) → c + e' ≤ c' + e → Cost p q' c' e' f
  cost_weak C i h = record { cost = λ r k. omega (arith, C.cost r (i r k)) }

  -- Wherever; where it is known to hold already.
  pub cost_any : {q : List Sym → Bool} {c e c' e' : ℕ} {A : Type 0} {f : P A} → Cost p anywhere c e f → c + e' ≤ c' + e → Cost p q c' e' f
  cost_any C h = cost_weak C (λ r k. refl) h

  pub cost_le : {q : List Sym → Bool} {c e c' e' : ℕ} {A : Type 0} {f : P A} → Cost p q c e f → c + e' ≤ c' + e → Cost p q c' e' f
  cost_le C h = cost_weak C (λ r k. k) h

  pub cost_pure : {A : Type 0} (a : A) → Cost p anywhere 0 0 (pure a)
  unfolding pure
  cost_pure a = record { cost = λ r k. omega arith }

  pub cost_err : (m : ℕ) → Cost p anywhere p.of_say 0 (err m)
  unfolding err
  cost_err m = record { cost = λ r k. omega arith }

  pub cost_take_any : Cost p anywhere 0 0 take_token
  unfolding take_token
  cost_take_any = record { cost = c }
    where
      c : (r : List Sym) → anywhere r ≡ true → weigh p (take_token r).out + p.pay * length (take_token r).rest + 0 ≤ p.pay * length r + 0
      c [] k = omega arith
      c (s ∷ r) k = omega (arith, p.fits s)

  -- A token whose price is known.
  pub cost_take_at : (t : Sym → Bool) (e : ℕ) → ((s : Sym) → t s ≡ true → p.of_leaf s + e ≤ p.pay) → Cost p (at t) 0 e take_token
  unfolding take_token at
  cost_take_at t e h = record { cost = c }
    where
      c : (r : List Sym) → at t r ≡ true → weigh p (take_token r).out + p.pay * length (take_token r).rest + e ≤ p.pay * length r + 0
      c [] k = absurd (false≢true k)
      c (s ∷ r) k = omega (arith, h s k)

  pub cost_take : (e : ℕ) → ((s : Sym) → p.of_leaf s + e ≤ p.pay) → Cost p some 0 e take_token
  unfolding take_token some
  cost_take e h = record { cost = c }
    where
      c : (r : List Sym) → some r ≡ true → weigh p (take_token r).out + p.pay * length (take_token r).rest + e ≤ p.pay * length r + 0
      c [] k = absurd (false≢true k)
      c (s ∷ r) k = omega (arith, h s)

  pub cost_pick : {q : List Sym → Bool} {c e : ℕ} (u : Bool) {A : Type 0} {f g : P A} → Cost p q c e f → Cost p q c e g → Cost p q c e (pick u f g)
  cost_pick true F G = F
  cost_pick false F G = G

  pub cost_bind : {q : List Sym → Bool} {c e c' e' : ℕ} {A B : Type 0} {f : P A} {g : A → P B} → Cost p q c e f → ((a : A) → Cost p anywhere c' e' (g a)) → Cost p q (c + c') (e + e') (f >>= g)
  unfolding ◌>>=◌
  cost_bind {f} {g} F G = record { cost = λ r k. omega (arith, F.cost r k, (G (f r).val).cost (f r).rest refl, weigh_app p (f r).out (g (f r).val (f r).rest).out) }

  -- A diagnostic leaves the tokens as they are.
  pub cost_said : {q : List Sym → Bool} {c e : ℕ} {B : Type 0} (m : ℕ) {g : Bool → P B} → ((a : Bool) → Cost p q c e (g a)) → Cost p q (p.of_say + c) e (err m >>= g)
  unfolding ◌>>=◌ err
  cost_said m G = record { cost = λ r k. omega (arith, (G true).cost r k) }

  -- Behind what costs nothing; behind what lacks c.
  pub cost_then : {c e : ℕ} {A B : Type 0} {f : P A} {g : A → P B} → Cost p anywhere 0 0 f → ((a : A) → Cost p anywhere c e (g a)) → Cost p anywhere c e (f >>= g)
  cost_then F G = cost_any (cost_bind F G) (omega arith)

  pub cost_after : {c : ℕ} {A B : Type 0} {f : P A} {g : A → P B} → Cost p anywhere c 0 f → ((a : A) → Cost p anywhere 0 0 (g a)) → Cost p anywhere c 0 (f >>= g)
  cost_after F G = cost_any (cost_bind F G) (omega arith)

  -- Where f does nothing.
  pub cost_nothing : {q : List Sym → Bool} {c e : ℕ} {A B : Type 0} {f : P A} (g : A → P B) (a : A) → ((r : List Sym) → q r ≡ true → f r ≡ pure a r) → Cost p q c e (g a) → Cost p q c e (f >>= g)
  cost_nothing {f} g a N C = record { cost = λ r k. rw (bind_nothing f g a r (N r k)) (C.cost r k) }

  pub cost_if : {q : List Sym → Bool} {c e : ℕ} {A : Type 0} (t : List Sym → Bool) {f g : P A} → Cost p q c e f → Cost p q c e g → Cost p q c e (when t then f else g)
  unfolding ◌>>=◌ peek
  cost_if t F G = record { cost = λ r k. (cost_pick (t r) F G).cost r k }

  -- In the first branch the test is known; in the second too.
  pub cost_case : {q : List Sym → Bool} {c e : ℕ} {A : Type 0} (t : List Sym → Bool) {f g : P A} → Cost p t c e f → Cost p q c e g → Cost p q c e (when t then f else g)
  unfolding ◌>>=◌ peek
  cost_case {c} {e} t F G = record { cost = λ r k. both_branches (λ x. weigh p x.out + p.pay * length x.rest + e ≤ p.pay * length r + c) (t r) _ _ (F.cost r) (λ i. G.cost r k) }

  pub cost_cases : {q : List Sym → Bool} {c e : ℕ} {A : Type 0} (t : List Sym → Bool) {f g : P A} → Cost p t c e f → Cost p (λ r. q r && not (t r)) c e g → Cost p q c e (when t then f else g)
  unfolding ◌>>=◌ peek
  cost_cases {c} {e} t F G = record { cost = λ r k. both_branches (λ x. weigh p x.out + p.pay * length x.rest + e ≤ p.pay * length r + c) (t r) _ _ (F.cost r) (λ i. G.cost r (rw (k, i))) }

  pub cost_yes : (t : List Sym → Bool) {c e : ℕ} {A : Type 0} {f : P A} (g : P A) → Cost p t c e f → Cost p t c e (when t then f else g)
  unfolding ◌>>=◌ peek
  cost_yes t g F = record { cost = λ r k. rw k (F.cost r k) }

  pub cost_node : {q : List Sym → Bool} {c e : ℕ} (j : Kind) {A : Type 0} {f : P A} → Cost p q c e f → Cost p q (p.of_node + c) e (in_node j f)
  unfolding in_node
  cost_node j F = record { cost = λ r k. omega (arith, F.cost r k) }

  pub cost_eof : {c e : ℕ} {A : Type 0} {f g : P A} → Cost p anywhere c e f → Cost p some c e g → Cost p anywhere c e (when eof then f else g)
  unfolding ◌>>=◌ peek eof some
  cost_eof {c} {e} {f} {g} F G = record { cost = d }
    where
      d : (r : List Sym) → anywhere r ≡ true → weigh p ((when eof then f else g) r).out + p.pay * length ((when eof then f else g) r).rest + e ≤ p.pay * length r + c
      d [] k = F.cost [] refl
      d (s ∷ r) k = G.cost (s ∷ r) refl

  pub cost_scan : {L : Type 0} (step : L → List Sym → Round L) (l : L) → Cost p anywhere 0 0 (scan step l)
  cost_scan step l = record { cost = λ r k. scan_cost p step l r }

  -- A loop whose first round takes a token.
  pub cost_scan_first : {L : Type 0} (t : Sym → Bool) (step : L → List Sym → Round L) (l : L) (e : ℕ) → ((s : Sym) → p.of_say + p.of_leaf s + e ≤ p.pay) → ((s : Sym) (r : List Sym) → t s ≡ true → takes (step l (s ∷ r)) ≡ true) → Cost p (at t) 0 e (scan step l)
  unfolding at scan
  cost_scan_first {L} t step l e h f = record { cost = c }
    where
      d : (s : Sym) (r : List Sym) (u : Round L) → takes u ≡ true → weigh p (turn u l s r (λ l'. scan step l' r)).out + p.pay * length (turn u l s r (λ l'. scan step l' r)).rest + e ≤ p.pay * length (s ∷ r) + 0
      d s r stop i = absurd (false≢true i)
      d s r (go l') i = omega (arith, scan_cost p step l' r, h s)
      d s r (warn m l') i = omega (arith, scan_cost p step l' r, h s)

      c : (r : List Sym) → at t r ≡ true → weigh p (scan step l r).out + p.pay * length (scan step l r).rest + e ≤ p.pay * length r + 0
      c [] i = absurd (false≢true i)
      c (s ∷ r) i = d s r (step l (s ∷ r)) (f s r i)

  pub cost_while : (t : Sym → Bool) → Cost p anywhere 0 0 (bump_while t)
  unfolding bump_while
  cost_while t = cost_scan _ true

  -- At its kind, expect takes it, and nothing else.
  pub cost_expect_at : (k : Sym) (m : Message) (e : ℕ) → regular_trivia k ≡ false → ((s : Sym) → is k s ≡ true → p.of_leaf s + e ≤ p.pay) → Cost p (at (is k)) 0 e (expect_kind k m)
  unfolding at
  cost_expect_at k m e t h = record { cost = c }
    where
      c : (r : List Sym) → at (is k) r ≡ true → weigh p (expect_kind k m r).out + p.pay * length (expect_kind k m r).rest + e ≤ p.pay * length r + 0
      c [] i = absurd (false≢true i)
      c (s ∷ r) i = rw (expect_here k m t s r i) (omega (arith, h s i))

  -- A block that found its closer is at it.
  pub cost_outcome : {t : Terminators} {B : Type 0} {c c' : ℕ} {f : P BlockParseOutcome} (g : BlockParseOutcome → P B) → Cost p anywhere c 0 f → Stops t f → Cost p (at_terminator t) c' 0 (g BlockParseOutcome.FoundTerminator) →
      Cost p anywhere c' 0 (g BlockParseOutcome.RecoveredImplicitEnd) → Cost p anywhere c' 0 (g BlockParseOutcome.ReachedEof) → Cost p anywhere (c + c') 0 (f >>= g)
  unfolding ◌>>=◌
  cost_outcome {t} {B} {c} {c'} {f} g F S G R E = record { cost = λ r k. omega (arith, F.cost r k, d (f r).val (f r).rest (S.stops r), weigh_app p (f r).out (g (f r).val (f r).rest).out) }
    where
      d : (o : BlockParseOutcome) (l : List Sym) → (o ≡ BlockParseOutcome.FoundTerminator → at_terminator t l ≡ true) → weigh p (g o l).out + p.pay * length (g o l).rest + 0 ≤ p.pay * length l + c'
      d BlockParseOutcome.FoundTerminator l s = G.cost l (s refl)
      d BlockParseOutcome.RecoveredImplicitEnd l s = R.cost l refl
      d BlockParseOutcome.ReachedEof l s = E.cost l refl

-- A round of a loop: where it goes on it lacks nothing, and where it ends it may lack c.
pub record Rounds (p : Price) (c : ℕ) (f : P Bool) : Type 0 where
  pub rounds : (r : List Sym) → weigh p (f r).out + p.pay * length (f r).rest + cond (f r).val c 0 ≤ p.pay * length r + c

pub rounds_zero : {p : Price} {f : P Bool} → Cost p anywhere 0 0 f → Rounds p 0 f
rounds_zero {p} {f} F = record { rounds = λ r. grind (arith, F.cost r refl) }

module _ {p : Price} {c : ℕ} where
  pub rounds_then : {A : Type 0} {f : P A} {g : A → P Bool} → Cost p anywhere 0 0 f → ((a : A) → Rounds p c (g a)) → Rounds p c (f >>= g)
  unfolding ◌>>=◌
  rounds_then {A} {f} {g} F G = record { rounds = λ r. omega (arith, F.cost r refl, (G (f r).val).rounds (f r).rest, weigh_app p (f r).out (g (f r).val (f r).rest).out) }

  pub rounds_if : (t : List Sym → Bool) {f g : P Bool} → Rounds p c f → Rounds p c g → Rounds p c (when t then f else g)
  unfolding ◌>>=◌ peek
  rounds_if t F G = record { rounds = λ r. both_branches (λ x. weigh p x.out + p.pay * length x.rest + cond x.val c 0 ≤ p.pay * length r + c) (t r) _ _ (λ i. F.rounds r) (λ i. G.rounds r) }

  pub rounds_true : {A : Type 0} {f : P A} → Cost p anywhere 0 0 f → Rounds p c (f >> pure true)
  unfolding ◌>>=◌ pure
  rounds_true {A} {f} F = record { rounds = λ r. omega (arith, F.cost r refl, weigh_app p (f r).out nil) }

  pub rounds_false : {A : Type 0} {f : P A} → Cost p anywhere c 0 f → Rounds p c (f >> pure false)
  unfolding ◌>>=◌ pure
  rounds_false {A} {f} F = record { rounds = λ r. omega (arith, F.cost r refl, weigh_app p (f r).out nil) }

  pub rounds_end : Rounds p c (pure false)
  unfolding pure
  rounds_end = record { rounds = λ r. omega arith }

module _ {p : Price} {c : ℕ} {f : P Bool} (F : Rounds p c f) (E : Truly f) where
  repeat_cost : (n : ℕ) (r : List Sym) → length r < n → weigh p (repeat n f r).out + p.pay * length (repeat n f r).rest + 0 ≤ p.pay * length r + c
  unfolding repeat ◌>>=◌ pure
  repeat_cost zero r h = absurd (omega arith)
  repeat_cost (suc n) r h = d (repeat_cost n (f r).rest) (f r).val refl (F.rounds r)
    where
      next : Bool → Res Bool
      next u = pick u (repeat n f) (pure false) (f r).rest

      d : (length (f r).rest < n → weigh p (repeat n f (f r).rest).out + p.pay * length (repeat n f (f r).rest).rest + 0 ≤ p.pay * length (f r).rest + c) → (u : Bool) → (f r).val ≡ u → weigh p (f r).out + p.pay * length (f r).rest + cond u c 0 ≤ p.pay * length r + c →
          weigh p ((f r).out <> (next u).out) + p.pay * length (next u).rest + 0 ≤ p.pay * length r + c
      d ih true e g = omega (arith, ih (omega (arith, E.truly r e)), g, weigh_app p (f r).out (repeat n f (f r).rest).out)
      d ih false e g = omega (arith, g, weigh_app p (f r).out nil)

  pub cost_loop : Cost p anywhere c 0 (loop f)
  unfolding loop
  cost_loop = record { cost = λ r k. repeat_cost (suc (length r)) r (omega arith) }

  -- A loop whose first round is at a known token.
  pub cost_loop_first : {q : List Sym → Bool} {e : ℕ} → Cost p q 0 e f → Cost p q c e (loop f)
  unfolding loop repeat ◌>>=◌ pure
  cost_loop_first {q} {e} X = record { cost = λ r k. d r (f r).val refl (X.cost r k) }
    where
      next : List Sym → Bool → Res Bool
      next r u = pick u (repeat (length r) f) (pure false) (f r).rest

      d : (r : List Sym) (u : Bool) → (f r).val ≡ u → weigh p (f r).out + p.pay * length (f r).rest + e ≤ p.pay * length r + 0 → weigh p ((f r).out <> (next r u).out) + p.pay * length (next r u).rest + e ≤ p.pay * length r + c
      d r true i g = omega (arith, repeat_cost (length r) (f r).rest (E.truly r i), g, weigh_app p (f r).out (repeat (length r) f (f r).rest).out)
      d r false i g = omega (arith, g, weigh_app p (f r).out nil)

-- ---- Expect, by its answer: it took a token that leaves e, or it reports.
module _ (p : Price) (k : Sym) (m : Message) (e : ℕ) (h : (s : Sym) → is k s ≡ true → p.of_leaf s + e ≤ p.pay) where
  pub expect_true : (r : List Sym) → (expect_kind k m r).val ≡ true → weigh p (expect_kind k m r).out + p.pay * length (expect_kind k m r).rest + e ≤ p.pay * length r
  unfolding expect_kind ◌>>=◌ peek at take_token err pure
  expect_true r i = c (bump_while regular_trivia r).rest ((cost_while {p = p} regular_trivia).cost r refl) i
    where
      key : List Sym → Res Bool
      key l = pick (at (is k) l) (take_token >> pure true) (err (number m) >> pure false) l

      c : (l : List Sym) → weigh p (bump_while regular_trivia r).out + p.pay * length l + 0 ≤ p.pay * length r + 0 → (key l).val ≡ true → weigh p ((bump_while regular_trivia r).out <> (key l).out) + p.pay * length (key l).rest + e ≤ p.pay * length r
      c [] g i = absurd (false≢true i)
      c (s ∷ l) g i = d (is k s) refl i
        where
          d : (u : Bool) → is k s ≡ u → (pick u (take_token >> pure true) (err (number m) >> pure false) (s ∷ l)).val ≡ true → weigh p ((bump_while regular_trivia r).out <> (pick u (take_token >> pure true) (err (number m) >> pure false) (s ∷ l)).out) + p.pay * length (pick u (take_token >> pure true) (err (number m) >> pure false) (s ∷ l)).rest + e ≤ p.pay * length r
          d true j i = omega (arith, g, h s j, weigh_app p (bump_while regular_trivia r).out (leaf s nil))
          d false j i = absurd (false≢true i)

pub cost_expect : {p : Price} (k : Sym) (m : Message) → Cost p anywhere p.of_say 0 (expect_kind k m)
unfolding expect_kind
cost_expect {p} k m = cost_then (cost_while regular_trivia) (λ a. cost_if (at (is k)) (cost_any (cost_then cost_take_any (λ a. cost_pure true)) (omega arith)) (cost_after (cost_err _) (λ a. cost_pure false)))

-- What follows an expect by its answer.
pub cost_ok : {p : Price} (k : Sym) (m : Message) (e : ℕ) → ((s : Sym) → is k s ≡ true → p.of_leaf s + e ≤ p.pay) → {a b c : ℕ} {A : Type 0} {f g : P A} →
    Cost p anywhere a 0 f → Cost p anywhere b 0 g → p.of_say + a ≤ c → b ≤ c + e → Cost p anywhere c 0 (expect_kind k m >>= λ ok. pick (not ok) f g)
unfolding ◌>>=◌
cost_ok {p} k m e h {a} {b} {c} {A} {f} {g} F G i j = record { cost = λ r q. d (expect_kind k m r).val r refl }
  where
    d : (u : Bool) (r : List Sym) → (expect_kind k m r).val ≡ u → weigh p ((expect_kind k m r).out <> (pick (not u) f g (expect_kind k m r).rest).out) + p.pay * length (pick (not u) f g (expect_kind k m r).rest).rest + 0 ≤ p.pay * length r + c
    d true r q = omega (arith, expect_true p k m e h r q, G.cost (expect_kind k m r).rest refl, weigh_app p (expect_kind k m r).out (g (expect_kind k m r).rest).out)
    d false r q = omega (arith, (cost_expect {p = p} k m).cost r refl, F.cost (expect_kind k m r).rest refl, weigh_app p (expect_kind k m r).out (f (expect_kind k m r).rest).out)

-- A declaration: behind its visibility, or at one of its keywords.
pub cost_declared : {p : Price} (ks : List Sym) {b c e o : ℕ} {A : Type 0} {g : Bool → P A} → Cost p (at (is PUB)) 0 e parse_visibility →
    ((a : Bool) → Cost p anywhere b 0 (g a)) → Cost p (at (one_of ks)) c o (g true) → b + o ≤ c + e → Cost p (at (opens ks)) c o (optional_visibility >>= g)
unfolding optional_visibility ◌>>=◌ peek pure at
cost_declared {p} ks {b} {c} {e} {o} {A} {g} X G E i = record { cost = f }
  where
    f : (r : List Sym) → at (opens ks) r ≡ true → weigh p ((optional_visibility >>= g) r).out + p.pay * length ((optional_visibility >>= g) r).rest + o ≤ p.pay * length r + c
    f [] k = absurd (false≢true k)
    f (s ∷ r) k = h (is PUB s) refl k
      where
        h : (u : Bool) → is PUB s ≡ u → (u || one_of ks s) ≡ true → weigh p ((pick u parse_visibility (pure true) >>= g) (s ∷ r)).out + p.pay * length ((pick u parse_visibility (pure true) >>= g) (s ∷ r)).rest + o ≤ p.pay * length (s ∷ r) + c
        h true q k = omega (arith, (cost_bind X G).cost (s ∷ r) q)
        h false q k = E.cost (s ∷ r) k

-- A class without trivia: bump_regular_trivia does nothing there.
pub cost_trivia : {p : Price} (t : Sym → Bool) → none t (Whitespace ∷ Newline ∷ Comment ∷ []) ≡ true → {c e : ℕ} {A : Type 0} (g : Bool → P A) → Cost p (at t) c e (g true) → Cost p (at t) c e (bump_while regular_trivia >>= g)
cost_trivia t h g C = cost_nothing g true (λ r k. while_no regular_trivia r (at_not t _ h r k)) C

-- Behind trivia, at a token that lookahead found.
pub cost_skip : {p : Price} (k t : Sym → Bool) {c e : ℕ} {A : Type 0} {g : Bool → P A} → ((a : Bool) → Cost p (at t) c e (g a)) → Cost p (λ r. at t (skip k r)) c e (bump_while k >>= g)
unfolding ◌>>=◌
cost_skip {p} k t {c} {e} {A} {g} G = record { cost = λ r i. omega (arith, (cost_while {p = p} k).cost r refl, (G (x r).val).cost (x r).rest (rw (while_rest k r) i), weigh_app p (x r).out (g (x r).val (x r).rest).out) }
  where
    x : P Bool
    x = bump_while k

-- parse_constant from its name, from its `=`, and from its value on.
abbrev pub constant_value : P Bool
constant_value = parse_expr_until_line_end >> parse_line_tail

abbrev pub constant_equal : P Bool
constant_equal = expect_kind Equal (Message.Plain ExpectedConstantEqual) >> constant_value

abbrev pub constant_name : P Bool
constant_name = bump_while regular_trivia >> expect_name (Message.Plain ExpectedConstantName) >> constant_equal
