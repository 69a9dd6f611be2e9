-- Finishes: a function that may meet the end of the file in a block. It tells nothing of an ending; or one, by the last that it puts out,
-- where nothing is left, and it answers so.
-- Assumes nothing.
use Rattle.std.specs.Prelude.{◌≡◌, Bool, true, false}
use Rattle.std.proofs.Math.Path.{refl, ap, ap₂}
use Rattle.std.proofs.Common.{sym, ◌∙◌}
use Rattle.std.proofs.lemmas.Bool.{false≢true}
use mathlib.Core.List.{List, [], ◌∷◌}
use Rattle.grammar.specs.Words.{Sym, is, END}
use Rattle.grammar.specs.Look.{one_of, at, at_terminator}
use Rattle.grammar.specs.Run.{Forest, nil, leaf, node, say, ◌<>◌, Res, P, pure, peek, pick, ◌>>=◌, when◌then◌else◌}
use Rattle.grammar.specs.Message.{Message}
use Rattle.grammar.specs.Block.{BlockOwner, Terminators, BlockParseOutcome, closing, ended}
use Rattle.grammar.specs.Endings.{ending}
use Rattle.grammar.specs.Laws.Good.{app_assoc, Calm}
use Rattle.grammar.specs.Laws.Here.{expect_here}
use Rattle.grammar.specs.Laws.Stops.{Stops}
use Rattle.grammar.specs.Laws.Live.{calm_join}
use Rattle.grammar.specs.Laws.Tame.{Tame, tame_pure, tame·rules}

pub data Final (Q : Forest → Type 0) {A : Type 0} (o : A) (x : Res A) : Type 0 where
  silent : Calm ending x.out → Final Q o x
  met_end : (y z : Forest) → Calm ending y → Q z → x.out ≡ y <> z → x.rest ≡ [] → x.val ≡ o → Final Q o x

pub record Finishes (Q : Forest → Type 0) {A : Type 0} (o : A) (f : P A) : Type 0 where
  pub finish : (r : List Sym) → Final Q o (f r)

pub app_nil : (x : Forest) → x <> nil ≡ x
app_nil nil = refl
app_nil (leaf s x) = ap (leaf s) (app_nil x)
app_nil (node k c x) = ap (node k c) (app_nil x)
app_nil (say m x) = ap (say m) (app_nil x)

module _ {Q : Forest → Type 0} {B : Type 0} {o : B} where
  pub finishes_tame : {f : P B} → Tame f → Finishes Q o f
  finishes_tame F = record { finish = λ r. silent (F.tame r) }

  pub finishes_pick : (u : Bool) {f g : P B} → Finishes Q o f → Finishes Q o g → Finishes Q o (pick u f g)
  finishes_pick true F G = F
  finishes_pick false F G = G

  pub finishes_if : (t : List Sym → Bool) {f g : P B} → Finishes Q o f → Finishes Q o g → Finishes Q o (when t then f else g)
  unfolding ◌>>=◌ peek
  finishes_if t {f} {g} F G = record { finish = λ r. (finishes_pick (t r) F G).finish r }

  -- Behind something calm.
  pub final_after : (x : Forest) → Calm ending x → {y : Res B} → Final Q o y → Final Q o (record { rest = y.rest; out = x <> y.out; val = y.val })
  final_after x k (silent c) = silent (calm_join ending x _ k c)
  final_after x k (met_end y z c q e r v) = met_end (x <> y) z (calm_join ending x y k c) q (ap (λ w. x <> w) e ∙ sym (app_assoc x y z)) r v

  pub finishes_after : {A : Type 0} {f : P A} {g : A → P B} → Tame f → ((a : A) → Finishes Q o (g a)) → Finishes Q o (f >>= g)
  unfolding ◌>>=◌
  finishes_after {A} {f} {g} F G = record { finish = λ r. final_after (f r).out (F.tame r) ((G (f r).val).finish (f r).rest) }

  -- Where f has met the end, what comes behind it does nothing, and says so.
  finishes_bind : {A : Type 0} {a : A} {f : P A} (g : A → P B) → Finishes Q a f → g a ≡ pure o → ((r : List Sym) → Final Q o (g (f r).val (f r).rest)) → Finishes Q o (f >>= g)
  unfolding ◌>>=◌ pure
  finishes_bind {A} {a} {f} g F s N = record { finish = λ r. c r (F.finish r) }
    where
      c : (r : List Sym) → Final Q a (f r) → Final Q o ((f >>= g) r)
      c r (silent k) = final_after (f r).out k (N r)
      c r (met_end y z k q e l v) =
          let p : g (f r).val (f r).rest ≡ pure o [] = ap₂ g v l ∙ ap (λ (h : P B). h []) s in
          met_end y z k q (ap (λ (x : Res B). (f r).out <> x.out) p ∙ app_nil (f r).out ∙ e) (ap (λ (x : Res B). x.rest) p) (ap (λ (x : Res B). x.val) p)

  pub finishes_then : {A : Type 0} {a : A} {f : P A} (g : A → P B) → Finishes Q a f → g a ≡ pure o → ((x : A) → Finishes Q o (g x)) → Finishes Q o (f >>= g)
  finishes_then {f} g F s G = finishes_bind g F s (λ r. (G (f r).val).finish (f r).rest)

  -- A block that found its terminator is at it.
  pub finishes_outcome : {t : Terminators} {f : P BlockParseOutcome} (g : BlockParseOutcome → P B) → Finishes Q BlockParseOutcome.ReachedEof f → Stops t f → g BlockParseOutcome.ReachedEof ≡ pure o →
      ((r : List Sym) → at_terminator t r ≡ true → Final Q o (g BlockParseOutcome.FoundTerminator r)) → Finishes Q o (g BlockParseOutcome.RecoveredImplicitEnd) → Finishes Q o (f >>= g)
  finishes_outcome {t} {f} g F S s G R = finishes_bind g F s (λ r. c (f r).val (f r).rest (S.stops r))
    where
      c : (v : BlockParseOutcome) (l : List Sym) → (v ≡ BlockParseOutcome.FoundTerminator → at_terminator t l ≡ true) → Final Q o (g v l)
      c BlockParseOutcome.FoundTerminator l e = G l (e refl)
      c BlockParseOutcome.RecoveredImplicitEnd l e = R.finish l
      c BlockParseOutcome.ReachedEof l e = rw s ((finishes_tame (tame_pure o)).finish l)

pub finishes_map : {Q Q' : Forest → Type 0} {A : Type 0} {o : A} {f : P A} → ((z : Forest) → Q z → Q' z) → Finishes Q o f → Finishes Q' o f
finishes_map {Q} {Q'} {A} {o} {f} m F = record { finish = λ r. c (F.finish r) }
  where
    c : {x : Res A} → Final Q o x → Final Q' o x
    c (silent k) = silent k
    c (met_end y z k q e l v) = met_end y z k (m z q) e l v

-- ---- Closers.
-- At `end`, it is taken, and nothing is said.
closing_calm : (w : BlockOwner) (r : List Sym) → at (is END) r ≡ true → Calm ending (closing w BlockParseOutcome.FoundTerminator r).out
unfolding closing at one_of
closing_calm w [] e = absurd (false≢true e)
closing_calm w (s ∷ r) e = rw (expect_here END (Message.MissingEnd w) refl s r e) tt

pub ended_calm : (w : BlockOwner) (r : List Sym) → at (is END) r ≡ true → Calm ending (ended w BlockParseOutcome.FoundTerminator r).out
unfolding ended ◌>>=◌ pure
ended_calm w r e = calm_join ending (closing w BlockParseOutcome.FoundTerminator r).out nil (closing_calm w r e) tt

-- A recovery needs no closer.
pub tame_recovered : (w : BlockOwner) → Tame (ended w BlockParseOutcome.RecoveredImplicitEnd)
unfolding ended closing
tame_recovered w = search tame·rules

module _ {Q : Forest → Type 0} (w : BlockOwner) {f : P BlockParseOutcome} (F : Finishes Q BlockParseOutcome.ReachedEof f) (S : Stops Terminators.End f) where
  pub finishes_closing : Finishes Q true (f >>= closing w)
  unfolding closing at_terminator
  finishes_closing = finishes_outcome (closing w) F S refl (λ r e. silent (closing_calm w r e)) (finishes_tame (tame_pure true))

  pub finishes_ended : Finishes Q true (f >>= ended w)
  unfolding ended at_terminator
  finishes_ended = finishes_outcome (ended w) F S refl (λ r e. silent (ended_calm w r e)) (finishes_tame (tame_recovered w))
