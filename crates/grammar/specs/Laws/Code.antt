-- The bridge to code that writes: a function's run on a state with what was written before. A contract says `exit ≡ run f entry`, and these
-- laws are how a proof of the code goes through it, statement by statement.
-- Assumes nothing.
use Rattle.std.specs.Prelude.{ℕ, ◌+◌, ◌≡◌, refl, List, ◌++◌, length}
use Rattle.std.proofs.Common.{sym, ◌∙◌, ap, append-nil, append_assoc, length-append, arith}
use Rattle.grammar.specs.Words.{Sym}
use Rattle.grammar.specs.Run.{Kind, num, leaves, P, pure, in_node, ◌>>=◌}
use Rattle.grammar.specs.Run
use Rattle.grammar.specs.Laws.Good.{leaves_app}
use Rattle.grammar.specs.Out.{ev, Diag, dg}
use Rattle.grammar.specs.Laws.Out.{ev_app, dg_app}
use Rattle.grammar.specs.State.{State, run, write, report}

state : {r : List Sym} {p q : ℕ} {e f : List ℕ} {d g : List Diag} → p ≡ q → e ≡ f → d ≡ g → ◌≡◌ {A = State} (record { rest = r; pos = p; evs = e; dgs = d }) (record { rest = r; pos = q; evs = f; dgs = g })
state a b c = rw (a, b, c)

pub run_bind : {A B : Type 0} (f : P A) (g : A → P B) (s : State) → run (f >>= g) s ≡ run (g (f s.rest).val) (run f s)
unfolding run ◌>>=◌
run_bind f g s =
    let x = f s.rest in
    let y = g x.val x.rest in
    state
    (ap (λ l. s.pos + length l) (leaves_app x.out y.out) ∙ omega (arith, length-append (leaves x.out) (leaves y.out)))
    (ap (λ l. s.evs ++ l) (ev_app x.out y.out) ∙ sym (append_assoc s.evs (ev x.out) (ev y.out)))
    (ap (λ l. s.dgs ++ l) (dg_app s.pos x.out y.out) ∙ sym (append_assoc s.dgs (dg s.pos x.out) (dg (s.pos + length (leaves x.out)) y.out)))

pub run_node : {A : Type 0} (k : Kind) (f : P A) (s : State) → run (in_node k f) s ≡ write 0 (run f (write (num k) s))
unfolding run in_node
run_node k f s =
    let x = f s.rest in
    state
    (ap (λ l. s.pos + length l) (append-nil (leaves x.out)))
    (simp append_assoc)
    (ap (λ l. s.dgs ++ l) (append-nil (dg s.pos x.out)))

pub run_pure : {A : Type 0} (a : A) (s : State) → run (pure a) s ≡ s
unfolding run pure
run_pure a s = state (omega arith) (append-nil s.evs) (append-nil s.dgs)

pub run_err : (m : ℕ) (s : State) → run (Run.err m) s ≡ report m s
unfolding run Run.err
run_err m s = state (omega arith) (append-nil s.evs) refl
