-- Hush: a round that warns of nothing bad. A loop that takes token by token with such rounds says nothing bad.
-- Assumes nothing.
use Rattle.std.specs.Prelude.{ℕ, ◌≡◌, Bool, true, false, cond, Result, Ok, Err}
use mathlib.Core.List.{List, [], ◌∷◌}
use Rattle.grammar.specs.Words.{Sym}
use Rattle.grammar.specs.Run.{Res, Round, stop, go, warn, turn, scan}
use Rattle.grammar.specs.Message.{Message, number}
use Rattle.grammar.specs.Nesting.{Nesting, bump_by, counted, bump_nesting}
use Rattle.grammar.specs.Bump.{while_round}
use Rattle.grammar.specs.Path.{group_round}
use Rattle.grammar.specs.Line.{Expression, expr_round, type_round, tail_round, ResultType, result_round}
use Rattle.grammar.specs.Instruction.{Inst, instruction_round}
use Rattle.grammar.specs.Block.{all_round}
use Rattle.grammar.specs.declared.nesting.Closer.{Closer}
use Rattle.grammar.specs.Laws.Good.{Calm}

abbrev Hushed : (ℕ → Bool) → {L : Type 0} → Round L → Type 0
Hushed bad stop = Unit {0}
Hushed bad (go l) = Unit {0}
Hushed bad (warn m l) = bad m ≡ false

pub record Hush (bad : ℕ → Bool) {L : Type 0} (u : Round L) : Type 0 where
  hush : Hushed bad u

module _ {bad : ℕ → Bool} where
  hush_stop : {L : Type 0} → Hush bad {L = L} stop
  hush_stop = record { hush = tt }

  hush_go : {L : Type 0} (l : L) → Hush bad (go l)
  hush_go l = record { hush = tt }

  hush_cond : {L : Type 0} (u : Bool) {x y : Round L} → Hush bad x → Hush bad y → Hush bad (cond u x y)
  hush_cond true p q = p
  hush_cond false p q = q

ruleset hush·rules = (hush_stop, hush_go, hush_cond)

-- ---- The rounds.
module _ {bad : ℕ → Bool} where
  pub hush_while : (p : Sym → Bool) (l : Bool) (r : List Sym) → Hush bad (while_round p l r)
  unfolding while_round
  hush_while p l r = search hush·rules

  pub hush_tail : (l : Bool) (r : List Sym) → Hush bad (tail_round l r)
  unfolding tail_round
  hush_tail l r = search hush·rules

  pub hush_group : (o k : Sym) (d : ℕ) (r : List Sym) → Hush bad (group_round o k d r)
  unfolding group_round
  hush_group o k d r = search hush·rules

  pub hush_all : (l : Bool) (r : List Sym) → Hush bad (all_round l r)
  unfolding all_round
  hush_all l r = search hush·rules

  -- These report a closer without its opener.
  module _ (closers : (c : Closer) → bad (number (Message.UnexpectedCloser c)) ≡ false) where
    hush_counted : {L : Type 0} (n : Nesting) (f : Nesting → L) (x : Result Nesting Closer) → Hush bad (counted n f x)
    unfolding counted
    hush_counted n f (Ok m) = hush_go (f m)
    hush_counted n f (Err c) = record { hush = closers c }

    hush_nesting : {L : Type 0} (n : Nesting) (k : Sym) (f : Nesting → L) → Hush bad (bump_nesting n k f)
    unfolding bump_nesting
    hush_nesting n k f = hush_counted n f (bump_by n k)

    pub hush_expr : (l : Expression) (r : List Sym) → Hush bad (expr_round l r)
    unfolding expr_round
    hush_expr l r = search (hush·rules, hush_nesting)

    pub hush_type : (n : Nesting) (r : List Sym) → Hush bad (type_round n r)
    unfolding type_round
    hush_type n r = search (hush·rules, hush_nesting)

    pub hush_result : (l : ResultType) (r : List Sym) → Hush bad (result_round l r)
    unfolding result_round
    hush_result l r = search (hush·rules, hush_nesting)

    pub hush_instruction : (l : Inst) (r : List Sym) → Hush bad (instruction_round l r)
    unfolding instruction_round
    hush_instruction l r = search (hush·rules, hush_nesting) depth 9

-- ---- The loop.
module _ {L : Type 0} {bad : ℕ → Bool} where
  turn_calm : (u : Round L) (l : L) (s : Sym) (r : List Sym) (k : L → Res L) → Hush bad u → ((l' : L) → Calm bad (k l').out) → Calm bad (turn u l s r k).out
  turn_calm stop l s r k q h = tt
  turn_calm (go l') l s r k q h = h l'
  turn_calm (warn m l') l s r k q h = (q.hush, h l')

  pub scan_calm : (step : L → List Sym → Round L) → ((l : L) (r : List Sym) → Hush bad (step l r)) → (l : L) (r : List Sym) → Calm bad (scan step l r).out
  unfolding scan
  scan_calm step q l [] = tt
  scan_calm step q l (s ∷ r) = turn_calm (step l (s ∷ r)) l s r (λ l'. scan step l' r) (q l (s ∷ r)) (λ l'. scan_calm step q l' r)
