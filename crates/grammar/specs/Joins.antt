-- Joined files (demand 3) over tokens: when A and B are joined, and what then holds of A's tokens and then B's.
-- Assumes nothing: these are definitions.
use Rattle.std.specs.Prelude.{ℕ, ◌+◌, ◌≡◌, Bool, true, false, cond, not, ◌&&◌, ◌||◌, eqb, ltb, length}
use mathlib.Core.List.{List, [], ◌∷◌, ◌++◌, map, tail, drop_last}
use Rattle.lexer.specs.Syntax.{BeginBlock, Procedure, Newline, RParen}
use Rattle.grammar.specs.Words.{Sym, is, END}
use Rattle.grammar.specs.Look.{at, next_relevant_block_token}
use Rattle.grammar.specs.Out.{events, Diag, diags, Place}

-- The list ends in `end` and a newline.
pub data Tail : List Sym → Type 0 where
  here : Tail (END ∷ Newline ∷ [])
  there : {s : Sym} {r : List Sym} → Tail r → Tail (s ∷ r)

-- The events of tokens: 27 and above.
abbrev pub leaf_events : List ℕ → List ℕ
leaf_events [] = []
leaf_events (e ∷ es) = cond (ltb e 27) (leaf_events es) (e ∷ leaf_events es)

-- e is the event of the last token but one: behind it, in es, stands one more token's.
abbrev pub last_but_one : ℕ → List ℕ → Bool
last_but_one e es = not (ltb e 27) && eqb 1 (length (leaf_events es))

-- The next event closes a node.
abbrev pub zero_next : List ℕ → Bool
zero_next [] = false
zero_next (e ∷ es) = eqb 0 e

-- The open nodes, innermost first, are a procedure or begin block, and one around it: the root.
abbrev pub in_top : List ℕ → Bool
in_top [] = false
in_top (k ∷ []) = false
in_top (k ∷ r ∷ []) = eqb Procedure k || eqb BeginBlock k
in_top (k ∷ r ∷ x ∷ l) = false

-- The open nodes after an event.
abbrev pub opened : ℕ → List ℕ → List ℕ
opened e st = cond (eqb 0 e) (tail st) (cond (ltb e 27) (e ∷ st) st)

-- The event of the last token but one stands just before the 0 of a procedure's or begin block's node, that node being a child of the root.
-- st: the nodes that are open before these events.
abbrev pub shut_by : List ℕ → List ℕ → Bool
shut_by st [] = false
shut_by st (e ∷ es) = (last_but_one e es && (zero_next es && in_top st)) || shut_by (opened e st) es

-- The premise. A's last tokens are `end` and a newline; by A's events that `end` closes a procedure or begin block that is a child of the
-- root; B's first token that is no whitespace, newline or comment of either kind is no `)`, or B has none.
pub record Joins (limit : ℕ) (a b : List Sym) : Type 0 where
  pub ends : Tail a
  pub closes : shut_by [] (events limit a) ≡ true
  pub starts : at (is RParen) (next_relevant_block_token b) ≡ false

-- The diagnostic n tokens further on; its place n bytes further on.
abbrev pub move : ℕ → Diag → Diag
move n d = record { msg = d.msg; pos = n + d.pos }

abbrev pub shift : ℕ → Place → Place
shift n p = record { msg = p.msg; start = n + p.start; stop = n + p.stop }

-- What then holds: A's events without the last, then B's without the first; A's diagnostics, then B's moved on.
pub record Joined (limit : ℕ) (a b : List Sym) : Type 0 where
  pub events_are : events limit (a ++ b) ≡ drop_last (events limit a) ++ tail (events limit b)
  pub diags_are : diags limit (a ++ b) ≡ diags limit a ++ map (move (length a)) (diags limit b)
