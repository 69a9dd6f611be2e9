-- Joined files (demand 3): the events and diagnostics of A's tokens and then B's are A's, and then B's.
-- Assumes nothing.
use Rattle.std.specs.Prelude.{ℕ, suc, ◌+◌, ◌<◌, ◌≡◌, refl, Bool, true, false, length}
use Rattle.std.proofs.Common.{sym, ◌∙◌, ap, length-append, arith}
use mathlib.Core.List.{List, [], ◌∷◌, ◌++◌, append_assoc, map, tail, drop_last}
use Rattle.std.proofs.lemmas.List.{length-map}
use Rattle.lexer.specs.Syntax
use Rattle.lexer.specs.Syntax.{Whitespace, Newline, Comment, DocComment, RParen}
use Rattle.lexer.specs.Laws.{last}
use Rattle.grammar.specs.Words.{Sym, is}
use Rattle.grammar.specs.Look.{one_of, at, skip, next_relevant_top_level_token, next_relevant_block_token}
use Rattle.grammar.specs.Run.{Forest, nil, leaf, node, say, leaves}
use Rattle.grammar.specs.Item.{parse}
use Rattle.grammar.specs.Out.{ev, Diag, noted, dg, events, diags}
use Rattle.grammar.specs.Joins.{Tail, here, there, shut_by, move, Joins, Joined}
use Rattle.grammar.specs.Laws.Good.{leaves_app}
use Rattle.std.proofs.lemmas.Bool.Decides.{nat_tests}
use Rattle.grammar.specs.Laws.Shut.{closed, closed_tail}
use Rattle.grammar.proofs.Laws.Join.{join_forest, last_tree}
use Rattle.grammar.proofs.Laws.Premise.{premise}
use Rattle.grammar.specs.Laws.Out.{ev_app, dg_app, dg_move, but_last}
use Rattle.grammar.proofs.Theorems.AllTokens.{all_tokens}
use Rattle.grammar.specs.Theorems.Joined.{DiagsBelow}

-- On the forest's premise.
join_events : (limit : ℕ) (a b : List Sym) → at (is RParen) (next_relevant_top_level_token b) ≡ false → closed (parse limit a) ≡ true → events limit (a ++ b) ≡ drop_last (events limit a) ++ tail (events limit b)
unfolding events
join_events limit a b side c = rw (join_forest limit a b side c, ev_app, but_last (2 ∷ ev (parse limit a)) 0) (ap (λ l. 2 ∷ l) (append_assoc (ev (parse limit a)) (ev (parse limit b)) (0 ∷ [])))

join_diags : (limit : ℕ) (a b : List Sym) → at (is RParen) (next_relevant_top_level_token b) ≡ false → closed (parse limit a) ≡ true → diags limit (a ++ b) ≡ diags limit a ++ map (move (length a)) (diags limit b)
unfolding diags
join_diags limit a b side c = rw (join_forest limit a b side c, dg_app, all_tokens limit a) (ap (λ l. dg 0 (parse limit a) ++ l) (ap (λ n. dg n (parse limit b)) (omega arith) ∙ dg_move (length a) 0 (parse limit b)))

-- No `)` behind trivia of every kind: then none behind regular trivia, at which a doc comment stops.
paren : (b : List Sym) → at (is RParen) (next_relevant_block_token b) ≡ false → at (is RParen) (next_relevant_top_level_token b) ≡ false
unfolding at skip one_of
paren [] e = refl
paren (s ∷ b) e = grind (arith, nat_tests, e, paren b)

-- The word follows: where the last token is a newline, and by the events the token before it closes a procedure or begin block under the
-- root, that token is `end`.
pub end_follows : (limit : ℕ) (a : List Sym) → last 0 a ≡ Newline → shut_by [] (events limit a) ≡ true → Tail a
end_follows limit a l e = rw (all_tokens limit a) at (closed_tail (parse limit a) (premise limit a l e))

last_newline : (d : ℕ) {a : List Sym} → Tail a → last d a ≡ Newline
last_newline d here = refl
last_newline d (there {s} t) = last_newline s t

shut : (limit : ℕ) (a b : List Sym) → Joins limit a b → closed (parse limit a) ≡ true
shut limit a b j = premise limit a (last_newline 0 j.ends) j.closes

pub joined : (limit : ℕ) (a b : List Sym) → Joins limit a b → Joined limit a b
joined limit a b j = record { events_are = join_events limit a b (paren b j.starts) (shut limit a b j); diags_are = join_diags limit a b (paren b j.starts) (shut limit a b j) }

-- The counts: E is A's and B's less 2, D their sum.
pub joined_events : (limit : ℕ) (a b : List Sym) → Joins limit a b → length (events limit (a ++ b)) + 2 ≡ length (events limit a) + length (events limit b)
unfolding events
joined_events limit a b j =
    let x : List ℕ = ev (parse limit a) in
    let y : List ℕ = ev (parse limit b) in
    omega (arith, ap length (joined limit a b j).events_are, length-append (drop_last (2 ∷ (x ++ 0 ∷ []))) (y ++ 0 ∷ []), ap length (but_last (2 ∷ x) 0), length-append x (0 ∷ []))

pub joined_diags : (limit : ℕ) (a b : List Sym) → Joins limit a b → length (diags limit (a ++ b)) ≡ length (diags limit a) + length (diags limit b)
joined_diags limit a b j = omega (arith, ap length (joined limit a b j).diags_are, length-append (diags limit a) (map (move (length a)) (diags limit b)), length-map (diags limit b) (move (length a)))

below_app : (n : ℕ) (l m : List Diag) → DiagsBelow n l → DiagsBelow n m → DiagsBelow n (l ++ m)
below_app n [] m p q = q
below_app n (d ∷ l) m p q = (p.0, below_app n l m p.1 q)

below_noted : (u : Bool) (n i : ℕ) (l : List Diag) → i < n → DiagsBelow n l → DiagsBelow n (noted u i l)
below_noted true n i l h p = (h, p)
below_noted false n i l h p = p

dg_below : (n i : ℕ) (x : Forest) → i + length (leaves x) < n → DiagsBelow n (dg i x)
dg_below n i nil h = tt
dg_below n i (leaf s x) h = below_noted (is Syntax.Error s) n i (dg (suc i) x) (omega arith) (dg_below n (suc i) x (omega arith))
dg_below n i (node k c x) h =
    let l = length-append (leaves c) (leaves x) in
    below_app n (dg i c) (dg (i + length (leaves c)) x) (dg_below n i c (omega arith)) (dg_below n (i + length (leaves c)) x (omega arith))
dg_below n i (say m x) h = (omega arith, dg_below n i x h)

pub early : (limit : ℕ) (a b : List Sym) → Joins limit a b → DiagsBelow (length a) (diags limit a)
unfolding diags
early limit a b j =
    let l = last_tree limit a (shut limit a b j) in
    let n : length (leaves l.0) + 1 ≡ length a = sym (length-append (leaves l.0) (Newline ∷ [])) ∙ ap length (sym (leaves_app l.0 (leaf Newline nil)) ∙ ap leaves (sym l.1) ∙ all_tokens limit a) in
    rw (l.1, dg_app 0 l.0 (leaf Newline nil)) (below_app (length a) (dg 0 l.0) [] (dg_below (length a) 0 l.0 (omega arith)) tt)
