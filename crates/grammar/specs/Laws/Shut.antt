-- A forest whose last trees are a procedure or begin block that its `end` closes, and a newline.
-- Assumes nothing.
use Rattle.std.specs.Prelude.{◌≡◌, refl, Bool, true, false, cond, ◌&&◌, ◌||◌, [], ◌∷◌, ◌++◌, eqb}
use Rattle.std.proofs.Math.Bool.{and-false, or-true}
use Rattle.std.proofs.lemmas.Bool.{false≢true}
use Rattle.std.proofs.Common.{arith, append-nil, append_assoc}
use Rattle.lexer.specs.Syntax.{Newline}
use Rattle.grammar.specs.Words.{is, END}
use Rattle.grammar.specs.Run.{Kind, Procedure, BeginBlock, num, Forest, nil, leaf, node, say, ◌<>◌, leaves}
use Rattle.grammar.specs.Laws.Ahead.{Tail, here, there, tail_after}
use Rattle.std.proofs.lemmas.Bool.{and_parts, eqb-true}

-- No tree, only diagnostics.
abbrev pub empty : Forest → Bool
empty nil = true
empty (leaf s x) = false
empty (node k c x) = false
empty (say m x) = empty x

-- The last tree is the token `end`.
abbrev pub ends_end : Forest → Bool
ends_end nil = false
ends_end (leaf s x) = cond (empty x) (is END s) (ends_end x)
ends_end (node k c x) = ends_end x
ends_end (say m x) = ends_end x

-- The last tree is a token.
abbrev pub ends_leaf : Forest → Bool
ends_leaf nil = false
ends_leaf (leaf s x) = empty x || ends_leaf x
ends_leaf (node k c x) = ends_leaf x
ends_leaf (say m x) = ends_leaf x

abbrev pub top_block : Kind → Bool
top_block k = eqb (num Procedure) (num k) || eqb (num BeginBlock) (num k)

-- The last tree is a procedure or a begin block with its `end`.
abbrev pub shuts : Forest → Bool
shuts nil = false
shuts (leaf s x) = shuts x
shuts (node k c x) = cond (empty x) (top_block k && ends_end c) (shuts x)
shuts (say m x) = shuts x

-- The last tree is a procedure or a begin block whose last tree is a token.
abbrev pub shuts_leaf : Forest → Bool
shuts_leaf nil = false
shuts_leaf (leaf s x) = shuts_leaf x
shuts_leaf (node k c x) = cond (empty x) (top_block k && ends_leaf c) (shuts_leaf x)
shuts_leaf (say m x) = shuts_leaf x

-- One tree, a newline.
abbrev pub is_nl : Forest → Bool
is_nl nil = false
is_nl (leaf s x) = is Newline s && empty x
is_nl (node k c x) = false
is_nl (say m x) = is_nl x

-- The last tree but one is such a node, and the last is a newline.
abbrev pub closed : Forest → Bool
closed nil = false
closed (leaf s x) = closed x
closed (node k c x) = (is_nl x && (top_block k && ends_end c)) || closed x
closed (say m x) = closed x

pub empty_app : (x y : Forest) → empty (x <> y) ≡ (empty x && empty y)
empty_app nil y = refl
empty_app (leaf s x) y = refl
empty_app (node k c x) y = refl
empty_app (say m x) y = empty_app x y

pub empty_leaves : (x : Forest) → empty x ≡ true → leaves x ≡ []
empty_leaves nil e = refl
empty_leaves (leaf s x) e = absurd (false≢true e)
empty_leaves (node k c x) e = absurd (false≢true e)
empty_leaves (say m x) e = empty_leaves x e

-- Behind a forest with a tree, the first forest does not count.
pub ends_app : (x y : Forest) → empty y ≡ false → ends_end (x <> y) ≡ ends_end y
ends_app nil y e = refl
ends_app (leaf s x) y e = grind (arith, e, empty_app x y, ends_app x y e)
ends_app (node k c x) y e = ends_app x y e
ends_app (say m x) y e = ends_app x y e

pub leaf_app : (x y : Forest) → empty y ≡ false → ends_leaf (x <> y) ≡ ends_leaf y
leaf_app nil y e = refl
leaf_app (leaf s x) y e = rw (empty_app x y, e, and-false (empty x)) (leaf_app x y e)
leaf_app (node k c x) y e = leaf_app x y e
leaf_app (say m x) y e = leaf_app x y e

pub ends_tail : (x : Forest) → ends_end x ≡ true → Tail (leaves x ++ Newline ∷ [])
ends_tail nil e = absurd (false≢true e)
ends_tail (leaf s x) e = c (ends_tail x) (empty x) refl e
  where
    c : (ends_end x ≡ true → Tail (leaves x ++ Newline ∷ [])) → (u : Bool) → empty x ≡ u → cond u (is END s) (ends_end x) ≡ true → Tail (s ∷ (leaves x ++ Newline ∷ []))
    c ih true h e = rw (← eqb-true END s e, empty_leaves x h) here
    c ih false h e = there (ih e)
ends_tail (node k c x) e = rw append_assoc (tail_after (leaves c) (ends_tail x e))
ends_tail (say m x) e = ends_tail x e

pub nl_leaves : (x : Forest) → is_nl x ≡ true → leaves x ≡ Newline ∷ []
nl_leaves nil e = absurd (false≢true e)
nl_leaves (leaf s x) e = let h = and_parts (is Newline s) (empty x) e in rw (← eqb-true Newline s h.0, empty_leaves x h.1)
nl_leaves (node k c x) e = absurd (false≢true e)
nl_leaves (say m x) e = nl_leaves x e

pub shuts_tail : (x : Forest) → shuts x ≡ true → Tail (leaves x ++ Newline ∷ [])
shuts_tail nil e = absurd (false≢true e)
shuts_tail (leaf s x) e = there (shuts_tail x e)
shuts_tail (node k c x) e = g (shuts_tail x) (empty x) refl e
  where
    g : (shuts x ≡ true → Tail (leaves x ++ Newline ∷ [])) → (u : Bool) → empty x ≡ u → cond u (top_block k && ends_end c) (shuts x) ≡ true → Tail ((leaves c ++ leaves x) ++ Newline ∷ [])
    g ih true h e = rw (empty_leaves x h, append-nil) (ends_tail c (and_parts (top_block k) (ends_end c) e).1)
    g ih false h e = rw append_assoc (tail_after (leaves c) (ih e))
shuts_tail (say m x) e = shuts_tail x e

pub closed_tail : (x : Forest) → closed x ≡ true → Tail (leaves x)
closed_tail nil e = absurd (false≢true e)
closed_tail (leaf s x) e = there (closed_tail x e)
closed_tail (node k c x) e = g (closed_tail x) (is_nl x) (top_block k && ends_end c) refl refl e
  where
    g : (closed x ≡ true → Tail (leaves x)) → (u v : Bool) → is_nl x ≡ u → (top_block k && ends_end c) ≡ v → ((u && v) || closed x) ≡ true → Tail (leaves c ++ leaves x)
    g ih true true n q e = rw (nl_leaves x n) (ends_tail c (and_parts (top_block k) (ends_end c) q).1)
    g ih true false n q e = tail_after (leaves c) (ih e)
    g ih false v n q e = tail_after (leaves c) (ih e)
closed_tail (say m x) e = closed_tail x e

-- Where x and then y end so.
pub data Where (x y : Forest) : Type 0 where
  later : closed y ≡ true → Where x y
  between : shuts x ≡ true → is_nl y ≡ true → Where x y
  earlier : closed x ≡ true → Where x y

-- The newline is y's, and x has no tree; or it is x's.
pub data LastLine (x y : Forest) : Type 0 where
  second : empty x ≡ true → is_nl y ≡ true → LastLine x y
  first : is_nl x ≡ true → LastLine x y

nl_app : (x y : Forest) → is_nl (x <> y) ≡ true → LastLine x y
nl_app nil y e = second refl e
nl_app (leaf s x) y e = first (grind (arith, e, empty_app x y))
nl_app (node k c x) y e = absurd (false≢true e)
nl_app (say m x) y e = elim (nl_app x y e) [ second p q ↦ second p q | first p ↦ first p ]

shuts_full : (x : Forest) → shuts x ≡ true → empty x ≡ false
shuts_full nil e = absurd (false≢true e)
shuts_full (leaf s x) e = refl
shuts_full (node k c x) e = refl
shuts_full (say m x) e = shuts_full x e

pub closed_app : (x y : Forest) → closed (x <> y) ≡ true → Where x y
closed_app nil y e = later e
closed_app (leaf s x) y e = elim (closed_app x y e) [ later p ↦ later p | between p q ↦ between p q | earlier p ↦ earlier p ]
closed_app (node k c x) y e = g (closed_app x y) (is_nl (x <> y)) (top_block k && ends_end c) refl refl e
  where
    rest : Where x y → Where (node k c x) y
    rest (later p) = later p
    rest (between p q) = between (rw (shuts_full x p) p) q
    rest (earlier p) = earlier (rw p (or-true (is_nl x && (top_block k && ends_end c))))

    g : (closed (x <> y) ≡ true → Where x y) → (u v : Bool) → is_nl (x <> y) ≡ u → (top_block k && ends_end c) ≡ v → ((u && v) || closed (x <> y)) ≡ true → Where (node k c x) y
    g ih true true n q e = elim (nl_app x y n) [ second p r ↦ between (rw (p, q)) r | first p ↦ earlier (rw (p, q)) ]
    g ih true false n q e = rest (ih e)
    g ih false v n q e = rest (ih e)
closed_app (say m x) y e = elim (closed_app x y e) [ later p ↦ later p | between p q ↦ between p q | earlier p ↦ earlier p ]
