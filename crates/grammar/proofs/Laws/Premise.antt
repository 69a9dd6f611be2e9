-- Demand 3's premise, read off A's tokens and events alone.
-- Assumes nothing.
use Rattle.std.specs.Prelude.{ℕ, zero, suc, ◌<◌, ◌≡◌, refl, Bool, true, false, ◌&&◌, ◌||◌, List, [], ◌∷◌, ◌++◌, map, eqb, ltb, length}
use Rattle.std.proofs.Common.{sym, ◌∙◌, ap, append_assoc, append-nil, arith}
use Rattle.std.proofs.Math.Bool.{or-true}
use Rattle.std.proofs.lemmas.Bool.{false≢true}
use Rattle.std.proofs.lemmas.Bool.Decides.{nat_tests}
use Rattle.std.proofs.lemmas.List.{map-append, length-map}
use Rattle.lexer.specs.Syntax.{Newline}
use Rattle.lexer.specs.Laws.{last}
use Rattle.grammar.specs.Words.{Sym, kind_of, event_of}
use Rattle.grammar.specs.Look.{at, skip, eof}
use Rattle.grammar.specs.Run.{Kind, Error, SourceFile, Doc, Namespace, Submodule, Constant, TypeDecl, AdviceMap, BeginBlock, Procedure, Attribute, Visibility, Signature, Block, IfOp, WhileOp, DoWhileOp, RepeatOp, Instruction, Path, Expr, TypeBody, num, Forest, nil, leaf, node, say, ◌<>◌, leaves, Res, pure, peek, ◌>>=◌}
use Rattle.grammar.specs.Block.{parse_block}
use Rattle.grammar.specs.Item.{parse_source_item, items, items_in, parse}
use Rattle.grammar.specs.Out.{kind, ev, events}
use Rattle.grammar.specs.Joins.{leaf_events, zero_next, in_top, shut_by}
use Rattle.std.proofs.lemmas.Bool.{and_parts, eqb-true}
use Rattle.grammar.proofs.Laws.StableBlock.{equal}
use Rattle.grammar.proofs.Laws.StableItem.{good_item}
use Rattle.grammar.specs.Laws.Numbers.{no_message}
use Rattle.grammar.specs.Laws.Live.{some}
use Rattle.grammar.proofs.Laws.LiveBlock.{live_block}
use Rattle.grammar.proofs.Laws.LiveItem.{eats_item}
use Rattle.grammar.specs.Laws.Out.{ev_app}
use Rattle.grammar.specs.Laws.Shut.{empty, ends_end, ends_leaf, top_block, shuts, shuts_leaf, is_nl, closed}
use Rattle.grammar.proofs.Laws.Ends.{closes_item}
use Rattle.grammar.proofs.Laws.Join.{Single, none, token, branch, item_single, items_leaves, one_nl}

-- the event of a kind
event_pos : (n : ℕ) → eqb 0 (event_of n) ≡ false
event_pos n = grind (arith, nat_tests)

event_high : (n : ℕ) → ltb (event_of n) 27 ≡ false
event_high n = grind (arith, nat_tests)

pub kind_pos : (s : Sym) → eqb 0 (kind s) ≡ false
kind_pos s = event_pos (kind_of s)

pub kind_high : (s : Sym) → ltb (kind s) 27 ≡ false
kind_high s = event_high (kind_of s)

-- The number of a node is 1 to 26.
pub num_node : (k : Kind) → (eqb 0 (num k) ≡ false) × (ltb (num k) 27 ≡ true)
num_node Error = (refl, refl)
num_node SourceFile = (refl, refl)
num_node Doc = (refl, refl)
num_node Namespace = (refl, refl)
num_node Submodule = (refl, refl)
num_node Constant = (refl, refl)
num_node TypeDecl = (refl, refl)
num_node AdviceMap = (refl, refl)
num_node BeginBlock = (refl, refl)
num_node Procedure = (refl, refl)
num_node Attribute = (refl, refl)
num_node Visibility = (refl, refl)
num_node Signature = (refl, refl)
num_node Block = (refl, refl)
num_node IfOp = (refl, refl)
num_node WhileOp = (refl, refl)
num_node DoWhileOp = (refl, refl)
num_node RepeatOp = (refl, refl)
num_node Instruction = (refl, refl)
num_node Path = (refl, refl)
num_node Expr = (refl, refl)
num_node TypeBody = (refl, refl)

-- ---- The events of tokens.
node_event : (e : ℕ) (es : List ℕ) → ltb e 27 ≡ true → leaf_events (e ∷ es) ≡ leaf_events es
node_event e es h = rw h

token_event : (e : ℕ) (es : List ℕ) → ltb e 27 ≡ false → leaf_events (e ∷ es) ≡ e ∷ leaf_events es
token_event e es h = rw h

pub leaf_events_of : (x : Forest) (es : List ℕ) → leaf_events (ev x ++ es) ≡ map kind (leaves x) ++ leaf_events es
leaf_events_of nil es = refl
leaf_events_of (leaf s x) es = token_event (kind s) (ev x ++ es) (kind_high s) ∙ ap (λ (l : List ℕ). kind s ∷ l) (leaf_events_of x es)
leaf_events_of (node k c x) es =
    node_event (num k) ((ev c ++ 0 ∷ ev x) ++ es) (num_node k).1
    ∙ ap leaf_events (append_assoc (ev c) (0 ∷ ev x) es)
    ∙ leaf_events_of c (0 ∷ (ev x ++ es))
    ∙ ap (λ (l : List ℕ). map kind (leaves c) ++ l) (leaf_events_of x es)
    ∙ sym (ap (λ (l : List ℕ). l ++ leaf_events es) (map-append kind (leaves c) (leaves x))
    ∙ append_assoc (map kind (leaves c)) (map kind (leaves x)) (leaf_events es))
leaf_events_of (say m x) es = leaf_events_of x es

-- ---- shut_by, event by event.
abbrev here : List ℕ → List ℕ → Bool
here st es = eqb 1 (length (leaf_events es)) && (zero_next es && in_top st)

step_num : (m : ℕ) (st es : List ℕ) → eqb 0 m ≡ false → ltb m 27 ≡ false → shut_by st (m ∷ es) ≡ (here st es || shut_by st es)
step_num m st es h k = rw (h, k)

step_leaf : (s : Sym) (st es : List ℕ) → shut_by st (kind s ∷ es) ≡ (here st es || shut_by st es)
step_leaf s st es = step_num (kind s) st es (kind_pos s) (kind_high s)

step_node : (k : Kind) (st es : List ℕ) → shut_by st (num k ∷ es) ≡ shut_by (num k ∷ st) es
step_node k st es = let n = num_node k in c (num k) n.0 n.1
  where
    c : (m : ℕ) → eqb 0 m ≡ false → ltb m 27 ≡ true → shut_by st (m ∷ es) ≡ shut_by (m ∷ st) es
    c m h k = rw (h, k)

not_in : (u w v : Bool) → ((u && (w && false)) || v) ≡ v
not_in u w v = grind arith

-- Where no procedure or begin block under the root is innermost, a token is passed.
pass_leaf : (s : Sym) (st es : List ℕ) → in_top st ≡ false → shut_by st (kind s ∷ es) ≡ shut_by st es
pass_leaf s st es h = step_leaf s st es ∙ rw h (not_in (eqb 1 (length (leaf_events es))) (zero_next es) (shut_by st es))

-- Three or more nodes are open: nothing is found there.
deep_in : (i j k : ℕ) (st : List ℕ) (x : Forest) (es : List ℕ) → shut_by (i ∷ j ∷ k ∷ st) (ev x ++ es) ≡ shut_by (i ∷ j ∷ k ∷ st) es
deep_in i j k st nil es = refl
deep_in i j k st (leaf s x) es = pass_leaf s (i ∷ j ∷ k ∷ st) (ev x ++ es) refl ∙ deep_in i j k st x es
deep_in i j k st (node n c x) es =
    step_node n (i ∷ j ∷ k ∷ st) ((ev c ++ 0 ∷ ev x) ++ es)
    ∙ ap (shut_by (num n ∷ i ∷ j ∷ k ∷ st)) (append_assoc (ev c) (0 ∷ ev x) es)
    ∙ deep_in (num n) i j (k ∷ st) c (0 ∷ (ev x ++ es))
    ∙ deep_in i j k st x es
deep_in i j k st (say m x) es = deep_in i j k st x es

-- ---- In a child of the root.
-- No tree of c is left before the 0.
no_tree : (c : Forest) (es : List ℕ) → zero_next (ev c ++ 0 ∷ es) ≡ true → empty c ≡ true
no_tree nil es h = refl
no_tree (leaf s c) es h = absurd (false≢true (sym (kind_pos s) ∙ h))
no_tree (node k d c) es h = absurd (false≢true (sym (num_node k).0 ∙ h))
no_tree (say m c) es h = no_tree c es h

empty_events : (c : Forest) (es : List ℕ) → empty c ≡ true → ev c ++ es ≡ es
empty_events nil es h = refl
empty_events (leaf s c) es h = absurd (false≢true h)
empty_events (node k d c) es h = absurd (false≢true h)
empty_events (say m c) es h = empty_events c es h

data Found (k : Kind) (r : ℕ) (c : Forest) (es : List ℕ) : Type 0 where
  inside : (top_block k && ends_leaf c) ≡ true → length (leaf_events es) ≡ 1 → Found k r c es
  past : shut_by (r ∷ []) es ≡ true → Found k r c es

child : (k : Kind) (r : ℕ) (c : Forest) (es : List ℕ) → shut_by (num k ∷ r ∷ []) (ev c ++ 0 ∷ es) ≡ true → Found k r c es
child k r nil es h = past h
child k r (leaf s c) es h =
    go (here (num k ∷ r ∷ []) (ev c ++ 0 ∷ es)) refl (sym (step_leaf s (num k ∷ r ∷ []) (ev c ++ 0 ∷ es)) ∙ h) (child k r c es)
  where
    more : Found k r c es → Found k r (leaf s c) es
    more (inside t q) = let h = and_parts (top_block k) _ t in inside (rw (h.0, h.1) (or-true (empty c))) q
    more (past q) = past q

    go : (u : Bool) → here (num k ∷ r ∷ []) (ev c ++ 0 ∷ es) ≡ u → (u || shut_by (num k ∷ r ∷ []) (ev c ++ 0 ∷ es)) ≡ true
        → (shut_by (num k ∷ r ∷ []) (ev c ++ 0 ∷ es) ≡ true → Found k r c es) → Found k r (leaf s c) es
    go true e q ih =
        let h = and_parts (eqb 1 (length (leaf_events (ev c ++ 0 ∷ es)))) _ e in
        let z = and_parts (zero_next (ev c ++ 0 ∷ es)) _ h.1 in
        let p : empty c ≡ true = no_tree c es z.0 in
        let q : eqb 1 (length (leaf_events es)) ≡ true = rw (empty_events c (0 ∷ es) p) at h.0 in
        inside (rw p (rw z.1)) (sym (eqb-true 1 _ q))
    go false e q ih = more (ih q)
child k r (node n d c) es h =
    more (child k r c es
    (sym (deep_in (num n) (num k) r [] d (0 ∷ (ev c ++ 0 ∷ es)))
    ∙ sym (ap (shut_by (num n ∷ num k ∷ r ∷ [])) (append_assoc (ev d) (0 ∷ ev c) (0 ∷ es)))
    ∙ sym (step_node n (num k ∷ r ∷ []) ((ev d ++ 0 ∷ ev c) ++ 0 ∷ es))
    ∙ h))
  where
    more : Found k r c es → Found k r (node n d c) es
    more (inside t q) = inside t q
    more (past q) = past q
child k r (say m c) es h = more (child k r c es h)
  where
    more : Found k r c es → Found k r (say m c) es
    more (inside t q) = inside t q
    more (past q) = past q

-- ---- Under the root, item by item.
last_app : (d : ℕ) (l r : List ℕ) → last d (l ++ r) ≡ last (last d l) r
last_app d [] r = refl
last_app d (x ∷ l) r = last_app x l r

only : (d : ℕ) (r : List Sym) → length r ≡ 1 → last d r ≡ Newline → r ≡ Newline ∷ []
only d [] h e = absurd (omega arith)
only d (s ∷ []) h e = cc
only d (s ∷ t ∷ r) h e = absurd (omega arith)

-- One token is left behind the item that is found: the newline, an item by itself. d: the token before r.
root : (n lim d : ℕ) (r : List Sym) → length r < n → last d r ≡ Newline → shut_by (2 ∷ []) (ev (items n lim r).out ++ 0 ∷ []) ≡ true
    → closed (items n lim r).out ≡ true
unfolding items ◌>>=◌ peek eof pure some at skip
root zero lim d r h l e = absurd (omega arith)
root (suc n) lim d [] h l e = absurd (false≢true e)
root (suc n) lim d (s ∷ r) h l e =
    by (root n lim (last d (leaves x.out)) x.rest less last_left)
    (item_single (parse_block lim) (s ∷ r)) ((closes_item [] refl lim).word (s ∷ r)) (ap (shut_by (2 ∷ [])) (sym split) ∙ e)
  where
    x : Res Bool
    x = parse_source_item (parse_block lim) (s ∷ r)

    less : length x.rest < n
    less = omega (arith, (eats_item {n = 0} (live_block lim)).eats (s ∷ r) refl)

    y : Res Bool
    y = items n lim x.rest

    es : List ℕ
    es = ev y.out ++ 0 ∷ []

    split : ev (x.out <> y.out) ++ 0 ∷ [] ≡ ev x.out ++ es
    split = ap (λ (l : List ℕ). l ++ 0 ∷ []) (ev_app x.out y.out) ∙ append_assoc (ev x.out) (ev y.out) (0 ∷ [])

    last_left : last (last d (leaves x.out)) x.rest ≡ Newline
    last_left =
        sym (last_app d (leaves x.out) x.rest)
        ∙ ap (last d) ((good_item [] refl no_message refl lim lim (equal refl)).split (s ∷ r))
        ∙ l

    count : length (leaf_events es) ≡ length x.rest
    count =
        ap length (leaf_events_of y.out (0 ∷ []) ∙ append-nil (map kind (leaves y.out)))
        ∙ length-map (leaves y.out) kind
        ∙ ap length (items_leaves n lim x.rest less)

    by : (shut_by (2 ∷ []) es ≡ true → closed y.out ≡ true) → {o : Forest} → Single o
        → (x.rest ≡ Newline ∷ [] → shuts_leaf o ≡ true → shuts o ≡ true) → shut_by (2 ∷ []) (ev o ++ es) ≡ true → closed (o <> y.out) ≡ true
    by ih none w q = ih q
    by ih (token {s}) w q = ih (sym (pass_leaf s (2 ∷ []) es refl) ∙ q)
    by ih (branch {k} {c}) w q =
        let p = step_node k (2 ∷ []) ((ev c ++ 0 ∷ []) ++ es) ∙ ap (shut_by (num k ∷ 2 ∷ [])) (append_assoc (ev c) (0 ∷ []) es) in
        at_found (child k 2 c es (sym p ∙ q))
      where
        at_found : Found k 2 c es → closed (node k c y.out) ≡ true
        at_found (inside t m) =
            let f : x.rest ≡ Newline ∷ [] = only (last d (leaves x.out)) x.rest (sym count ∙ m) last_left in
            let z = ap (λ (l : List Sym). (items n lim l).out) f ∙ one_nl n lim (omega (arith, less, ap length f)) in
            rw (z, w f t)
        at_found (past q) = rw (ih q) (or-true (is_nl y.out && (top_block k && ends_end c)))

-- ---- The premise: A's last token is a newline, and by its events the token before closes a procedure or begin block under the root.
pub premise : (limit : ℕ) (a : List Sym) → last 0 a ≡ Newline → shut_by [] (events limit a) ≡ true → closed (parse limit a) ≡ true
unfolding events parse items_in
premise limit a l e = root (suc (length a)) limit 0 a (omega arith) l e
