-- Joined files: the forest of a and then b is that of a and that of b.
-- Assumes nothing.
use Prim.Native.Nat.{ℕ, zero, suc, ◌+◌, ◌≤◌, ◌<◌}
use Rattle.std.specs.Prelude.{◌≡◌, refl, true, false, length}
use Rattle.std.proofs.Common.{sym, ◌∙◌, ap, subst, length-append, arith}
use Rattle.std.proofs.Math.Bool.{Bool}
use Rattle.std.proofs.lemmas.Bool.{false≢true}
use mathlib.Core.List.{List, [], ◌∷◌, ◌++◌, append-nil}
use Rattle.lexer.specs.Syntax.{Newline, RParen}
use Rattle.grammar.specs.Words.{Sym, is}
use Rattle.grammar.specs.Look.{one_of, at, skip, eof, next_relevant_top_level_token}
use Rattle.grammar.specs.Run.{Kind, Forest, nil, leaf, node, ◌<>◌, leaves, Res, P, pure, peek, in_node, ◌>>=◌, when◌then◌else◌, take_token, m_never}
use Rattle.grammar.specs.Laws.Here.{both_branches}
use Rattle.grammar.specs.Bump.{error_token}
use Rattle.grammar.specs.Block.{Blocks, parse_block}
use Rattle.grammar.specs.Item.{parse_procedure, parse_begin_block, parse_namespace, parse_submodule, parse_constant, parse_type_decl, parse_advice_map, parse_source_item, items, items_in, parse}
use Rattle.grammar.specs.Laws.Ahead.{Tail, same, more}
use Rattle.grammar.specs.Laws.Good.{app_assoc, Calm, ext}
use Rattle.grammar.proofs.Laws.StableBlock.{Limits, equal}
use Rattle.grammar.proofs.Laws.StableItem.{good_item, good_items}
use Rattle.grammar.specs.Laws.Numbers.{no_message}
use Rattle.grammar.specs.Laws.Live.{some}
use Rattle.grammar.proofs.Laws.LiveBlock.{live_block}
use Rattle.grammar.proofs.Laws.LiveItem.{live_item, eats_item, live_items, items_end}
use Rattle.grammar.specs.Laws.Shut.{closed, closed_tail, nl_leaves, Where, later, between, earlier, closed_app}
use Rattle.grammar.proofs.Laws.Ends.{closes_item}

-- One tree, a token or a node, or nothing.
pub data Single : Forest → Type 0 where
  none : Single nil
  token : {s : Sym} → Single (leaf s nil)
  branch : {k : Kind} {c : Forest} → Single (node k c nil)

-- Such a forest does not hold the newline too.
single_open : {x : Forest} → Single x → closed x ≡ false
single_open none = refl
single_open token = refl
single_open branch = refl

record One {A : Type 0} (f : P A) : Type 0 where
  one : (r : List Sym) → Single (f r).out

one_if : {A : Type 0} (t : List Sym → Bool) {f g : P A} → One f → One g → One (when t then f else g)
unfolding ◌>>=◌ peek
one_if t F G = record { one = λ r. both_branches (λ x. Single x.out) (t r) _ _ (λ i. F.one r) (λ i. G.one r) }

one_node : (j : Kind) {A : Type 0} (f : P A) → One (in_node j f)
unfolding in_node
one_node j f = record { one = λ r. branch }

one_take : One take_token
unfolding take_token
one_take = record { one = c }
  where
    c : (r : List Sym) → Single (take_token r).out
    c [] = none
    c (s ∷ r) = token

one_item : (blk : Blocks) → One (parse_source_item blk)
unfolding parse_source_item parse_procedure parse_begin_block parse_namespace parse_submodule parse_constant parse_type_decl parse_advice_map error_token
one_item blk = search (one_if, one_node, one_take) depth 12

-- One item is one tree.
pub item_single : (blk : Blocks) (r : List Sym) → Single (parse_source_item blk r).out
item_single blk r = (one_item blk).one r

-- More fuel, or a higher limit where the depth diagnostic is bad: the same result.
pub same_run : (bad : ℕ → Bool) → bad m_never ≡ true → (lim lim' : ℕ) → Limits bad lim lim' → (n m : ℕ) → n ≤ m → (r : List Sym) → Calm bad (items n lim r).out → (items m lim' r).out ≡ (items n lim r).out
unfolding at skip
same_run bad h lim lim' l n m le r k =
    let e = (good_items [] refl bad h lim lim' l n m le).goes r (same refl) k in
    ap (λ (x : Res Bool). x.out) (rw (append-nil r) at e)

-- The leaves are the tokens, by fuel.
pub items_leaves : (n lim : ℕ) (r : List Sym) → length r < n → leaves (items n lim r).out ≡ r
unfolding at skip
items_leaves n lim r h =
    sym (append-nil (leaves (items n lim r).out))
    ∙ ap (λ l. leaves (items n lim r).out ++ l) (sym (items_end n lim r h))
    ∙ (good_items [] refl no_message refl lim lim (equal refl) n n (omega arith)).split r

nl_item : (n lim : ℕ) (r : List Sym) → (items (suc n) lim (Newline ∷ r)).out ≡ leaf Newline (items n lim r).out
unfolding items parse_source_item one_of ◌>>=◌ peek eof at take_token
nl_item n lim r = refl

nil_items : (n lim : ℕ) → (items (suc n) lim []).out ≡ nil
unfolding items ◌>>=◌ peek eof pure
nil_items n lim = refl

-- The last newline is an item by itself.
pub one_nl : (n lim : ℕ) → 2 ≤ n → (items n lim (Newline ∷ [])).out ≡ leaf Newline nil
one_nl zero lim h = absurd (omega arith)
one_nl (suc zero) lim h = absurd (omega arith)
one_nl (suc (suc n)) lim h = nl_item (suc n) lim [] ∙ ap (leaf Newline) (nil_items n lim)

module _ (b : List Sym) (side : at (is RParen) (next_relevant_top_level_token b) ≡ false) (lim k : ℕ) (hb : length b < k) where
  last_nl : (n m : ℕ) → 2 ≤ n → suc k ≤ m → (items m lim (Newline ∷ b)).out ≡ (items n lim (Newline ∷ [])).out <> (items k lim b).out
  last_nl n zero h g = absurd (omega arith)
  last_nl n (suc m) h g = rw (nl_item, one_nl n lim h)
      (ap (leaf Newline) (same_run no_message refl lim lim (equal refl) k m (omega arith) b ((live_items k lim).calm b refl hb)))

  join_items : (n m : ℕ) (r : List Sym) → length r < n → n + k ≤ m → closed (items n lim r).out ≡ true → (items m lim (r ++ b)).out ≡ (items n lim r).out <> (items k lim b).out
  unfolding items ◌>>=◌ peek eof pure some
  join_items zero m r h g c = absurd (omega arith)
  join_items (suc n) m [] h g c = absurd (false≢true c)
  join_items (suc n) zero (s ∷ r) h g c = absurd (omega arith)
  join_items (suc n) (suc m) (s ∷ r) h g c = at_where (join_items n m x.rest less (omega arith)) (closed_app x.out y.out c)
    where
      x : Res Bool
      x = parse_source_item (parse_block lim) (s ∷ r)

      y : Res Bool
      y = items n lim x.rest

      less : length x.rest < n
      less = omega (arith, (eats_item {n = 0} (live_block lim)).eats (s ∷ r) refl)

      quiet : Calm no_message x.out
      quiet = (live_item {n = suc n} (live_block lim)).calm (s ∷ r) refl (omega arith)

      left : leaves y.out ≡ x.rest
      left = items_leaves n lim x.rest less

      Goal : Type 0
      Goal = (items (suc m) lim (s ∷ (r ++ b))).out ≡ (items (suc n) lim (s ∷ r)).out <> (items k lim b).out

      step : parse_source_item (parse_block lim) ((s ∷ r) ++ b) ≡ ext b x → (items m lim (x.rest ++ b)).out ≡ y.out <> (items k lim b).out → Goal
      step p q = rw p (ap (λ z. x.out <> z) q ∙ sym (app_assoc x.out y.out (items k lim b).out))

      at_where : (closed y.out ≡ true → (items m lim (x.rest ++ b)).out ≡ y.out <> (items k lim b).out) → Where x.out y.out → Goal
      at_where ih (later p) = step ((good_item b side no_message refl lim lim (equal refl)).goes (s ∷ r) (more (subst Tail left (closed_tail y.out p))) quiet) (ih p)
      at_where ih (between p q) =
          let e : x.rest ≡ Newline ∷ [] = sym left ∙ nl_leaves y.out q in
          step ((closes_item b side lim).goes (s ∷ r) e p quiet) (subst (λ (l : List Sym). (items m lim (l ++ b)).out ≡ (items n lim l).out <> (items k lim b).out) (sym e) (last_nl n m (omega (arith, less, ap length e)) (omega (arith, less, ap length e))))
      at_where ih (earlier p) = absurd (false≢true (sym (single_open (item_single (parse_block lim) (s ∷ r))) ∙ p))

-- Demand 3, of the forest.
pub join_forest : (lim : ℕ) (a b : List Sym) → at (is RParen) (next_relevant_top_level_token b) ≡ false → closed (parse lim a) ≡ true → parse lim (a ++ b) ≡ parse lim a <> parse lim b
unfolding parse items_in
join_forest lim a b side c =
    let l = length-append a b in
    sym (same_run no_message refl lim lim (equal refl) (suc (length (a ++ b))) (suc (length a) + suc (length b)) (omega arith) (a ++ b) ((live_items (suc (length (a ++ b))) lim).calm (a ++ b) refl (omega arith)))
    ∙ join_items b side lim (suc (length b)) (omega arith) (suc (length a)) (suc (length a) + suc (length b)) a (omega arith) (omega arith) c

-- The last newline is an item by itself, with nothing said behind it.
last_items : (n lim : ℕ) (r : List Sym) → length r < n → closed (items n lim r).out ≡ true → (x : Forest) × ((items n lim r).out ≡ x <> leaf Newline nil)
unfolding items ◌>>=◌ peek eof pure some at skip
last_items zero lim r h c = absurd (omega arith)
last_items (suc n) lim [] h c = absurd (false≢true c)
last_items (suc n) lim (s ∷ r) h c = at_where (last_items n lim x.rest less) (closed_app x.out y.out c)
  where
    x : Res Bool
    x = parse_source_item (parse_block lim) (s ∷ r)

    y : Res Bool
    y = items n lim x.rest

    less : length x.rest < n
    less = omega (arith, (eats_item {n = 0} (live_block lim)).eats (s ∷ r) refl)

    left : leaves y.out ≡ x.rest
    left = items_leaves n lim x.rest less

    Goal : Type 0
    Goal = (z : Forest) × (x.out <> y.out ≡ z <> leaf Newline nil)

    at_where : (closed y.out ≡ true → (z : Forest) × (y.out ≡ z <> leaf Newline nil)) → Where x.out y.out → Goal
    at_where ih (later p) = let z = ih p in (x.out <> z.0, ap (λ w. x.out <> w) z.1 ∙ sym (app_assoc x.out z.0 (leaf Newline nil)))
    at_where ih (between p q) = (x.out, ap (λ w. x.out <> w) (let e : x.rest ≡ Newline ∷ [] = sym left ∙ nl_leaves y.out q in rw e (one_nl n lim (omega (arith, less, ap length e)))))
    at_where ih (earlier p) = absurd (false≢true (sym (single_open (item_single (parse_block lim) (s ∷ r))) ∙ p))

pub last_tree : (lim : ℕ) (a : List Sym) → closed (parse lim a) ≡ true → (x : Forest) × (parse lim a ≡ x <> leaf Newline nil)
unfolding parse items_in
last_tree lim a c = last_items (suc (length a)) lim a (omega arith) c
