-- Diagnostics of a constant behind `pub`. It may lack one: `pub ( X ) const` with a doc comment for X reports five times for two tokens.
-- Then it ends at that doc comment, which pays for it.
-- Assumes nothing.
use Rattle.std.specs.Prelude.{ℕ, suc, ◌+◌, ◌*◌, ◌≤◌, ◌≡◌, refl, Bool, true, false, cond, not, ◌&&◌, ◌||◌, List, [], ◌∷◌, length, Result, Ok, Err}
use Rattle.std.proofs.lemmas.Bool.{false≢true}
use Rattle.std.proofs.Common.{lit≤, arith}
use Rattle.lexer.specs.Syntax
use Rattle.lexer.specs.Syntax.{Newline, Comment, DocComment, Equal}
use Rattle.grammar.specs.Words.{Sym, is, CONST, PUB}
use Rattle.grammar.specs.Look.{current, one_of, name_like, regular_trivia, is_trivia, at, skip, at_prefixed_keyword}
use Rattle.grammar.specs.Run.{Expr, nil, node, Res, P, pure, peek, in_node, pick, ◌>>=◌, ◌>>◌, take_token, err, Round, stop, go, warn, turn, scan}
use Rattle.grammar.specs.Message.{Message, number, ExpectedConst}
use Rattle.grammar.specs.Nesting.{Nesting, Closer, default, is_root, bump_by, counted, bump_nesting}
use Rattle.grammar.specs.Bump.{bump_while, expect_kind, expect_name}
use Rattle.grammar.specs.Line.{no_token, expr_round, parse_expr_until_line_end, tail_round, parse_line_tail}
use Rattle.grammar.specs.Item.{parse_visibility, optional_visibility, parse_constant, at_declaration}
use Rattle.std.proofs.lemmas.Bool.{and_parts, not-true, eqb-true}
use Rattle.grammar.specs.Laws.Here.{is_not, while_rest, bind_assoc}
use Rattle.grammar.specs.Laws.Live.{anywhere, some, at_some, takes}
use Rattle.grammar.proofs.Laws.Cost.{constant_value, constant_equal, constant_name, weigh, weigh_app, scan_cost, cost_weak, cost_any, cost_le, cost_bind, cost_node, cost_while, expect_true}
use Rattle.grammar.proofs.Laws.DiagCost.{errors, diags_price, Cost2, no_error, expects, cost_tail}
use Rattle.grammar.proofs.Laws.DiagItem.{cost_visibility, cost_value, cost_equal, cost_constant_name, cost_constant}
use Rattle.grammar.specs.Laws.LiveLine.{takes_nesting}
use Rattle.grammar.specs.Laws.Visible.{left, skip_no, skip_at, expect_false, visible}

-- What a doc comment pays ahead.
abbrev pub credit : List Sym → ℕ
credit r = cond (at (is DocComment) r) 1 0

-- As Cost, where the doc comment that f ends at pays.
pub record Owes (q : List Sym → Bool) (lack over : ℕ) {A : Type 0} (f : P A) : Type 0 where
  pub owes : (r : List Sym) → q r ≡ true → weigh diags_price (f r).out + 2 * length (f r).rest + over ≤ 2 * length r + lack + credit (f r).rest

pub owes_cost : {q : List Sym → Bool} {c e : ℕ} {A : Type 0} {f : P A} → Cost2 q c e f → Owes q c e f
owes_cost C = record { owes = λ r k. omega (arith, C.cost r k) }

-- Behind f, where q' holds.
owes_bind : {q : List Sym → Bool} (q' : List Sym → Bool) {c e c' e' : ℕ} {A B : Type 0} {f : P A} {g : A → P B} → Cost2 q c e f → ((r : List Sym) → q r ≡ true → q' (f r).rest ≡ true) → ((a : A) → Owes q' c' e' (g a)) → Owes q (c + c') (e + e') (f >>= g)
unfolding ◌>>=◌
owes_bind q' {f} {g} F i G = record { owes = λ r k. omega (arith, F.cost r k, (G (f r).val).owes (f r).rest (i r k), weigh_app diags_price (f r).out (g (f r).val (f r).rest).out) }

owes_le : {q : List Sym → Bool} {c e c' e' : ℕ} {A : Type 0} {f : P A} → Owes q c e f → c + e' ≤ c' + e → Owes q c' e' f
owes_le C h = record { owes = λ r k. omega (arith, C.owes r k) }

-- ---- expect and what follows: it takes a token, or reports and stays where a token is left.
left_skip : (r : List Sym) → left r ≡ true → left (skip regular_trivia r) ≡ true
left_skip r e = rw (skip_at regular_trivia (skip regular_trivia r) (skip_no regular_trivia r)) e

owes_expect : (k : Sym) (m : Message) → is k Syntax.Error ≡ false → {b c d e o : ℕ} {A : Type 0} {g : Bool → P A} → ((a : Bool) → Owes anywhere b e (g a)) → ((a : Bool) → Owes left c o (g a)) → b ≤ d + e + 2 → suc c ≤ d + o → Owes left d 0 (expect_kind k m >>= g)
unfolding ◌>>=◌
owes_expect k m x {b} {c} {d} {e} {o} {A} {g} F G i j = record { owes = λ r h. f r h (expect_kind k m r).val refl }
  where
    f : (r : List Sym) → left r ≡ true → (u : Bool) → (expect_kind k m r).val ≡ u → weigh diags_price ((expect_kind k m >>= g) r).out + 2 * length ((expect_kind k m >>= g) r).rest + 0 ≤ 2 * length r + d + credit ((expect_kind k m >>= g) r).rest
    f r h true q = omega (arith, expect_true diags_price k m 2 (no_error (is k) x) r q, (F (expect_kind k m r).val).owes (expect_kind k m r).rest refl, weigh_app diags_price (expect_kind k m r).out (g (expect_kind k m r).val (expect_kind k m r).rest).out)
    f r h false q = omega (arith, (expects k m).cost r refl, (G (expect_kind k m r).val).owes (expect_kind k m r).rest (rw (expect_false k m r q) (left_skip r h)), weigh_app diags_price (expect_kind k m r).out (g (expect_kind k m r).val (expect_kind k m r).rest).out)

-- ---- A token that is no regular trivia.
abbrev solid : Sym → Bool
solid s = not (regular_trivia s)

solid_no : (r : List Sym) → at solid r ≡ true → at regular_trivia r ≡ false
unfolding at
solid_no [] e = refl
solid_no (s ∷ r) e = not-true (regular_trivia s) e

solid_left : (r : List Sym) → at solid r ≡ true → left r ≡ true
solid_left r e = rw (skip_at regular_trivia r (solid_no r e)) (at_some solid r e)

left_solid : (r : List Sym) → left r ≡ true → at solid (bump_while regular_trivia r).rest ≡ true
unfolding some at
left_solid r e = rw (while_rest regular_trivia r) (c (skip regular_trivia r) e (skip_no regular_trivia r))
  where
    c : (l : List Sym) → some l ≡ true → at regular_trivia l ≡ false → at solid l ≡ true
    c [] e h = absurd (false≢true e)
    c (s ∷ l) e h = rw h

owes_name : (m : Message) → {b c d e o : ℕ} {A : Type 0} {g : Bool → P A} → ((a : Bool) → Owes anywhere b e (g a)) → ((a : Bool) → Owes left c o (g a)) → b ≤ d + e + 2 → suc c ≤ d + o → Owes (at solid) d 0 (expect_name m >>= g)
unfolding expect_name ◌>>=◌ peek take_token err at name_like one_of
owes_name m {b} {c} {d} {e} {o} {A} {g} F G i j = record { owes = f }
  where
    K : Bool → List Sym → Res A
    K u r = (pick u take_token (err (number m)) >>= g) r

    f : (r : List Sym) → at solid r ≡ true → weigh diags_price ((expect_name m >>= g) r).out + 2 * length ((expect_name m >>= g) r).rest + 0 ≤ 2 * length r + d + credit ((expect_name m >>= g) r).rest
    f [] h = absurd (false≢true h)
    f (s ∷ r) h = k (name_like s) refl
      where
        k : (u : Bool) → name_like s ≡ u → weigh diags_price (K u (s ∷ r)).out + 2 * length (K u (s ∷ r)).rest + 0 ≤ 2 * length (s ∷ r) + d + credit (K u (s ∷ r)).rest
        k true q = omega (arith, no_error name_like refl s q, (F true).owes r refl)
        k false q = omega (arith, (G true).owes (s ∷ r) (solid_left (s ∷ r) h))

-- ---- The value: its first token is taken, or it is the doc comment that it ends at.
abbrev price_of : {L : Type 0} → Round L → ℕ
price_of stop = 0
price_of (go l) = 0
price_of (warn m l) = 1

price_counted : {L : Type 0} (n : Nesting) (f : Nesting → L) (x : Result Nesting Closer) → price_of (counted n f x) ≤ 1
unfolding counted
price_counted n f (Ok m) = lit≤ tt
price_counted n f (Err c) = lit≤ tt

-- A closer that is refused is no Error.
price_nesting : {L : Type 0} (s : Sym) (f : Nesting → L) → price_of (bump_nesting default s f) + errors s ≤ 1
unfolding bump_nesting bump_by counted
price_nesting s f = c (is Syntax.Error s) refl
  where
    c : (u : Bool) → is Syntax.Error s ≡ u → price_of (bump_nesting default s f) + cond u 1 0 ≤ 1
    c true e = rw (← eqb-true Syntax.Error s e) (lit≤ tt)
    c false e = omega (arith, price_counted default f (bump_by default s))

module _ {L : Type 0} (step : L → List Sym → Round L) (l : L) (s : Sym) (r : List Sym) where
  first_turn : (u : Round L) → takes u ≡ true → price_of u + errors s ≤ 1 → weigh diags_price (turn u l s r (λ l'. scan step l' r)).out + 2 * length (turn u l s r (λ l'. scan step l' r)).rest + 1 ≤ 2 * length (s ∷ r)
  first_turn stop t h = absurd (false≢true t)
  first_turn (go l') t h = omega (arith, scan_cost diags_price step l' r)
  first_turn (warn m l') t h = omega (arith, scan_cost diags_price step l' r)

  first_scan : takes (step l (s ∷ r)) ≡ true → price_of (step l (s ∷ r)) + errors s ≤ 1 → weigh diags_price (scan step l (s ∷ r)).out + 2 * length (scan step l (s ∷ r)).rest + 1 ≤ 2 * length (s ∷ r)
  unfolding scan
  first_scan t h = first_turn (step l (s ∷ r)) t h

expr_first : (s : Sym) (r : List Sym) → solid s ≡ true → is DocComment s ≡ false → expr_round no_token (s ∷ r) ≡ bump_nesting default s (λ n. record { nesting = n; saw_significant = not (is_trivia s) })
unfolding expr_round at one_of is_root current
expr_first s r e d = rw (is_not solid Comment s refl e, d, is_not solid Newline s refl e)

-- Any other token but a doc comment.
abbrev plain : Sym → Bool
plain s = solid s && not (is DocComment s)

plain_expr : Cost2 (at plain) 0 1 (scan expr_round no_token)
unfolding at
plain_expr = record { cost = f }
  where
    f : (r : List Sym) → at plain r ≡ true → weigh diags_price (scan expr_round no_token r).out + 2 * length (scan expr_round no_token r).rest + 1 ≤ 2 * length r + 0
    f [] h = absurd (false≢true h)
    f (s ∷ r) h = c (solid s) (is DocComment s) refl refl h
      where
        c : (u v : Bool) → solid s ≡ u → is DocComment s ≡ v → (u && not v) ≡ true → weigh diags_price (scan expr_round no_token (s ∷ r)).out + 2 * length (scan expr_round no_token (s ∷ r)).rest + 1 ≤ 2 * length (s ∷ r) + 0
        c true true p q h = absurd (false≢true h)
        c true false p q h = let e = expr_first s r p q in omega (arith, first_scan expr_round no_token s r (rw e (takes_nesting default s _)) (rw e (price_nesting s _)))
        c false v p q h = absurd (false≢true h)

abbrev from_value : P Bool
from_value = in_node Expr (scan expr_round no_token) >> parse_line_tail

plain_value : Cost2 (at plain) 0 1 from_value
plain_value = cost_le (cost_bind (cost_node Expr plain_expr) (λ a. cost_tail)) (lit≤ tt)

doc_value : (r : List Sym) → from_value (DocComment ∷ r) ≡ record { rest = DocComment ∷ r; out = node Expr nil nil; val = true }
unfolding ◌>>=◌ in_node scan expr_round at one_of is_root parse_line_tail tail_round
doc_value r = refl

owes_from_value : Owes (at solid) 0 1 from_value
unfolding at
owes_from_value = record { owes = f }
  where
    f : (r : List Sym) → at solid r ≡ true → weigh diags_price (from_value r).out + 2 * length (from_value r).rest + 1 ≤ 2 * length r + 0 + credit (from_value r).rest
    f [] h = absurd (false≢true h)
    f (s ∷ r) h = c (is DocComment s) refl
      where
        c : (u : Bool) → is DocComment s ≡ u → weigh diags_price (from_value (s ∷ r)).out + 2 * length (from_value (s ∷ r)).rest + 1 ≤ 2 * length (s ∷ r) + 0 + credit (from_value (s ∷ r)).rest
        c true e = rw (← eqb-true DocComment s e, doc_value r) (omega arith)
        c false e = (owes_cost plain_value).owes (s ∷ r) (rw (h, e))

-- ---- The whole constant.
owes_trivia : {c e : ℕ} {A : Type 0} {g : Bool → P A} → ((a : Bool) → Owes (at solid) c e (g a)) → Owes left c e (bump_while regular_trivia >>= g)
owes_trivia G = owes_le (owes_bind (at solid) {c = 0} {e = 0} (cost_any {q = left} (cost_while regular_trivia) (lit≤ tt)) left_solid G) (omega arith)

owes_value : Owes left 0 1 constant_value
unfolding parse_expr_until_line_end
owes_value = record { owes = λ r k. rw (bind_assoc (bump_while regular_trivia) (λ a. in_node Expr (scan expr_round no_token)) (λ a. parse_line_tail) r) ((owes_trivia (λ a. owes_from_value)).owes r k) }

owes_equal : Owes left 0 0 constant_equal
owes_equal = owes_expect Equal _ refl (λ a. owes_cost cost_value) (λ a. owes_value) (lit≤ tt) (lit≤ tt)

owes_constant_name : Owes left 1 0 constant_name
owes_constant_name = owes_trivia (λ a. owes_name _ (λ a. owes_cost cost_equal) (λ a. owes_equal) (lit≤ tt) (lit≤ tt))

owes_const : Owes left 2 0 (expect_kind CONST (Message.Plain ExpectedConst) >> constant_name)
owes_const = owes_expect CONST _ refl (λ a. owes_cost cost_constant_name) (λ a. owes_constant_name) (lit≤ tt) (lit≤ tt)

prefixed_pub : (ks r : List Sym) → at_prefixed_keyword ks r ≡ true → at (is PUB) r ≡ true
unfolding at_prefixed_keyword
prefixed_pub ks r e = (and_parts (at (is PUB) r) _ e).0

owes_visible : Owes (at_prefixed_keyword (CONST ∷ [])) 0 0 (parse_visibility >> expect_kind CONST (Message.Plain ExpectedConst) >> constant_name)
owes_visible = owes_le (owes_bind left {c = 0} {e = 2} (cost_weak cost_visibility (prefixed_pub (CONST ∷ [])) (lit≤ tt)) (visible (CONST ∷ [])) (λ a. owes_const)) (lit≤ tt)

pub owes_constant : Owes (at_declaration (CONST ∷ [])) 0 0 parse_constant
unfolding at_declaration parse_constant optional_visibility in_node ◌>>=◌ peek
owes_constant = record { owes = λ r k. c (at (one_of (CONST ∷ [])) r) r refl k }
  where
    K : P Bool
    K = expect_kind CONST (Message.Plain ExpectedConst) >> constant_name

    pub_case : (u : Bool) (r : List Sym) → u ≡ true → at_prefixed_keyword (CONST ∷ []) r ≡ true → weigh diags_price ((pick u parse_visibility (pure true) >> K) r).out + 2 * length ((pick u parse_visibility (pure true) >> K) r).rest + 0 ≤ 2 * length r + 0 + credit ((pick u parse_visibility (pure true) >> K) r).rest
    pub_case true r i e = owes_visible.owes r e
    pub_case false r i e = absurd (false≢true i)

    c : (u : Bool) (r : List Sym) → at (one_of (CONST ∷ [])) r ≡ u → (u || at_prefixed_keyword (CONST ∷ []) r) ≡ true → weigh diags_price (parse_constant r).out + 2 * length (parse_constant r).rest + 0 ≤ 2 * length r + 0 + credit (parse_constant r).rest
    c true r i e = (owes_cost cost_constant).owes r i
    c false r i e = omega (arith, pub_case (at (is PUB) r) r (prefixed_pub (CONST ∷ []) r e) e)
