-- The tokens of joined sources: where A's last token is a newline that ends in LF, they are A's, and then B's moved on by A's length.
-- Assumes nothing.
use Rattle.std.specs.Prelude.{ℕ, zero, suc, ◌+◌, ◌≤◌, ◌<◌, ◌≡◌, refl, Bool, true, false, not, cond, ◌&&◌, ◌||◌, List, [], ◌∷◌, ◌++◌, map, eqb, ltb, length, take, drop}
use Rattle.std.proofs.Common.{zero-le, suc-le-suc, sym, ap, ◌∙◌, arith, le_of_suc-le-suc, not-suc-le-zero, add-zero, add_assoc, eqb-true, ltb-true, ltb-false, length-append, drop_of_length-le}
use Rattle.std.proofs.lemmas.List.{map-append, take-append-le}
use Rattle.std.proofs.lemmas.Bool.{eqb-false}
use Rattle.std.proofs.Math.Seq.{drop-append_seam}
use Rattle.lexer.specs.Syntax.{Newline, SpecialIdent, Error, QuotedIdent, QuotedString}
use Rattle.lexer.specs.Chars.{line_end, Cr, punctuation, class, graphic, word}
use Rattle.lexer.specs.Lexer.{Lexeme, LexRule, Token, lex_one, later, choose, follow, lex_while, special, unescaped, quoted, stray, arm, next, same, kernel, exec, advance_while, tokens, tokenize}
use Rattle.lexer.specs.Tokens.{token_kind, ends, token_kinds, token_ends}
use Rattle.lexer.specs.Good.{good_next}
use Rattle.lexer.specs.Laws.{token, tokens_skip, tokenize_nil, token_bytes, last, lossless}

-- a function that gives no newline
record NoNewline (f : LexRule) : Type 0 where
  none : (r : List ℕ) → eqb (f r).kind Newline ≡ false

none_one : (k : ℕ) → eqb k Newline ≡ false → NoNewline (lex_one k)
none_one k e = record { none = λ r. e }

none_while : (k : ℕ) (p : ℕ → Bool) → eqb k Newline ≡ false → NoNewline (lex_while k p)
unfolding lex_while
none_while k p e = record { none = λ r. e }

none_choose : (t : Bool) {f g : LexRule} → NoNewline f → NoNewline g → NoNewline (choose t f g)
none_choose true p q = p
none_choose false p q = q

-- the arm of a test that fails is free
none_past : (t : Bool) (f : LexRule) {g : LexRule} → t ≡ false → NoNewline g → NoNewline (choose t f g)
none_past t f e q = rw e q

none_follow : (x : ℕ) {f g : LexRule} → NoNewline f → NoNewline g → NoNewline (follow x f g)
unfolding follow
none_follow x {f} {g} p q = record { none = go }
  where
    go : (r : List ℕ) → eqb (follow x f g r).kind Newline ≡ false
    go [] = q.none []
    go (b ∷ r) = side (eqb b x)
      where
        side : (t : Bool) → eqb (cond t (later (f r)) (g (b ∷ r))).kind Newline ≡ false
        side true = p.none r
        side false = q.none (b ∷ r)

-- neither of two numbers is k; and the first of them is free where the test fails
none_cond : (k : ℕ) (t : Bool) (a b : ℕ) → eqb a k ≡ false → eqb b k ≡ false → eqb (cond t a b) k ≡ false
none_cond k true a b p q = p
none_cond k false a b p q = q

none_past_cond : (k : ℕ) (t : Bool) (a b : ℕ) → t ≡ false → eqb b k ≡ false → eqb (cond t a b) k ≡ false
none_past_cond k t a b e q = rw e q

none_special : NoNewline special
unfolding special
none_special =
    record { none = λ r. none_cond Newline (same (take (advance_while word r) r) kernel || same (take (advance_while word r) r) exec) SpecialIdent Error refl refl }

none_unescaped : (l c i : Bool) (t : Lexeme) → eqb t.kind Newline ≡ false → eqb (unescaped l c i t).kind Newline ≡ false
none_unescaped true c i t e = refl
none_unescaped false true i t e = none_cond Newline i QuotedIdent QuotedString refl refl
none_unescaped false false i t e = e

none_within : (t i : Bool) (r : List ℕ) → eqb (quoted t i r).kind Newline ≡ false
unfolding quoted
none_within t i [] = refl
none_within true i (b ∷ r) = none_within false i r
none_within false i (b ∷ r) = none_unescaped (line_end b) (eqb b 34) i _ (none_within (eqb b 92) (i && (graphic b && not (eqb b 92))) r)

none_quoted : (t i : Bool) → NoNewline (quoted t i)
none_quoted t i = record { none = none_within t i }

none_stray : (b : ℕ) → NoNewline (stray b)
unfolding stray
none_stray b = record { none = λ r. refl }

-- the arms of every other class
none_arm : (c b : ℕ) → eqb c Newline ≡ false → eqb c Cr ≡ false → NoNewline (arm c b)
unfolding arm
none_arm c b e f = search (none_one, none_while, none_past, none_choose, none_follow, none_special, none_quoted, none_stray) depth 30

-- the class of a byte that is neither LF nor CR
no_mark : (b : ℕ) → (eqb (punctuation b) Newline ≡ false) × (eqb (punctuation b) Cr ≡ false)
unfolding punctuation
no_mark b = (search (none_cond Newline) depth 30, search (none_cond Cr) depth 30)

module _ (b : ℕ) (e : eqb b 10 ≡ false) (f : eqb b 13 ≡ false) where
  no_newline : eqb (class b) Newline ≡ false
  unfolding class
  no_newline = search (none_cond Newline, none_past_cond Newline, (no_mark b).0) depth 20

  no_cr : eqb (class b) Cr ≡ false
  unfolding class
  no_cr = search (none_cond Cr, none_past_cond Cr, (no_mark b).1) depth 20

  none_next : (r : List ℕ) → eqb (next b r).kind Newline ≡ false
  unfolding next
  none_next r = (none_arm (class b) b no_newline no_cr).none r

-- LF and CR before a byte: what follows is not looked at
lf_next : (r b : List ℕ) → next 10 (r ++ b) ≡ next 10 r
unfolding next arm class
lf_next r b = refl

cr_next : (r b : List ℕ) → last 13 r ≡ 10 → next 13 (r ++ b) ≡ next 13 r
unfolding next arm class follow
cr_next [] b e = absurd (eqb-false 13 10 refl e)
cr_next (c ∷ r) b e = refl

-- a newline that ends in LF is the same, whatever follows
newline_next : (x : ℕ) (r b : List ℕ) → (next x r).kind ≡ Newline → last x r ≡ 10 → next x (r ++ b) ≡ next x r
newline_next x r b k e = go (eqb x 10) (eqb x 13) refl refl
  where
    go : (t u : Bool) → eqb x 10 ≡ t → eqb x 13 ≡ u → next x (r ++ b) ≡ next x r
    go true u p q = rw (eqb-true x 10 p) (lf_next r b)
    go false true p q = rw (eqb-true x 13 q) (cr_next r b (rw (eqb-true x 13 q) at e))
    go false false p q = absurd (eqb-false (next x r).kind Newline (none_next x p q r) k)

-- the first token stays, and so do those behind it
first_same : (x : ℕ) (r b : List ℕ) → next x (r ++ b) ≡ next x r → tokens (next x r).more (r ++ b) ≡ tokens (next x r).more r ++ tokenize b
    → tokens 0 (x ∷ (r ++ b)) ≡ tokens 0 (x ∷ r) ++ tokenize b
unfolding tokens
first_same x r b e h =
    let m = (next x r).more in
    ap (λ (t : Lexeme). record { kind = t.kind; text = x ∷ take t.more (r ++ b) } ∷ tokens t.more (r ++ b)) e
    ∙ ap (λ (l : List ℕ). record { kind = (next x r).kind; text = x ∷ l } ∷ tokens m (r ++ b)) (take-append-le m r b ((good_next x).within r))
    ∙ ap (λ (ts : List Token). token x r ∷ ts) h

-- behind the last token
none_left : (k : ℕ) (r : List ℕ) → length r ≤ k → tokens k r ≡ []
none_left k r h = tokens_skip k r ∙ ap tokenize (drop_of_length-le r h) ∙ tokenize_nil

after_all : (k : ℕ) (r b : List ℕ) → k ≡ length r → tokens k (r ++ b) ≡ tokens k r ++ tokenize b
after_all k r b e =
    tokens_skip k (r ++ b) ∙ ap (λ (n : ℕ). tokenize (drop n (r ++ b))) e ∙ ap tokenize (drop-append_seam r b)
    ∙ ap (λ (ts : List Token). ts ++ tokenize b) (sym (none_left k r (omega arith)))

-- a token with more behind it, or the last one
joins_first : (x : ℕ) (r b : List ℕ) → last (next x r).kind (map token_kind (tokens (next x r).more r)) ≡ Newline → last x r ≡ 10
    → ((next x r).more < length r → tokens (next x r).more (r ++ b) ≡ tokens (next x r).more r ++ tokenize b)
    → tokens 0 (x ∷ (r ++ b)) ≡ tokens 0 (x ∷ r) ++ tokenize b
joins_first x r b p q ih = go (ltb (next x r).more (length r)) refl
  where
    m : ℕ
    m = (next x r).more

    go : (t : Bool) → ltb m (length r) ≡ t → tokens 0 (x ∷ (r ++ b)) ≡ tokens 0 (x ∷ r) ++ tokenize b
    go true u = let l = ltb-true m (length r) u in first_same x r b ((good_next x).local r b l) (ih l)
    go false u =
        let n = ltb-false m (length r) u in
        let w = (good_next x).within r in
        first_same x r b (newline_next x r b (rw (none_left m r n) at p) q) (after_all m r b (omega arith))

joins : (k : ℕ) (a b : List ℕ) (d e : ℕ) → k < length a → last d (map token_kind (tokens k a)) ≡ Newline → last e a ≡ 10
    → tokens k (a ++ b) ≡ tokens k a ++ tokenize b
unfolding tokens
joins k [] b d e h p q = absurd (not-suc-le-zero h)
joins zero (x ∷ r) b d e h p q = joins_first x r b p q (λ l. joins (next x r).more r b (next x r).kind x l p q)
joins (suc k) (x ∷ r) b d e h p q = joins k r b d x (le_of_suc-le-suc h) p q

some_tokens : (a : List ℕ) → last 0 a ≡ 10 → 0 < length a
some_tokens [] e = absurd (eqb-false 0 10 refl e)
some_tokens (x ∷ a) e = suc-le-suc zero-le

-- A's last token is a newline, and A's last byte LF: the tokens of the join are A's and then B's
pub join : (a b : List ℕ) → last 0 (token_kinds a) ≡ Newline → last 0 a ≡ 10 → tokenize (a ++ b) ≡ tokenize a ++ tokenize b
unfolding tokenize
join a b p q = joins 0 a b 0 0 (some_tokens a q) p q

ends_append : (n : ℕ) (xs ys : List Token) → ends n (xs ++ ys) ≡ ends n xs ++ ends (n + length (token_bytes xs)) ys
unfolding ends
ends_append n [] ys = ap (λ (k : ℕ). ends k ys) (sym (add-zero n))
ends_append n (t ∷ xs) ys =
    let e = n + length t.text in
    ap (λ (l : List ℕ). e ∷ l) (ends_append e xs ys
    ∙ ap (λ (k : ℕ). ends e xs ++ ends k ys) (omega (arith, length-append t.text (token_bytes xs))))

-- moved on by m
ends_move : (m n : ℕ) (ts : List Token) → ends (m + n) ts ≡ map (λ e. m + e) (ends n ts)
unfolding ends
ends_move m n [] = refl
ends_move m n (t ∷ ts) =
    ap (λ (e : ℕ). e ∷ ends e ts) (add_assoc m n (length t.text))
    ∙ ap (λ (l : List ℕ). (m + (n + length t.text)) ∷ l) (ends_move m (n + length t.text) ts)

-- the ends of the join are A's, and then B's moved on by A's length
pub join_ends : (a b : List ℕ) → last 0 (token_kinds a) ≡ Newline → last 0 a ≡ 10
    → token_ends (a ++ b) ≡ token_ends a ++ map (λ e. length a + e) (token_ends b)
join_ends a b p q =
    ap (ends 0) (join a b p q)
    ∙ ends_append 0 (tokenize a) (tokenize b)
    ∙ ap (λ (k : ℕ). token_ends a ++ ends k (tokenize b)) (omega (arith, ap length (lossless a)))
    ∙ ap (λ (l : List ℕ). token_ends a ++ l) (ends_move (length a) 0 (tokenize b))

pub join_kinds : (a b : List ℕ) → last 0 (token_kinds a) ≡ Newline → last 0 a ≡ 10 → token_kinds (a ++ b) ≡ token_kinds a ++ token_kinds b
join_kinds a b p q = ap (map token_kind) (join a b p q) ∙ map-append token_kind (tokenize a) (tokenize b)
