-- Behind a visibility that lookahead saw past, a token is left that is no regular trivia.
-- Assumes nothing.
use Rattle.std.specs.Prelude.{◌≡◌, refl, Bool, true, false, ◌&&◌, List, [], ◌∷◌}
use Rattle.std.proofs.Common.{arith, sym, ◌∙◌, ap}
use Rattle.std.proofs.lemmas.Bool.{false≢true}
use Rattle.lexer.specs.Syntax.{LParen, RParen}
use Rattle.grammar.specs.Words.{Sym, is, PACKAGE, PUB}
use Rattle.grammar.specs.Look.{one_of, regular_trivia, at, skip, past, anyone, next_relevant_top_level_token, next_token_after_visibility, at_prefixed_keyword}
use Rattle.grammar.specs.Run.{pure, peek, in_node, pick, ◌>>=◌, ◌>>◌, take_token, err}
use Rattle.grammar.specs.Message.{Message, number}
use Rattle.grammar.specs.Bump.{bump_while, expect_kind}
use Rattle.grammar.specs.Item.{package_in_parens, parse_visibility}
use Rattle.grammar.specs.Laws.Here.{while_rest, expect_here}
use Rattle.grammar.specs.Laws.Live.{some, at_some}

-- A token is left behind the regular trivia.
abbrev pub left : List Sym → Bool
left r = some (skip regular_trivia r)

-- What expect leaves of the list behind the trivia.
unfoldable onward : Sym → List Sym → List Sym
onward k [] = []
onward k (s ∷ l) = elim (is k s) [ true ↦ l | false ↦ s ∷ l ]

-- skip ends at a token that is not p, so it does nothing twice.
pub skip_no : (p : Sym → Bool) (r : List Sym) → at p (skip p r) ≡ false
unfolding skip at
skip_no p [] = refl
skip_no p (s ∷ r) = grind (arith, skip_no p r)

pub skip_at : (p : Sym → Bool) (r : List Sym) → at p r ≡ false → skip p r ≡ r
unfolding skip at
skip_at p [] e = refl
skip_at p (s ∷ r) e = rw (e, skip)

expect_key : (k : Sym) (m : Message) (l : List Sym) → (pick (at (is k) l) (take_token >> pure true) (err (number m) >> pure false) l).rest ≡ onward k l
unfolding at ◌>>=◌ take_token pure err onward
expect_key k m [] = refl
expect_key k m (s ∷ l) = grind arith

expect_rest : (k : Sym) (m : Message) (r : List Sym) → (expect_kind k m r).rest ≡ onward k (skip regular_trivia r)
unfolding expect_kind ◌>>=◌ peek
expect_rest k m r = ap (λ l. (pick (at (is k) l) (take_token >> pure true) (err (number m) >> pure false) l).rest) (while_rest regular_trivia r) ∙ expect_key k m (skip regular_trivia r)

-- Where expect says false it is behind the trivia.
pub expect_false : (k : Sym) (m : Message) (r : List Sym) → (expect_kind k m r).val ≡ false → (expect_kind k m r).rest ≡ skip regular_trivia r
unfolding expect_kind ◌>>=◌ peek at take_token pure err
expect_false k m r e = c (bump_while regular_trivia r).rest (while_rest regular_trivia r) e
  where
    d : (u : Bool) (l : List Sym) → (pick u (take_token >> pure true) (err (number m) >> pure false) l).val ≡ false → (pick u (take_token >> pure true) (err (number m) >> pure false) l).rest ≡ l
    d true l e = absurd (false≢true (sym e))
    d false l e = refl

    c : (l : List Sym) → l ≡ skip regular_trivia r → (pick (at (is k) l) (take_token >> pure true) (err (number m) >> pure false) l).val ≡ false → (pick (at (is k) l) (take_token >> pure true) (err (number m) >> pure false) l).rest ≡ skip regular_trivia r
    c l q e = d (at (is k) l) l e ∙ q

-- Inside the parentheses; m starts at the one token that lookahead leaves out.
after_package : (ks m : List Sym) → skip regular_trivia m ≡ m → at (one_of ks) (skip regular_trivia (past (is RParen) (skip regular_trivia (past anyone m)))) ≡ true → left (onward RParen (skip regular_trivia (onward PACKAGE m))) ≡ true
unfolding past skip at some onward
after_package ks [] h e = absurd (false≢true e)
after_package ks (x ∷ n) h e = c (skip regular_trivia n) refl e
  where
    c : (l : List Sym) → skip regular_trivia n ≡ l → at (one_of ks) (skip regular_trivia (past (is RParen) l)) ≡ true → left (onward RParen (skip regular_trivia (onward PACKAGE (x ∷ n)))) ≡ true
    c [] q e = absurd (false≢true e)
    c (y ∷ o) q e = d (is RParen y) refl e
      where
        last : (u : Bool) → left (elim u [ true ↦ n | false ↦ x ∷ n ]) ≡ true
        last true = rw q
        last false = rw h

        f : is RParen y ≡ true → left o ≡ true → (u : Bool) → left (onward RParen (skip regular_trivia (elim u [ true ↦ n | false ↦ x ∷ n ]))) ≡ true
        f i k true = rw (q, onward, i) k
        f i k false = rw h (last (is RParen x))

        d : (u : Bool) → is RParen y ≡ u → at (one_of ks) (skip regular_trivia (elim u [ true ↦ o | false ↦ [] ])) ≡ true → left (onward RParen (skip regular_trivia (onward PACKAGE (x ∷ n)))) ≡ true
        d true i e = f i (at_some (one_of ks) (skip regular_trivia o) e) (is PACKAGE x)
        d false i e = absurd (false≢true e)

take_past : (k : Sym) (l : List Sym) → at (is k) l ≡ true → past (is k) l ≡ (take_token l).rest
unfolding past take_token at
take_past k [] e = refl
take_past k (s ∷ l) e = rw (e, past)

package_rest : (r : List Sym) → (package_in_parens r).rest ≡ onward RParen (skip regular_trivia (onward PACKAGE (skip regular_trivia (take_token (skip regular_trivia r)).rest)))
unfolding package_in_parens ◌>>=◌
package_rest r = rw (while_rest regular_trivia r, expect_rest RParen, expect_rest PACKAGE)

-- The list behind `pub`.
behind : (ks r : List Sym) → at (one_of ks) (next_token_after_visibility r) ≡ true → left (pick (at (is LParen) (next_relevant_top_level_token r)) package_in_parens (pure true) r).rest ≡ true
unfolding next_token_after_visibility pure
behind ks r e = c (at (is LParen) (next_relevant_top_level_token r)) refl e
  where
    n : List Sym
    n = next_relevant_top_level_token r

    c : (u : Bool) → at (is LParen) n ≡ u →
        at (one_of ks) (elim u [ true ↦ skip regular_trivia (past (is RParen) (skip regular_trivia (past anyone (skip regular_trivia (past (is LParen) n))))) | false ↦ n ]) ≡ true → left (pick u package_in_parens (pure true) r).rest ≡ true
    c true i e = rw (package_rest r) (after_package ks (skip regular_trivia (take_token n).rest) (skip_at regular_trivia _ (skip_no regular_trivia (take_token n).rest)) (rw (take_past LParen n i) at e))
    c false i e = at_some (one_of ks) n e

pub visible : (ks r : List Sym) → at_prefixed_keyword ks r ≡ true → left (parse_visibility r).rest ≡ true
unfolding at_prefixed_keyword parse_visibility in_node ◌>>=◌ peek at past one_of
visible ks [] e = absurd (false≢true e)
visible ks (s ∷ r) e = c (is PUB s) refl e
  where
    c : (u : Bool) → is PUB s ≡ u → (u && at (one_of ks) (next_token_after_visibility (elim u [ true ↦ r | false ↦ [] ]))) ≡ true → left (parse_visibility (s ∷ r)).rest ≡ true
    c true i e = rw (expect_here PUB Message.Unreached refl s r i) (behind ks r e)
    c false i e = absurd (false≢true e)
