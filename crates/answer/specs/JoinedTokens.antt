-- From what a call gave to the tokens and symbols of the definitions: demand 3's premises.
-- Assumes nothing.
use Rattle.std.specs.Prelude.{ℕ, ◌+◌, ◌-◌, ◌<◌, ◌≡◌, refl, Bool, true, false, cond, ◌&&◌, ◌||◌, List, [], ◌∷◌, map, eqb, length}
use Rattle.std.proofs.Common.{sym, ap, ap₂, ◌∙◌, arith, eqb-true, ne_eqb}
use Rattle.std.proofs.lemmas.Bool.{false≢true, eqb-false}
use Rattle.std.proofs.Math.Seq.{take-append_seam, drop-append_seam}
use Rattle.lexer.specs.Syntax.{Ident, Newline, RParen}
use Rattle.lexer.specs.Lexer.{Token, same, tokenize}
use Rattle.lexer.specs.Tokens.{token_kind, ends, token_kinds, token_ends}
use Rattle.lexer.specs.Laws.{Every, token_bytes, last, lossless}
use Rattle.grammar.specs.Words.{Sym, is, key, END, words, word_of, sym_of}
use Rattle.grammar.specs.Look.{at, one_of, is_trivia, skip, next_relevant_block_token}
use Rattle.grammar.specs.Source.{syms}
use Rattle.grammar.specs.Source
use Rattle.grammar.specs.Joins.{Tail, here, there}
use Rattle.grammar.specs.Laws.Ahead.{tail_nil}
use Rattle.grammar.specs.Laws.Words.{text_of_number}
use Rattle.answer.specs.Given.{cut, end_text, is_end, end_before_last}

-- kinds, ends and bytes make the tokens again
cut_tokens : (n : ℕ) (ts : List Token) → cut n (map token_kind ts) (ends n ts) (token_bytes ts) ≡ ts
unfolding ends
cut_tokens n [] = refl
cut_tokens n (t ∷ ts) =
    let m = length t.text in
    let w : (n + m) - n ≡ m = omega arith in
    rw (w, take-append_seam t.text (token_bytes ts), drop-append_seam t.text (token_bytes ts), cut_tokens (n + m) ts) refl

pub cut_source : (s : List ℕ) → cut 0 (token_kinds s) (token_ends s) s ≡ tokenize s
cut_source s = ap (cut 0 (token_kinds s) (token_ends s)) (sym (lossless s)) ∙ cut_tokens 0 (tokenize s)

-- the last token is a newline as the grammar reads it
newline_sym : (t : Token) → t.kind ≡ Newline → Source.token_symbol t ≡ Newline
unfolding sym_of
newline_sym t e = ap (λ (k : ℕ). sym_of k t.text) e

pub newline_last : (d : ℕ) (ts : List Token) → last d (map token_kind ts) ≡ Newline → last d (syms ts) ≡ Newline
newline_last d [] e = e
newline_last d (t ∷ []) e = newline_sym t e
newline_last d (t ∷ u ∷ ts) e = newline_last d (u ∷ ts) e

-- `end` as the grammar reads it is an Ident `end`
end_token : (t : Token) → t.kind < 60 → Source.token_symbol t ≡ END → is_end t ≡ true
unfolding sym_of word_of words
end_token t low e = by_test (eqb Ident t.kind) refl e
  where
    by_test : (u : Bool) → eqb Ident t.kind ≡ u → cond u (key (word_of t.text)) t.kind ≡ END → (u && same end_text t.text) ≡ true
    by_test true h e = text_of_number 1 5 words t.text (omega arith) (omega arith)
    by_test false h e = absurd (omega arith)

tail_one : {s : Sym} → Tail (s ∷ []) → ⊥
tail_one (there h) = tail_nil h

tail_two : {s u : Sym} → Tail (s ∷ u ∷ []) → s ≡ END
tail_two here = refl
tail_two (there h) = absurd (tail_one h)

tail_more : {s u v : Sym} {r : List Sym} → Tail (s ∷ u ∷ v ∷ r) → Tail (u ∷ v ∷ r)
tail_more (there h) = h

pub word_before_last : (ts : List Token) → Every (λ t. t.kind < 60) ts → Tail (syms ts) → end_before_last ts ≡ true
word_before_last [] low h = absurd (tail_nil h)
word_before_last (t ∷ []) low h = absurd (tail_one h)
word_before_last (t ∷ u ∷ []) low h = end_token t low.0 (tail_two h)
word_before_last (t ∷ u ∷ v ∷ ts) low h = word_before_last (u ∷ v ∷ ts) low.1 (tail_more h)

-- a kind that is no Ident's is met in the symbols where it is met in the kinds
plain : (k : ℕ) (t : Token) → k < 256 → eqb k Ident ≡ false → is k (Source.token_symbol t) ≡ is k t.kind
unfolding sym_of
plain k t h n = by_test (eqb Ident t.kind) refl
  where
    by_test : (u : Bool) → eqb Ident t.kind ≡ u → eqb k (cond u (key (word_of t.text)) t.kind) ≡ eqb k t.kind
    by_test true e =
        ne_eqb k (key (word_of t.text)) (λ q. eqb-false k Ident n (omega arith))
        ∙ sym (ne_eqb k t.kind (λ q. eqb-false k Ident n (q ∙ sym (eqb-true Ident t.kind e))))
    by_test false e = refl

trivia : (t : Token) → is_trivia (Source.token_symbol t) ≡ is_trivia t.kind
unfolding one_of
trivia t =
    ap₂ ◌||◌ (plain 27 t (omega arith) refl)
    (ap₂ ◌||◌ (plain 28 t (omega arith) refl)
    (ap₂ ◌||◌ (plain 29 t (omega arith) refl)
    (ap₂ ◌||◌ (plain 30 t (omega arith) refl) refl)))

pub same_start : (ts : List Token) → at (is RParen) (next_relevant_block_token (syms ts)) ≡ at (is RParen) (next_relevant_block_token (map token_kind ts))
unfolding at skip
same_start [] = refl
same_start (t ∷ ts) = by_test (is_trivia (Source.token_symbol t)) (is_trivia t.kind) (trivia t) (same_start ts)
  where
    by_test : (u v : Bool) → u ≡ v
        → at (is RParen) (next_relevant_block_token (syms ts)) ≡ at (is RParen) (next_relevant_block_token (map token_kind ts))
        → at (is RParen) (elim u [ true ↦ next_relevant_block_token (syms ts) | false ↦ Source.token_symbol t ∷ syms ts ])
        ≡ at (is RParen) (elim v [ true ↦ next_relevant_block_token (map token_kind ts) | false ↦ t.kind ∷ map token_kind ts ])
    by_test true true e ih = ih
    by_test true false e ih = absurd (false≢true (sym e))
    by_test false true e ih = absurd (false≢true e)
    by_test false false e ih = plain RParen t (omega arith) refl
