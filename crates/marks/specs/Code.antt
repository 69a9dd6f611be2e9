-- The number that the code looks up: a word's, and from 17 on that of a refused text; and what it says of a token.
-- Assumes nothing.
use Rattle.std.specs.Prelude.{Option, None, Some, ℕ, suc, ◌+◌, ◌*◌, ◌≤◌, ◌<◌, ◌≡◌, Bool, cond, ◌&&◌, ◌||◌, List, [], ◌∷◌, ◌++◌, ltb, length}
use Rattle.std.proofs.Math.Path.{refl}
use Rattle.std.proofs.Common.{ap, arith}
use Rattle.std.proofs.Math.Bool.{true, false}
use Rattle.std.proofs.lemmas.Bool.{false≢true, or_parts}
use borrow.Author.Tests.{eqb-true}
use Rattle.std.proofs.Math.Dec.{eqb}
use Rattle.lexer.specs.Syntax.{Ident}
use Rattle.lexer.specs.Lexer.{Token, same, tokenize}
use Rattle.lexer.specs.Tokens.{TokensFit}
use Rattle.lexer.specs.Laws.{same_equal}
use Rattle.grammar.specs.Words.{MARK, key, words, number_in, word_of, word_number, sym_of}
use Rattle.grammar.specs.declared.words.Word.{Word}
use Rattle.marks.specs.declared.Read.{Read}
use Rattle.marks.specs.Marks.{use_text, extern_text, is_refused, first_refused}

-- the number of what was found
abbrev pub found_number : Option Word → ℕ
found_number None = 0
found_number (Some w) = word_number w

abbrev pub refused_texts : List (List ℕ)
refused_texts = use_text ∷ extern_text ∷ []

-- the words are 1 to 16, `use` is 17 and `extern` 18; any other text is 0
unfoldable pub text_number : List ℕ → ℕ
text_number text = number_in 1 (words ++ refused_texts) text

-- 0 unless the token is an Ident
unfoldable pub number_of : ℕ → List ℕ → ℕ
number_of kind text = cond (eqb Ident kind) (text_number text) 0

-- texts behind the list that are not meant
past_words : (n : ℕ) (ws vs : List (List ℕ)) (t : List ℕ) → ((k : ℕ) → number_in k vs t ≡ 0) → number_in n (ws ++ vs) t ≡ number_in n ws t
unfolding number_in
past_words n [] vs t h = h n
past_words n (w ∷ ws) vs t h = ap (cond (same w t) n) (past_words (suc n) ws vs t h)

at_most : (n : ℕ) (ws : List (List ℕ)) (t : List ℕ) → number_in (suc n) ws t ≤ n + length ws
unfolding number_in
at_most n [] t = omega arith
at_most n (w ∷ ws) t = by_test (same w t) (at_most (suc n) ws t)
  where
    by_test : (u : Bool) → number_in (suc (suc n)) ws t ≤ suc n + length ws → cond u (suc n) (number_in (suc (suc n)) ws t) ≤ n + suc (length ws)
    by_test true h = omega arith
    by_test false h = omega arith

number_use : text_number use_text ≡ 17
unfolding text_number number_in words same
number_use = refl

number_extern : text_number extern_text ≡ 18
unfolding text_number number_in words same
number_extern = refl

-- of a text that is not refused: the number of the word
record Kept_text (text : List ℕ) : Type 0 where
  is_word : text_number text ≡ word_of text
  small : text_number text ≤ 16

kept_text : (text : List ℕ) → same use_text text ≡ false → same extern_text text ≡ false → Kept_text text
unfolding text_number word_of number_in words
kept_text text e f =
    let n = past_words 1 words refused_texts text (λ k. rw (e, f)) in
    record { is_word = n; small = rw n (at_most 0 words text) }

-- What the number says of a token: it is refused, or its symbol is its kind and MARK times the number.
pub record SymbolMark (kind : ℕ) (text : List ℕ) : Type 0 where
  pub symbol : sym_of kind text ≡ kind + MARK * number_of kind text
  pub bounded : kind < 60 → kind + MARK * number_of kind text ≤ key 16

module _ (kind : ℕ) (text : List ℕ) where
  pub symbol_mark : is_refused (record { kind = kind; text = text }) ≡ false → SymbolMark kind text
  unfolding is_refused number_of sym_of
  symbol_mark e = by_kind (eqb Ident kind) refl e
    where
      by_kind : (t : Bool) → eqb Ident kind ≡ t → t && (same use_text text || same extern_text text) ≡ false → SymbolMark kind text
      by_kind true h f =
          let w = or_parts (same use_text text) (same extern_text text) f in
          let k = kept_text text w.0 w.1 in
          record { symbol = rw h (omega (arith, eqb-true Ident kind h, k.is_word)); bounded = λ l. rw h (omega (arith, eqb-true Ident kind h, k.small)) }
      by_kind false h f = record { symbol = rw h (omega arith); bounded = λ l. rw h (omega arith) }

  pub refused : is_refused (record { kind = kind; text = text }) ≡ true → 16 < number_of kind text
  unfolding is_refused number_of
  refused e = by_kind (eqb Ident kind) (same use_text text) (same extern_text text) refl refl refl e
    where
      by_kind : (t u v : Bool) → eqb Ident kind ≡ t → same use_text text ≡ u → same extern_text text ≡ v → t && (u || v) ≡ true → 16 < number_of kind text
      by_kind true true v h p q f = rw (h, ← same_equal use_text text p, number_use) (omega arith)
      by_kind true false true h p q f = rw (h, ← same_equal extern_text text q, number_extern) (omega arith)
      by_kind true false false h p q f = absurd (false≢true f)
      by_kind false u v h p q f = absurd (false≢true f)

-- What is written for a token: its kind, and MARK times its number more.
abbrev pub marked : ℕ → List ℕ → ℕ
marked kind text = kind + MARK * number_of kind text

abbrev pub mark : Token → ℕ
mark t = marked t.kind t.text

pub few_numbers : (text : List ℕ) → text_number text ≤ 18
unfolding text_number words
few_numbers text = at_most 0 (words ++ refused_texts) text

-- Marked v, a token that starts at m is refused where v stands above the last word.
abbrev pub refused_at : ℕ → ℕ → Option ℕ
refused_at v m = cond (ltb (key 16) v) (Some m) None

-- The tokens with their marks, as far as both slices have room, and the first refusal.
pub record MarkSource (source kinds ends : List ℕ) (r : Read) (kinds' ends' : List ℕ) : Type 0 where
  pub fit : TokensFit mark source kinds ends r.count kinds' ends'
  pub refusal_is : r.refusal ≡ first_refused 0 (tokenize source)
