-- Lookahead over a file's places: what stands behind a token that was found, which declaration starts here, and what is remembered.
-- Assumes nothing.
use mathlib.Core.Bool.{Bool, true, false, ◌||◌, or-false}
use mathlib.Core.List.{List, [], ◌∷◌}
use mathlib.Core.Path.{◌≡◌, refl, sym, ap, ap₂, subst, ◌∙◌}
use Prim.Native.Nat.{ℕ, zero, suc, ◌+◌, ◌-◌, ◌≤◌, ◌<◌}
use native.Mathlib.Nat.{add-zero}
use native.Mathlib.Omega.{arith}
use lib.ListN.{length, drop}
use borrow.Author.Tests.{leb-true, eqb-true, eq-eqb, ne_eqb}
use Rattle.lexer.specs.Syntax
use Rattle.lexer.specs.Syntax.{Newline, DocComment}
use Rattle.parser.specs.Sets.{word_bit, word_bits_are}
use Rattle.grammar.specs.Words.{Sym, File, from, is, CONST, ELSE, END, ENUM, MOD, PROC, PUB, TYPE}
use Rattle.grammar.specs.Look.{one_of, regular_trivia, is_trivia, current, at, eof, skip, past, anyone, next_token_after_visibility, at_prefixed_keyword, is_top_level_starter, line_break_starts_new_top_level_item, at_top_level_form_starter_in_block}
use Rattle.grammar.specs.Item.{at_declaration}
use Rattle.parser.specs.declared.look.Remembered.{Remembered}
use Rattle.parser.specs.Ahead.{declared, starter, ends_or_starts, Remembers, BreakKnown, DocKnown}
use Rattle.parser.proofs.Laws.{at_in, eof_is, eof_within, rest_cons, rest_nil, at_within, at_current, skip_on, skip_off, skip_end, tokens_left}

-- ---- the list behind the token that stands at c, where l is what is left there
past_none : (t : Sym → Bool) (r : List Sym) → at t r ≡ false → past t r ≡ []
unfolding past at
past_none t [] e = refl
past_none t (s ∷ r) e = ap (λ (u : Bool). elim u [ true ↦ r | false ↦ [] ]) e

module _ (F : File) (c : ℕ) (t : Sym → Bool) {l : List Sym} (f : from F c ≡ l) {x : Bool} (e : x ≡ at t (drop c F)) where
  pub past_on : x ≡ true → past t l ≡ drop (c + 1) F
  unfolding past at
  past_on h =
      let q = rest_cons F c (at_within F c t e h) in
      ap (past t) (sym f ∙ q) ∙ ap (λ (u : Bool). elim u [ true ↦ drop (c + 1) F | false ↦ [] ]) (sym (ap (at t) q) ∙ sym e ∙ h)

  pub past_off : x ≡ false → past t l ≡ []
  past_off h = past_none t l (ap (at t) (sym f) ∙ sym e ∙ h)

module _ (F : File) (c : ℕ) (t : Sym → Bool) {x : Bool} (e : x ≡ at t (drop c F)) where
  -- a token stands at c, so the next place is no further than the end
  pub next_within : x ≡ true → c + 1 ≤ length F
  next_within h = let w = at_within F c t e h in omega arith

-- the words that end a block of `if`
pub at_either : (r : List Sym) → at (one_of (ELSE ∷ END ∷ [])) r ≡ (at (is ELSE) r || at (is END) r)
unfolding at one_of
at_either [] = refl
at_either (s ∷ r) = ap (λ u. is ELSE s || u) (or-false _)

-- what stands one place on
pub ruleset one_on = (next_within, past_on)

-- ---- a test of the number that `current` gave
module _ {x : Sym} (k : Sym) (r : List Sym) (n : is k Syntax.Tombstone ≡ false) (e : x ≡ current r) where
  pub at_here : x ≡ k → at (is k) r ≡ true
  at_here h = sym (at_current (is k) r n) ∙ eq-eqb k (current r) (sym h ∙ e)

  pub at_not : (x ≡ k → ⊥) → at (is k) r ≡ false
  at_not h = sym (at_current (is k) r n) ∙ ne_eqb k (current r) (λ q. h (e ∙ sym q))

-- ---- declarations
-- a test that k fails does not hold where k stands
pub at_other : (t : Sym → Bool) (k : Sym) (r : List Sym) → t k ≡ false → at (is k) r ≡ true → at t r ≡ false
unfolding at
at_other t k [] n e = refl
at_other t k (s ∷ r) n e = ap t (sym (eqb-true k s e)) ∙ n

module _ (r : List Sym) where
  pub declared_here : at (is PUB) r ≡ false → declared r ≡ current r
  unfolding declared
  declared_here e = rw e

  pub declared_behind : at (is PUB) r ≡ true → declared r ≡ current (next_token_after_visibility (past (is PUB) r))
  unfolding declared
  declared_behind e = rw e

  module _ (ks : List Sym) where
    pub prefixed_none : at (is PUB) r ≡ false → at_prefixed_keyword ks r ≡ false
    unfolding at_prefixed_keyword
    prefixed_none e = rw e

    pub prefixed_is : one_of ks Syntax.Tombstone ≡ false → at (is PUB) r ≡ true → at_prefixed_keyword ks r ≡ one_of ks (declared r)
    unfolding at_prefixed_keyword
    prefixed_is n e = rw (e, declared_behind e) (sym (at_current (one_of ks) _ n))

pub at_pub : (F : File) (p : ℕ) {x : Sym} → x ≡ current (drop p F) → x ≡ PUB → p + 1 ≤ length F
at_pub F p c e = next_within F p (is PUB) refl (at_here PUB _ refl c e)

pub ruleset declaration = (at_pub, past_on, at_here, at_not, declared_here, declared_behind)

-- one token says which declaration starts here, where neither `pub` nor Tombstone, which stands for no token, is one of the keywords
pub declaration_is : (ks r : List Sym) → one_of ks PUB ≡ false → one_of ks Syntax.Tombstone ≡ false → at_declaration ks r ≡ one_of ks (declared r)
unfolding at_declaration
declaration_is ks r p n = by_test (at (is PUB) r) refl
  where
    by_test : (u : Bool) → at (is PUB) r ≡ u → (at (one_of ks) r || at_prefixed_keyword ks r) ≡ one_of ks (declared r)
    by_test true e = ap₂ ◌||◌ (at_other (one_of ks) PUB r p e) (prefixed_is r ks n e)
    by_test false e = ap₂ ◌||◌ (sym (at_current (one_of ks) r n)) (prefixed_none r ks e) ∙ or-false _ ∙ ap (one_of ks) (sym (declared_here r e))

-- ---- a lookahead that is remembered: between the place it starts at and the one it comes to, every token is skipped
module _ (F : File) (t : Sym → Bool) (j : ℕ) where
  -- one place on
  skip_next : (i : ℕ) → i < j → from F j ≡ skip t (from F i) → from F j ≡ skip t (from F (i + 1))
  skip_next i h e = by_test (at t (drop i F)) refl
    where
      by_test : (u : Bool) → at t (drop i F) ≡ u → from F j ≡ skip t (from F (i + 1))
      by_test true k = e ∙ skip_on F t i (sym k) refl
      by_test false k =
          let l : length (from F j) ≡ length (from F i) = ap length (e ∙ sym (skip_off F t i (sym k) refl)) in
          let n : length F ≤ i = omega (arith, l, tokens_left F i, tokens_left F j) in
          rest_nil F j (omega arith) ∙ sym (rest_nil F (i + 1) (omega arith)) ∙ skip_end F (i + 1) t (omega arith)

  -- n places on
  skip_later : (n i : ℕ) → i + n ≤ j → from F j ≡ skip t (from F i) → from F j ≡ skip t (from F (i + n))
  skip_later zero i h e = rw add-zero e
  skip_later (suc n) i h e =
      let q : i + 1 + n ≡ i + suc n = omega arith in
      rw (← q) (skip_later n (i + 1) (omega arith) (skip_next i (omega arith) e))

  pub skip_between : (i i' : ℕ) → i ≤ i' → i' ≤ j → from F j ≡ skip t (from F i) → skip t (from F i') ≡ from F j
  skip_between i i' h k e =
      let q : i + (i' - i) ≡ i' = omega arith in
      ap (λ (n : ℕ). skip t (from F n)) (sym q) ∙ sym (skip_later (i' - i) i (omega arith) e)

-- ---- what is remembered
module _ {t : Sym → Bool} {question : List Sym → Bool} {F : File} {p : ℕ} {k : Remembered} where
  -- nothing yet
  pub remembers_none : k.next ≤ p → Remembers t question F p k
  remembers_none h = record { answer = λ i a b. absurd (omega arith) }

  -- from a later place on, in the same file
  pub remembers_later : {F' : File} (p' : ℕ) → F' ≡ F → p ≤ p' → Remembers t question F p k → Remembers t question F' p' k
  remembers_later p' e h m = subst (λ f. Remembers t question f p' k) (sym e) (record { answer = λ i a b. m.answer i (omega arith) b })

  -- a lookahead from behind p on, and what was asked where it came to
  pub remembers_new : from F k.next ≡ skip t (from F (p + 1)) → k.starts ≡ question (from F k.next) → Remembers t question F p k
  remembers_new e q = record { answer = λ i a b. q ∙ ap question (sym (skip_between F t k.next (p + 1) (i + 1) (omega arith) (omega arith) e)) }

  -- the answer at p, where k reaches behind it: of the list behind the token that stands there
  pub remembered : (s : Sym → Bool) → at s (drop p F) ≡ true → p < k.next → Remembers t question F p k → k.starts ≡ question (skip t (past s (drop p F)))
  remembered s e h m = m.answer p (omega arith) h ∙ ap (λ (l : List Sym). question (skip t l)) (sym (past_on F p s refl refl e))

-- the answer at a newline and at a doc comment, where k reaches behind it
module _ (F : File) (p : ℕ) {k : Remembered} (h : p < k.next) where
  pub break_known : at (is Newline) (drop p F) ≡ true → BreakKnown F p k → k.starts ≡ line_break_starts_new_top_level_item (drop p F)
  unfolding ends_or_starts line_break_starts_new_top_level_item
  break_known e m = remembered (is Newline) e h m

  pub doc_known : at (is DocComment) (drop p F) ≡ true → DocKnown F p k → k.starts ≡ at_top_level_form_starter_in_block (drop p F)
  unfolding at_top_level_form_starter_in_block
  doc_known e m = remembered (is DocComment) e h m ∙ rw (at_top_level_form_starter_in_block, e)

  pub break_new : at (is Newline) (drop p F) ≡ true → from F k.next ≡ skip regular_trivia (from F (p + 1)) → k.starts ≡ ends_or_starts (from F k.next)
      → (k.starts ≡ line_break_starts_new_top_level_item (drop p F)) × BreakKnown F p k
  break_new e f q = let m = remembers_new f q in (break_known e m, m)

  pub doc_new : at (is DocComment) (drop p F) ≡ true → from F k.next ≡ skip is_trivia (from F (p + 1)) → k.starts ≡ is_top_level_starter (from F k.next)
      → (k.starts ≡ at_top_level_form_starter_in_block (drop p F)) × DocKnown F p k
  doc_new e f q = let m = remembers_new f q in (doc_known e m, m)

pub ruleset remembers = (next_within, break_known, doc_known)

-- the token here or, at `pub`, the word behind the visibility says whether an item starts
module _ {x : Bool} {k : Sym} (r : List Sym) where
  pub starts_behind : at (is PUB) r ≡ true → x ≡ word_bit 0x9288 k → k ≡ declared r → x ≡ is_top_level_starter r
  unfolding is_top_level_starter one_of
  starts_behind e b d =
      let words = CONST ∷ ENUM ∷ MOD ∷ PROC ∷ TYPE ∷ [] in
      b ∙ word_bits_are _ (3 ∷ 7 ∷ 9 ∷ 12 ∷ 15 ∷ []) k tt tt ∙ ap (one_of words) d ∙ sym (ap₂ ◌||◌ (at_other starter PUB r refl e) (prefixed_is r words refl e))

  pub starts_here : at (is PUB) r ≡ false → x ≡ starter k → k ≡ current r → x ≡ is_top_level_starter r
  unfolding is_top_level_starter one_of
  starts_here e b c =
      let words = CONST ∷ ENUM ∷ MOD ∷ PROC ∷ TYPE ∷ [] in
      b ∙ ap starter c ∙ at_current starter r refl ∙ sym (or-false _) ∙ ap (λ u. at starter r || u) (sym (prefixed_none r words e))

pub ruleset starts = (at_here, at_not, starts_behind, starts_here)

-- ---- inside the parentheses of a visibility
module _ (F : File) (p : ℕ) where
  pub past_any : {x : Bool} → x ≡ eof (drop p F) → x ≡ false → past anyone (drop p F) ≡ drop (p + 1) F
  past_any e h = past_on F p anyone refl (at_in F anyone p (eof_within F p e h)) refl

  pub past_all : {x : Bool} → x ≡ eof (drop p F) → x ≡ true → drop p F ≡ skip regular_trivia (past (is Syntax.RParen) (skip regular_trivia (past anyone (drop p F))))
  unfolding skip past
  past_all e h = rw (rest_nil F p (leb-true _ _ (eof_is F p ∙ sym e ∙ h)))

pub all_passed : (F : File) (l : List Sym) → past (is Syntax.RParen) l ≡ [] → drop (length F) F ≡ skip regular_trivia (past (is Syntax.RParen) l)
unfolding skip
all_passed F l e = rest_nil F (length F) (omega arith) ∙ sym (ap (skip regular_trivia) e)

pub ruleset inside = (next_within, eof_within, past_on, past_off, past_any, past_all, all_passed)
