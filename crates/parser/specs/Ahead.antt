-- What lookahead finds. Assumes nothing: these are definitions.
use Rattle.std.specs.Prelude.{◌≡◌, Bool, cond, ◌||◌, List, [], ◌∷◌, ℕ, ◌+◌, ◌≤◌, ◌<◌}
use Rattle.lexer.specs.Syntax.{DocComment, At}
use Rattle.grammar.specs.Words.{Sym, File, from, is, ADV_MAP, BEGIN, CONST, ENUM, MOD, NAMESPACE, PROC, PUB, TYPE}
use Rattle.grammar.specs.Look.{one_of, regular_trivia, is_trivia, current, at, eof, skip, past, next_token_after_visibility, is_top_level_starter}
use Rattle.parser.specs.declared.look.Remembered.{Remembered}

-- r is a place from p on, and this is what is left there
pub record Found (F : File) (p r : ℕ) (left : List Sym) : Type 0 where
  pub is : from F r ≡ left
  pub ahead : p ≤ r

-- the token here or, at `pub`, the one behind the visibility
unfoldable pub declared : List Sym → Sym
declared r = cond (at (is PUB) r) (current (next_token_after_visibility (past (is PUB) r))) (current r)

-- is_top_level_starter's test of the token itself
abbrev pub starter : Sym → Bool
starter = one_of (DocComment ∷ At ∷ ADV_MAP ∷ BEGIN ∷ CONST ∷ ENUM ∷ MOD ∷ NAMESPACE ∷ PROC ∷ TYPE ∷ [])

-- A lookahead behind a place skips t, and asks a question of what is left. What k remembers answers it for each place from p on that is
-- before k.next; so it also does from any later place on, and where k.next is not behind p it says nothing.
pub record Remembers (t : Sym → Bool) (question : List Sym → Bool) (F : File) (p : ℕ) (k : Remembered) : Type 0 where
  pub answer : (i : ℕ) → p ≤ i → i < k.next → k.starts ≡ question (skip t (from F (i + 1)))

-- line_break_starts_new_top_level_item's question, behind a newline
unfoldable pub ends_or_starts : List Sym → Bool
ends_or_starts r = eof r || is_top_level_starter r

abbrev pub BreakKnown : File → ℕ → Remembered → Type 0
BreakKnown = Remembers regular_trivia ends_or_starts

-- at_top_level_form_starter_in_block's question, behind a doc comment
abbrev pub DocKnown : File → ℕ → Remembered → Type 0
DocKnown = Remembers is_trivia is_top_level_starter
