-- Which texts are words: `word_of` answers with a word 'exactly where the lengths and all bytes agree' (document 02, M-101).
-- Assumes nothing.
use Rattle.std.specs.Prelude.{Option, None, Some, ℕ, pred, ◌+◌, ◌≡◌, refl, ◌↔◌, List, [], ◌∷◌, ◌++◌, get_or}
use Rattle.std.proofs.Common.{sym, ap, ◌∙◌, arith}
use Rattle.lexer.specs.Lexer.{same}
use Rattle.lexer.specs.Agree.{Agree, agree_equal, same_decides}
use Rattle.grammar.specs.Words.{words, number_in, word_number}
use Rattle.grammar.specs.Laws.Words.{text_of_number}
use Rattle.grammar.specs.declared.words.Word.{Word}
use Rattle.grammar.specs.declared.words.Word.TheVariants as word
use Rattle.marks.specs.Code.{found_number, refused_texts, text_number}

-- the text of a word
unfoldable pub word_text : Word → List ℕ
word_text w = get_or (words ++ refused_texts) (pred (word_number w)) []

-- the words, at their numbers
at_number : List (Option Word)
at_number =
    None ∷ Some word.AdvMap ∷ Some word.Begin ∷ Some word.Const ∷ Some word.Do ∷ Some word.Else ∷ Some word.End ∷ Some word.Enum ∷ Some word.If
    ∷ Some word.Mod ∷ Some word.Namespace ∷ Some word.Package ∷ Some word.Proc ∷ Some word.Pub ∷ Some word.Repeat ∷ Some word.Type
    ∷ Some word.While ∷ Some word.Use ∷ Some word.Extern ∷ []

word_with : ℕ → Option Word
word_with n = get_or at_number n None

-- a word's number is its own, is that of its text, and is above 0
record WordNumber (w : Word) : Type 0 where
  back : word_with (word_number w) ≡ Some w
  text : text_number (word_text w) ≡ word_number w
  above : word_number w ≡ 1 + pred (word_number w)

numbered : (w : Word) → WordNumber w
unfolding text_number number_in words word_text same word_with at_number
numbered word.AdvMap = record { back = refl; text = refl; above = refl }
numbered word.Begin = record { back = refl; text = refl; above = refl }
numbered word.Const = record { back = refl; text = refl; above = refl }
numbered word.Do = record { back = refl; text = refl; above = refl }
numbered word.Else = record { back = refl; text = refl; above = refl }
numbered word.End = record { back = refl; text = refl; above = refl }
numbered word.Enum = record { back = refl; text = refl; above = refl }
numbered word.If = record { back = refl; text = refl; above = refl }
numbered word.Mod = record { back = refl; text = refl; above = refl }
numbered word.Namespace = record { back = refl; text = refl; above = refl }
numbered word.Package = record { back = refl; text = refl; above = refl }
numbered word.Proc = record { back = refl; text = refl; above = refl }
numbered word.Pub = record { back = refl; text = refl; above = refl }
numbered word.Repeat = record { back = refl; text = refl; above = refl }
numbered word.Type = record { back = refl; text = refl; above = refl }
numbered word.While = record { back = refl; text = refl; above = refl }
numbered word.Use = record { back = refl; text = refl; above = refl }
numbered word.Extern = record { back = refl; text = refl; above = refl }

found_back : (r : Option Word) → r ≡ word_with (found_number r)
unfolding word_with at_number
found_back None = refl
found_back (Some w) = sym (numbered w).back

module _ (text : List ℕ) (r : Option Word) (e : found_number r ≡ text_number text) (w : Word) where
  agrees : r ≡ Some w → Agree (word_text w) text
  unfolding text_number word_text
  agrees h =
      (same_decides (word_text w) text).0
      (text_of_number 1 (pred (word_number w)) (words ++ refused_texts) text (omega arith) (sym e ∙ ap found_number h ∙ (numbered w).above))

  found : Agree (word_text w) text → r ≡ Some w
  found h = found_back r ∙ ap word_with (e ∙ ap text_number (sym (agree_equal (word_text w) text h)) ∙ (numbered w).text) ∙ (numbered w).back

  -- of what `word_of` answers for a text: it is a word just where the text agrees with that word's
  pub found_where_agrees : (r ≡ Some w) ↔ Agree (word_text w) text
  found_where_agrees = (agrees, found)
