-- M-105 of the call: what is said of a source that is not UTF-8, proved in proofs/CutOff of every call that returned 2.
-- Assumes nothing.
use Rattle.std.specs.Prelude.{ℕ, true, ◌≡◌, ◌≤◌, List, ◌∷◌, length, get_or, drop}
use Rattle.utf8.specs.declared.Utf8Error.{Utf8Error}
use Rattle.utf8.specs.Laws.{Longest}
use Rattle.utf8.specs.CutOff.{BreaksOff}
use Rattle.lexer.specs.Tokens.{MAX_SOURCE}
use Rattle.grammar.specs.Block.{limit_allowed}
use Rattle.answer.specs.Answer.{Slices}

-- the offset and the second number, as they stand in `counts`
abbrev pub error_given : List ℕ → Utf8Error
error_given counts = record { valid_up_to = get_or counts 0 0; error_len = get_or counts 1 0 }

-- The limit on nesting is allowed, counts have three words, and the source is within its limit. The offset is where its longest well-formed
-- start ends. The second number is M-105's: 0 exactly where more bytes would make the source well formed, else 1, 2 or 3. The third is 0, and
-- all else is as it was.
pub record BrokenText (limit : ℕ) (source : List ℕ) (s : Slices) (counts : List ℕ) (s' : Slices) (counts' : List ℕ) : Type 0 where
  pub allowed : limit_allowed limit ≡ true
  pub words : 3 ≤ length counts
  pub small : length source ≤ MAX_SOURCE
  pub longest : Longest source (error_given counts').valid_up_to
  pub breaks_off : BreaksOff source (error_given counts')
  pub third : drop 2 counts' ≡ 0 ∷ drop 3 counts
  pub slices_are : s' ≡ s
