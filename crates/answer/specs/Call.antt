-- The unit's call: what it returns and leaves, at all limits, on all bytes and all slices.
-- Assumes nothing: these are definitions.
use Rattle.std.specs.Prelude.{ℕ, ◌≡◌, cond, List, ◌∷◌, ltb, length, drop}
use Rattle.answer.specs.declared.FourNumbers.{FourNumbers}
use Rattle.answer.specs.Numbers.{numbers}
use Rattle.answer.specs.Answer.{Slices, Outcome, parse_text}

-- The number returned, and what stands in the slices and in `counts`.
pub record Reply : Type 0 where
  pub status : ℕ
  pub slices : Slices
  pub counts : List ℕ

abbrev pub reply : ℕ → Slices → List ℕ → Reply
reply status s counts = record { status = status; slices = s; counts = counts }

-- an answer's numbers: the first is returned, the others are the first words of `counts`
abbrev pub row_reply : FourNumbers → Slices → List ℕ → Reply
row_reply n s counts = reply n.status s (n.first ∷ n.second ∷ n.third ∷ drop 3 counts)

abbrev pub answer_reply : Outcome → List ℕ → Reply
answer_reply o counts = row_reply (numbers o.answer) o.slices counts

-- Document 01's table: row 6, its first, and then the others, M-104's row 9 in front.
unfoldable pub call : ℕ → List ℕ → Slices → List ℕ → Reply
call limit source s counts = cond (ltb (length counts) 3) (reply 6 s counts) (answer_reply (parse_text limit source s) counts)

-- The contract of `masm_parse_text`.
pub record MasmParseText (limit : ℕ) (source : List ℕ) (s : Slices) (counts : List ℕ) (r : ℕ) (s' : Slices) (counts' : List ℕ) : Type 0 where
  pub status_is : r ≡ (call limit source s counts).status
  pub slices_are : s' ≡ (call limit source s counts).slices
  pub counts_are : counts' ≡ (call limit source s counts).counts
