-- How bytes break off where no character stands: M-105's second number. Rust's `error_len`, which says None for 0.
-- Assumes nothing: these are definitions.
use Rattle.std.specs.Prelude.{List, [], ◌∷◌, ◌++◌, ℕ, ◌≤◌, ◌<◌, cond, eqb, min, max, pred, length, take}
use Rattle.utf8.specs.Table.{Row, table_3_7, agree}
use Rattle.utf8.specs.WellFormed.{Character}

-- a proper start of some well-formed sequence: there are bytes that complete it to one
pub record ProperStart (p : List ℕ) : Type 0 where
  pub rest : List ℕ
  pub sequence : Character table_3_7 (p ++ rest)
  pub begun : 0 < length p
  pub proper : 0 < length rest

-- the first n of the bytes are the longest proper start found there
pub record LongestStart (bs : List ℕ) (n : ℕ) : Type 0 where
  pub within : n ≤ length bs
  pub start : ProperStart (take n bs)
  pub most : (m : ℕ) → m ≤ length bs → ProperStart (take m bs) → m ≤ n

-- "It is 0 where the bytes from there to the end are a proper start of some well-formed sequence. Otherwise it is the length of the longest
-- proper start of a well-formed sequence found there, and 1 if there is none."
pub data ErrorLen (bs : List ℕ) : ℕ → Type 0 where
  cut_off : ProperStart bs → ErrorLen bs 0
  longest_start : {n : ℕ} → (ProperStart bs → ⊥) → LongestStart bs n → ErrorLen bs n
  no_start : (ProperStart bs → ⊥) → ((m : ℕ) → m ≤ length bs → ProperStart (take m bs) → ⊥) → ErrorLen bs 1

-- how many leading bytes lie in the ranges of a row, one after another, of its last range none; the most of the rows
unfoldable pub start_in : List Row → List ℕ → ℕ
start_in [] bs = 0
start_in (row ∷ rows) bs = max (min (agree row bs) (pred (length row))) (start_in rows bs)

-- the length of the longest proper start that the bytes begin with, 0 where there is none
abbrev pub start_length : List ℕ → ℕ
start_length bs = start_in table_3_7 bs

-- the same number computed
abbrev pub error_len : List ℕ → ℕ
error_len bs = cond (eqb (start_length bs) (length bs)) 0 (max 1 (start_length bs))
