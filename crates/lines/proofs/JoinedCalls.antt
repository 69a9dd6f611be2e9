-- Three calls of `masm_lines`: for places in A, for places in B, and for all these in the join.
-- Assumes nothing.
use Rattle.std.specs.Prelude.{ℕ, ◌+◌, ◌≤◌, ◌≡◌, Bool, cond, List, ◌++◌, map, min, length, take}
use Rattle.std.proofs.Common.{sym, ap, ap₂, ◌∙◌, arith, length-append}
use Rattle.std.proofs.lemmas.List.{length-map}
use mathlib.Core.List.{map-id}
use borrow.Author.Tests.{le-ltb}
use Rattle.room.specs.Over.{fit, fit_first}
use Rattle.lexer.specs.Laws.{last}
use Rattle.lexer.specs.Tokens.{MAX_SOURCE}
use Rattle.lines.specs.Ends.{line, column}
use Rattle.lines.specs.MasmLines.{at_offsets, MasmLines}
use Rattle.lines.specs.JoinedLines.{line_ends_in, NoneAbove, LinesFit, JoinedLines}
use Rattle.lines.proofs.Joined.{of_both, first_line, first_column, second_line, second_column}

-- A call on a source within the limit, with room for all its offsets, gives the line and the column of each.
module _ {source offsets lines columns lines' columns' : List ℕ} {r : ℕ} (c : MasmLines source offsets lines columns r lines' columns')
    (small : length source ≤ MAX_SOURCE) (room : LinesFit offsets lines columns) where
  pub all_written : r ≡ length offsets
  all_written =
      c.returned
      ∙ ap (λ (u : Bool). cond u 0 (min (min (length offsets) (length lines)) (length columns))) (le-ltb MAX_SOURCE (length source) small)
      ∙ omega (arith, room.for_lines, room.for_columns)

  numbers : (f : List ℕ → ℕ → ℕ) (l l' : List ℕ) → l' ≡ fit r (at_offsets f source offsets) l → take r l' ≡ at_offsets f source offsets
  numbers f l l' e =
      ap (take r) e
      ∙ fit_first r r (at_offsets f source offsets) l (length-map offsets (λ o. f source (min o (length source))) ∙ sym all_written) (omega arith)

  pub given_lines : take r lines' ≡ at_offsets line source offsets
  given_lines = numbers line lines lines' c.lines_are

  pub given_columns : take r columns' ≡ at_offsets column source offsets
  given_columns = numbers column columns columns' c.columns_are

module _ (a b oa ob la lb lj ca cb cj la' lb' lj' ca' cb' cj' : List ℕ) (na nb nj : ℕ)
    (on_a : MasmLines a oa la ca na la' ca') (on_b : MasmLines b ob lb cb nb lb' cb')
    (on_join : MasmLines (a ++ b) (oa ++ map (λ o. length a + o) ob) lj cj nj lj' cj') where
  pub joined_lines : last 0 a ≡ 10 → length (a ++ b) ≤ MAX_SOURCE → NoneAbove (length a) oa
      → LinesFit oa la ca → LinesFit ob lb cb → LinesFit (oa ++ map (λ o. length a + o) ob) lj cj
      → JoinedLines a na nb nj la' ca' lb' cb' lj' cj'
  joined_lines line_feed small within ra rb rj =
      let small_a : length a ≤ MAX_SOURCE = omega (arith, length-append a b) in
      let small_b : length b ≤ MAX_SOURCE = omega (arith, length-append a b) in
      record {
        number_is =
            all_written on_join small rj
            ∙ omega (arith, length-append oa (map (λ o. length a + o) ob), length-map ob (λ o. length a + o), all_written on_a small_a ra, all_written on_b small_b rb);
        lines_join =
            given_lines on_join small rj
            ∙ of_both a b line_feed line (λ n. n + line_ends_in a) (first_line a b line_feed) (second_line a b line_feed) oa ob within
            ∙ ap₂ (λ (x y : List ℕ). x ++ map (λ n. n + line_ends_in a) y) (sym (given_lines on_a small_a ra)) (sym (given_lines on_b small_b rb));
        columns_join =
            given_columns on_join small rj
            ∙ of_both a b line_feed column (λ n. n) (first_column a b line_feed) (second_column a b line_feed) oa ob within
            ∙ ap₂ (λ (x y : List ℕ). x ++ y) (sym (given_columns on_a small_a ra)) (map-id (at_offsets column b ob) ∙ sym (given_columns on_b small_b rb));
      }
