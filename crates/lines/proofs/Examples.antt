-- The line and the column of places, one by one; and which premises joined files need.
-- Assumes nothing.
use Rattle.std.specs.Prelude.{ℕ, ◌+◌, ◌≡◌, refl, List, [], ◌∷◌, ◌++◌, get_or}
use Rattle.std.proofs.Common.{ap, arith}
use Rattle.lines.specs.Ends.{line, column}
use Rattle.lines.specs.MasmLines.{at_offsets, positions_written}
use Rattle.lines.specs.JoinedLines.{line_ends_in}

abbrev At : List ℕ → ℕ → ℕ → ℕ → Type 0
At source o l c = (line source o ≡ l) × (column source o ≡ c)

-- a lone CR; CR LF, at its LF and behind it
lone_cr : At (97 ∷ 13 ∷ 98 ∷ []) 2 2 1
lone_cr = (refl, refl)

in_cr_lf : At (97 ∷ 13 ∷ 10 ∷ 98 ∷ []) 2 1 3
in_cr_lf = (refl, refl)

behind_cr_lf : At (97 ∷ 13 ∷ 10 ∷ 98 ∷ []) 3 2 1
behind_cr_lf = (refl, refl)

-- CR and CR LF; LF and CR; CR at the end
cr_cr_lf : At (13 ∷ 13 ∷ 10 ∷ []) 2 2 2 × At (13 ∷ 13 ∷ 10 ∷ []) 3 3 1
cr_cr_lf = ((refl, refl), (refl, refl))

lf_cr : At (10 ∷ 13 ∷ []) 2 3 1
lf_cr = (refl, refl)

cr_at_end : At (97 ∷ 13 ∷ []) 2 2 1
cr_at_end = (refl, refl)

-- in quotes, behind a backslash: `"a\` CR `b"`, and with LF behind the CR, one line end over two tokens
in_quotes : At (34 ∷ 97 ∷ 92 ∷ 13 ∷ 98 ∷ 34 ∷ []) 4 2 1
in_quotes = (refl, refl)

over_two_tokens : At (34 ∷ 92 ∷ 13 ∷ 10 ∷ 120 ∷ []) 3 1 4 × At (34 ∷ 92 ∷ 13 ∷ 10 ∷ 120 ∷ []) 4 2 1
over_two_tokens = ((refl, refl), (refl, refl))

-- `begin` CR LF: a diagnostic at the end of this file starts at the LF, where the line end is not completed yet
at_last_lf : At (98 ∷ 101 ∷ 103 ∷ 105 ∷ 110 ∷ 13 ∷ 10 ∷ []) 6 1 7
at_last_lf = (refl, refl)

-- columns count bytes
by_bytes : At (0xC3 ∷ 0xA9 ∷ 13 ∷ 0xC3 ∷ 0xA9 ∷ 36 ∷ []) 5 2 3
by_bytes = (refl, refl)

-- Behind a CR an LF is of its line end: of CR and LF joined, the LF's end is on line 2, and not on line 2 + 1.
line_feed_needed : line ((13 ∷ []) ++ 10 ∷ []) (1 + 1) ≡ line (10 ∷ []) 1 + line_ends_in (13 ∷ []) → ⊥
line_feed_needed e = absurd (omega (arith, e))

-- Without a line end between them, columns of the second go on where the first ends.
line_feed_needed_for_columns : column ((97 ∷ []) ++ 98 ∷ []) (1 + 0) ≡ column (98 ∷ []) 0 → ⊥
line_feed_needed_for_columns e = absurd (omega (arith, e))

-- A place behind A's end counts as A's end in A, and is another one in the join.
within_needed : at_offsets column (10 ∷ []) (2 ∷ []) ≡ at_offsets column ((10 ∷ []) ++ 98 ∷ 98 ∷ []) (2 ∷ []) → ⊥
within_needed e = absurd (omega (arith, ap (λ (l : List ℕ). get_or l 0 0) e))

-- Without room nothing is written.
room_needed : positions_written (10 ∷ []) (0 ∷ []) [] (0 ∷ []) ≡ 1 → ⊥
room_needed e = absurd (omega (arith, e))
