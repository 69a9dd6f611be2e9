-- M-102: 'For a joined file, B's lines go up by the number of line ends in A.' Over demand 3's calls and premises, of calls of `masm_lines`.
-- Assumes nothing.
use Rattle.std.specs.Prelude.{ℕ, ◌+◌, ◌≤◌, ◌≡◌, List, ◌++◌, map, length}
use Rattle.std.proofs.Common.{sym, subst}
use Rattle.lexer.specs.Tokens.{MAX_SOURCE}
use Rattle.lines.specs.MasmLines.{MasmLines}
use Rattle.lines.specs.JoinedLines.{NoneAbove, LinesFit, JoinedLines}
use Rattle.lines.proofs.JoinedCalls.{joined_lines}
use Rattle.answer.specs.Answer.{Slices}
use Rattle.answer.specs.Call.{MasmParseText}
use Rattle.answer.specs.Given.{given, CallsJoin, Fits}
use Rattle.answer.specs.Accepts.{reading_of_call, last_row_of_call}
use Rattle.answer.specs.Within.{starts_within}
use Rattle.answer.proofs.JoinedCalls.{joined_calls}

module _
    (limit : ℕ) (a b : List ℕ) (sa sb sj : Slices) (ca cb cj : List ℕ) {ra rb rj : ℕ} {sa' sb' sj' : Slices} {ca' cb' cj' : List ℕ}
    (on_a : MasmParseText limit a sa ca ra sa' ca') (on_b : MasmParseText limit b sb cb rb sb' cb')
    (on_join : MasmParseText limit (a ++ b) sj cj rj sj' cj')
    (za : ra ≡ 0) (zb : rb ≡ 0) (small : length (a ++ b) ≤ MAX_SOURCE) (fits : Fits sj cj ca' cb')
    (joins : CallsJoin a (given sa' ca') (given sb' cb'))
  where
    starts_in_a : NoneAbove (length a) (given sa' ca').starts
    starts_in_a =
        subst (λ (g : Slices). NoneAbove (length a) g.starts)
        (sym (reading_of_call limit a sa ca (last_row_of_call limit a sa ca on_a za) on_a).1.given_is) (starts_within limit a)

    module _ (la lb lj ka kb kj : List ℕ) {na nb nj : ℕ} {la' lb' lj' ka' kb' kj' : List ℕ} where
      -- Of any places in A and any in B: in the join A's lines and columns stay, and of B's the columns, while the lines go up.
      pub joined_places : (oa ob : List ℕ) → NoneAbove (length a) oa
          → MasmLines a oa la ka na la' ka' → MasmLines b ob lb kb nb lb' kb'
          → MasmLines (a ++ b) (oa ++ map (λ o. length a + o) ob) lj kj nj lj' kj'
          → LinesFit oa la ka → LinesFit ob lb kb → LinesFit (oa ++ map (λ o. length a + o) ob) lj kj → JoinedLines a na nb nj la' ka' lb' kb' lj' kj'
      joined_places oa ob within lines_a lines_b lines_j =
          joined_lines a b oa ob la lb lj ka kb kj la' lb' lj' ka' kb' kj' na nb nj lines_a lines_b lines_j joins.line_feed small within

      -- Of the diagnostics that the three calls gave.
      pub joined_diagnostics : MasmLines a (given sa' ca').starts la ka na la' ka' → MasmLines b (given sb' cb').starts lb kb nb lb' kb'
          → MasmLines (a ++ b) (given sj' cj').starts lj kj nj lj' kj'
          → LinesFit (given sa' ca').starts la ka → LinesFit (given sb' cb').starts lb kb → LinesFit (given sj' cj').starts lj kj
          → JoinedLines a na nb nj la' ka' lb' kb' lj' kj'
      joined_diagnostics lines_a lines_b lines_j fa fb fj =
          let starts = (joined_calls limit a b sa sb sj ca cb cj on_a on_b on_join za zb small fits joins).starts_are in
          joined_places (given sa' ca').starts (given sb' cb').starts starts_in_a lines_a lines_b (rw starts at lines_j) fa fb (rw starts at fj)
