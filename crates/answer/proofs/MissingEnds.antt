-- Missing closers, of every call that returned 0.
-- Assumes nothing.
use Rattle.std.specs.Prelude.{ℕ, ◌≡◌, refl, Bool, true, false, cond, length}
use Rattle.std.proofs.Common.{sym, ap, subst, ◌∙◌}
use mathlib.Core.List.{List, [], ◌∷◌, map}
use Rattle.std.proofs.lemmas.List.{length-map}
use Rattle.utf8.specs.Last.{last_char}
use Rattle.lexer.specs.Lexer.{tokenize}
use Rattle.lexer.specs.Tokens.{token_ends}
use Rattle.lexer.specs.Laws.{length_ends}
use Rattle.grammar.specs.declared.message.PlainMessage.{PlainMessage}
use Rattle.grammar.specs.Message.{missing_end_number, plain_number}
use Rattle.grammar.specs.Out.{Diag, diags, Place, place, places}
use Rattle.grammar.specs.Source.{symbols, source_places}
use Rattle.grammar.specs.Source
use Rattle.grammar.specs.Endings.{ending, endings, Endings}
use Rattle.grammar.specs.Laws.Out.{place_msg}
use Rattle.grammar.proofs.Theorems.MissingEnds.{one_missing_end}
use Rattle.answer.specs.Answer.{Slices}
use Rattle.answer.specs.Call.{MasmParseText}
use Rattle.answer.specs.Given.{given}
use Rattle.answer.specs.Accepts.{reading_slices, reading_of_call, last_row_of_call}
use Rattle.answer.specs.MissingEnds.{diagnostics_of, place_endings, CallEnd, MissingEnds}

of_places : (ps : List Place) → diagnostics_of (map (λ p. p.msg) ps) (map (λ p. p.start) ps) (map (λ p. p.stop) ps) ≡ ps
of_places [] = refl
of_places (p ∷ ps) = ap (λ (l : List Place). p ∷ l) (of_places ps)

place_end : (m : ℕ) (es : List ℕ) (s anchor : ℕ) → place m es s anchor (length es) ≡ record { msg = m; start = anchor; stop = anchor }
place_end m [] s anchor = refl
place_end m (e ∷ es) s anchor = place_end m es e anchor

module _ (es : List ℕ) (anchor : ℕ) where
  endings_places : (l : List Diag) → place_endings (places es anchor l) ≡ places es anchor (endings l)
  endings_places [] = refl
  endings_places (d ∷ l) = rw (place_msg d.msg es 0 anchor d.pos) (c (ending d.msg) (endings_places l))
    where
      p : Place
      p = place d.msg es 0 anchor d.pos

      c : (u : Bool) → place_endings (places es anchor l) ≡ places es anchor (endings l)
          → cond u (p ∷ place_endings (places es anchor l)) (place_endings (places es anchor l)) ≡ places es anchor (cond u (d ∷ endings l) (endings l))
      c true e = ap (λ (x : List Place). p ∷ x) e
      c false e = e

  call_end : {n : ℕ} {l : List Diag} → n ≡ length es → Endings n l → CallEnd anchor (places es anchor l)
  call_end h Endings.no_ending = CallEnd.no_report
  call_end h (Endings.missing_closer w) = rw (h, place_end (missing_end_number w) es 0 anchor) (CallEnd.at_file_end w)
  call_end h (Endings.past_limit i) =
      let p = place (plain_number PlainMessage.NestingTooDeep) es 0 anchor i in
      subst (λ m. CallEnd anchor (record { msg = m; start = p.start; stop = p.stop } ∷ [])) (sym (place_msg (plain_number PlainMessage.NestingTooDeep) es 0 anchor i)) (CallEnd.at_limit p.start p.stop)

of_source : (limit : ℕ) (source : List ℕ) → MissingEnds source (reading_slices limit source)
of_source limit source =
    let n : length (symbols source) ≡ length (token_ends source) = length-map (tokenize source) Source.token_symbol ∙ sym (length_ends 0 (tokenize source)) in
    rw (of_places (source_places limit source), endings_places (token_ends source) (last_char source) (diags limit (symbols source)))
    (call_end (token_ends source) (last_char source) n (one_missing_end limit (symbols source)))

pub missing_ends : (limit : ℕ) (source : List ℕ) (s : Slices) (counts : List ℕ) {r : ℕ} {s' : Slices} {counts' : List ℕ}
    → MasmParseText limit source s counts r s' counts' → r ≡ 0 → MissingEnds source (given s' counts')
missing_ends limit source s counts c z =
    let g = (reading_of_call limit source s counts (last_row_of_call limit source s counts c z) c).1 in
    subst (MissingEnds source) (sym g.given_is) (of_source limit source)
