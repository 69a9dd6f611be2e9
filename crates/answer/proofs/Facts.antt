-- What holds of every source that the call accepts.
-- Assumes nothing.
use Rattle.std.specs.Prelude.{ℕ, ◌≡◌, refl, List, [], ◌∷◌, map, length}
use Rattle.std.proofs.Common.{sym, ap, ◌∙◌, append-nil, arith}
use Rattle.std.proofs.lemmas.List.{length-map}
use Rattle.utf8.specs.WellFormed.{WellFormed}
use Rattle.utf8.specs.Laws.{accepted}
use Rattle.lexer.specs.Lexer.{tokenize}
use Rattle.lexer.specs.Tokens.{MAX_SOURCE, token_kinds}
use Rattle.lexer.specs.Tokens
use Rattle.lexer.specs.Laws.{token_bytes, lossless, length_ends}
use Rattle.grammar.specs.Words.{Sym, kind_of, event_of}
use Rattle.grammar.specs.Run.{leaves}
use Rattle.grammar.specs.Item.{parse}
use Rattle.grammar.specs.Out.{kind, events}
use Rattle.grammar.specs.Source.{symbols, source_events, source_places}
use Rattle.grammar.specs.Joins.{leaf_events}
use Rattle.grammar.proofs.Laws.Premise.{leaf_events_of}
use Rattle.grammar.proofs.Theorems.AllTokens.{all_tokens}
use Rattle.grammar.proofs.Theorems.FewOpen.{few_open}
use Rattle.marks.specs.Laws.{source_unmarked}
use Rattle.answer.specs.Answer.{Slices}
use Rattle.answer.specs.Call.{MasmParseText}
use Rattle.answer.specs.Given.{token_count, event_count, diagnostic_count, given}
use Rattle.answer.specs.Accepts.{reading_slices, reading_of_call, last_row_of_call}
use Rattle.answer.specs.JoinedTokens.{cut_source}
use Rattle.answer.specs.InOrder.{starts_in_order}
use Rattle.answer.specs.Facts.{Facts, diagnostics_few, events_few}

by_kinds : (ss : List Sym) → map kind ss ≡ map event_of (map kind_of ss)
by_kinds [] = refl
by_kinds (s ∷ ss) = ap (λ (l : List ℕ). kind s ∷ l) (by_kinds ss)

leaves_of : (limit : ℕ) (source : List ℕ) → leaf_events (source_events limit source) ≡ map event_of (token_kinds source)
unfolding events
leaves_of limit source =
    leaf_events_of (parse limit (symbols source)) (0 ∷ [])
    ∙ append-nil (map kind (leaves (parse limit (symbols source))))
    ∙ ap (map kind) (all_tokens limit (symbols source))
    ∙ by_kinds (symbols source)
    ∙ ap (map event_of) (source_unmarked source)

of_reading : (limit : ℕ) (source : List ℕ) (counts : List ℕ) → WellFormed source → token_count counts ≡ length (tokenize source)
    → event_count counts ≡ length (source_events limit source) → diagnostic_count counts ≡ length (source_places limit source)
    → Facts limit source (reading_slices limit source) counts
of_reading limit source counts w t e d =
    record {
      tokens = length-map (tokenize source) Tokens.token_kind ∙ sym t;
      ends = length_ends 0 (tokenize source) ∙ sym t;
      events = sym e;
      messages = length-map (source_places limit source) _ ∙ sym d;
      leaves_are = leaves_of limit source;
      texts_are = ap token_bytes (cut_source source) ∙ lossless source;
      few_open = omega (arith, few_open limit (symbols source));
      few_events = omega (arith, events_few limit source);
      few_diagnostics = omega (arith, diagnostics_few limit source);
      in_order = starts_in_order limit source w;
    }

pub facts : (limit : ℕ) (source : List ℕ) (s : Slices) (counts : List ℕ) {r : ℕ} {s' : Slices} {counts' : List ℕ}
    → MasmParseText limit source s counts r s' counts' → r ≡ 0 → Facts limit source (given s' counts') counts'
facts limit source s counts c z =
    let last = last_row_of_call limit source s counts c z in
    let g = (reading_of_call limit source s counts last c).1 in
    rw g.given_is (of_reading limit source _ (accepted source last.utf8) g.t_is g.e_is g.d_is)
