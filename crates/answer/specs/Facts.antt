-- What holds of every source that the call accepts, which is proved in proofs/Facts; and room that is always enough.
-- Assumes nothing.
use Rattle.std.specs.Prelude.{ℕ, ◌+◌, ◌*◌, ◌≤◌, ◌≡◌, true, List, map, length}
use Rattle.std.proofs.Common.{arith}
use Rattle.std.proofs.lemmas.List.{length-map}
use Rattle.utf8.specs.WellFormed.{WellFormed}
use Rattle.utf8.specs.Laws.{accepts as valid}
use Rattle.lexer.specs.Lexer.{tokenize}
use Rattle.lexer.specs.Tokens.{MAX_SOURCE}
use Rattle.lexer.specs.Laws.{Every, token_bytes, few_tokens}
use Rattle.grammar.specs.Words.{event_of}
use Rattle.grammar.specs.Out.{diags}
use Rattle.grammar.specs.Source.{symbols, source_events, source_places}
use Rattle.grammar.specs.Source
use Rattle.grammar.specs.Joins.{leaf_events}
use Rattle.grammar.specs.Theorems.FewOpen.{peak}
use Rattle.grammar.proofs.Theorems.FewEvents.{few_events}
use Rattle.grammar.proofs.Theorems.FewDiagnostics.{few_diagnostics}
use Rattle.grammar.specs.Theorems.InOrder.{NeverFalling}
use Rattle.grammar.specs.Block.{limit_allowed}
use Rattle.marks.specs.Laws.{NotRefused, none_refused}
use Rattle.answer.specs.Answer.{Slices, token_room, diagnostic_room}
use Rattle.answer.specs.Call.{MasmParseText}
use Rattle.answer.specs.Given.{token_count, event_count, diagnostic_count, cut}
use Rattle.answer.specs.Accepts.{reading_of_call}

-- The counts are those of what is given. The leaves in order are the tokens, and their texts the source, byte for byte. At most
-- 2 × limit + 4 nodes are open together: 516 at the unit's limit. No diagnostic starts before the one before it.
pub record Facts (limit : ℕ) (source : List ℕ) (g : Slices) (counts : List ℕ) : Type 0 where
  pub tokens : length g.kinds ≡ token_count counts
  pub ends : length g.ends ≡ token_count counts
  pub events : length g.events ≡ event_count counts
  pub messages : length g.messages ≡ diagnostic_count counts
  pub leaves_are : leaf_events g.events ≡ map event_of g.kinds
  pub texts_are : token_bytes (cut 0 g.kinds g.ends source) ≡ source
  pub few_open : peak 0 g.events ≤ 2 * limit + 4
  pub few_events : event_count counts ≤ 7 * token_count counts + 2
  pub few_diagnostics : diagnostic_count counts ≤ 2 * token_count counts
  pub in_order : NeverFalling 0 g.starts

-- no more diagnostics than twice the tokens, no more tokens than bytes
pub diagnostics_few : (limit : ℕ) (source : List ℕ) → length (source_places limit source) ≤ 2 * length (tokenize source)
diagnostics_few limit source =
    let p : length (source_places limit source) ≡ length (diags limit (symbols source)) = length-map (diags limit (symbols source)) _ in
    omega (arith, few_diagnostics limit (symbols source), length-map (tokenize source) Source.token_symbol)

pub events_few : (limit : ℕ) (source : List ℕ) → length (source_events limit source) ≤ 7 * length (tokenize source) + 2
events_few limit source = omega (arith, few_events limit (symbols source), length-map (tokenize source) Source.token_symbol)

-- For n bytes: n tokens, 7 * n + 2 events and 2 * n diagnostics.
pub enough_room : (limit : ℕ) (source : List ℕ) (s : Slices) (counts : List ℕ) {r : ℕ} {s' : Slices} {counts' : List ℕ}
    → MasmParseText limit source s counts r s' counts' → limit_allowed limit ≡ true → length source ≤ MAX_SOURCE → WellFormed source → Every NotRefused (tokenize source)
    → length source ≤ token_room s → 7 * length source + 2 ≤ length s.events → 2 * length source ≤ diagnostic_room s → 3 ≤ length counts → r ≡ 0
enough_room limit source s counts c allowed small well plain token_room event_room diagnostic_room words =
    let f = few_tokens source in
    (reading_of_call limit source s counts (record {
      allowed = allowed;
      words = words;
      small = small;
      utf8 = valid source well;
      tokens = omega arith;
      no_refusal = none_refused 0 (tokenize source) plain;
      events = omega (arith, events_few limit source);
      places = omega (arith, diagnostics_few limit source);
    }) c).0
