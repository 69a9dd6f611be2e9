-- When the call returns 0, and what it then gives.
-- Assumes nothing.
use Rattle.std.specs.Prelude.{Option, None, Some, Ok, Err, ℕ, ◌≤◌, min, ◌≡◌, Bool, cond, ◌||◌, List, ◌∷◌, map, drop}
use Rattle.std.proofs.Math.Path.{refl}
use Rattle.std.proofs.Common.{sym, ap, ap₂, ◌∙◌, arith}
use Rattle.std.proofs.Math.Bool.{true, false}
use borrow.Author.Tests.{ltb-false, le-ltb}
use Rattle.std.proofs.Math.Dec.{ltb}
use Rattle.std.proofs.Math.ListN.{length}
use Rattle.std.proofs.lemmas.List.{length-map}
use Rattle.utf8.specs.Validate.{Validity, validate}
use Rattle.lexer.specs.Lexer.{tokenize}
use Rattle.room.specs.Over.{fit_first, length_fit}
use Rattle.lexer.specs.Tokens.{MAX_SOURCE, token_kind, token_kinds, token_ends}
use Rattle.lexer.specs.Laws.{length_ends}
use Rattle.grammar.specs.Block.{limit_allowed}
use Rattle.grammar.specs.Source.{source_events, source_places}
use Rattle.marks.specs.Marks.{first_refused}
use Rattle.answer.specs.declared.Answer.{Answer}
use Rattle.answer.specs.declared.Answer.TheVariants.{OutputRoom}
use Rattle.answer.specs.declared.Answer.TheVariants as answer
use Rattle.answer.specs.Answer.{Slices, token_room, diagnostic_room, with_tokens, with_output}
use Rattle.answer.specs.Answer.{from_row_5, from_row_4, from_row_3, from_row_2, from_row_1, parse_text}
use Rattle.answer.specs.Numbers.{numbers}
use Rattle.answer.specs.Call.{Reply, reply, call, MasmParseText}
use Rattle.answer.specs.Given.{token_count, event_count, diagnostic_count, given}

-- No row above the last holds.
pub record LastRow (limit : ℕ) (source : List ℕ) (s : Slices) (counts : List ℕ) : Type 0 where
  pub allowed : limit_allowed limit ≡ true
  pub words : 3 ≤ length counts
  pub small : length source ≤ MAX_SOURCE
  pub utf8 : validate source ≡ Ok tt
  pub tokens : length (tokenize source) ≤ token_room s
  pub no_refusal : first_refused 0 (tokenize source) ≡ None
  pub events : length (source_events limit source) ≤ length s.events
  pub places : length (source_places limit source) ≤ diagnostic_room s

abbrev status_of : Answer → ℕ
status_of a = (numbers a).status

module _ (limit : ℕ) (source : List ℕ) (s : Slices) where
  abbrev t : ℕ
  t = length (tokenize source)

  abbrev e : ℕ
  e = length (source_events limit source)

  abbrev d : ℕ
  d = length (source_places limit source)

  -- one test after another
  fitted : (u v : Bool) → status_of (cond (u || v) OutputRoom answer.Accepted t e d) ≡ 0 → (u ≡ false) × (v ≡ false)
  fitted true v h = absurd (omega arith)
  fitted false true h = absurd (omega arith)
  fitted false false h = (refl, refl)

  -- the tokens that fit leave the room as it is
  same_room : token_room (with_tokens source s) ≡ token_room s
  same_room =
      ap₂ min (length_fit (token_room s) (token_kinds source) s.kinds (omega arith)) (length_fit (token_room s) (token_ends source) s.ends (omega arith))

  not_refused : (q : Option ℕ) → status_of (from_row_4 q limit source (with_tokens source s)).answer ≡ 0
      → (q ≡ None) × (status_of (from_row_5 limit source (with_tokens source s)).answer ≡ 0)
  unfolding from_row_4
  not_refused None h = (refl, h)
  not_refused (Some n) h = absurd (omega arith)

  is_valid : (q : Validity) → status_of (from_row_2 q limit source s).answer ≡ 0 → (q ≡ Ok tt) × (status_of (from_row_3 limit source (with_tokens source s)).answer ≡ 0)
  unfolding from_row_2
  is_valid (Ok _) h = (refl, h)
  is_valid (Err e) h = absurd (omega arith)

  by_tokens : status_of (from_row_3 limit source (with_tokens source s)).answer ≡ 0
      → (t ≤ token_room s) × (status_of (from_row_4 (first_refused 0 (tokenize source)) limit source (with_tokens source s)).answer ≡ 0)
  unfolding from_row_3
  by_tokens = by_test (ltb (token_room (with_tokens source s)) t) refl
    where
      by_test : (u : Bool) → ltb (token_room (with_tokens source s)) t ≡ u → status_of (from_row_3 limit source (with_tokens source s)).answer ≡ 0
          → (t ≤ token_room s) × (status_of (from_row_4 (first_refused 0 (tokenize source)) limit source (with_tokens source s)).answer ≡ 0)
      by_test true k h = absurd (omega (arith, rw k at h))
      by_test false k h = (omega (arith, ltb-false (token_room (with_tokens source s)) t k, same_room), rw k at h)

  -- the number of an answer that is not row 9's or row 1's, and of a call whose number is not row 6's
  pub past_row_1 : (n : ℕ) → (1 ≡ n → ⊥) → status_of (from_row_1 limit source s).answer ≡ n
      → (length source ≤ MAX_SOURCE) × (status_of (from_row_2 (validate source) limit source s).answer ≡ n)
  unfolding from_row_1
  past_row_1 n other = by_test (ltb MAX_SOURCE (length source)) refl
    where
      by_test : (u : Bool) → ltb MAX_SOURCE (length source) ≡ u → status_of (from_row_1 limit source s).answer ≡ n
          → (length source ≤ MAX_SOURCE) × (status_of (from_row_2 (validate source) limit source s).answer ≡ n)
      by_test true k h = absurd (other (rw k at h))
      by_test false k h = (ltb-false MAX_SOURCE (length source) k, rw k at h)

  pub past_row_9 : (n : ℕ) → (9 ≡ n → ⊥) → status_of (parse_text limit source s).answer ≡ n
      → (limit_allowed limit ≡ true) × (status_of (from_row_1 limit source s).answer ≡ n)
  unfolding parse_text
  past_row_9 n other = by_test (limit_allowed limit) refl
    where
      by_test : (u : Bool) → limit_allowed limit ≡ u → status_of (parse_text limit source s).answer ≡ n
          → (limit_allowed limit ≡ true) × (status_of (from_row_1 limit source s).answer ≡ n)
      by_test true k h = (k, rw k at h)
      by_test false k h = absurd (other (rw k at h))

  pub past_row_6 : (counts : List ℕ) (n : ℕ) → (6 ≡ n → ⊥) → (call limit source s counts).status ≡ n
      → (3 ≤ length counts) × (status_of (parse_text limit source s).answer ≡ n)
  unfolding call
  past_row_6 counts n other = by_test (ltb (length counts) 3) refl
    where
      by_test : (u : Bool) → ltb (length counts) 3 ≡ u → (call limit source s counts).status ≡ n
          → (3 ≤ length counts) × (status_of (parse_text limit source s).answer ≡ n)
      by_test true k h = absurd (other (rw k at h))
      by_test false k h = (ltb-false (length counts) 3 k, rw k at h)

  pub last_row_of_status : (counts : List ℕ) → (call limit source s counts).status ≡ 0 → LastRow limit source s counts
  unfolding from_row_5
  last_row_of_status counts h =
      let p = past_row_6 counts 0 (λ e. absurd (omega (arith, e))) h in
      let l = past_row_9 0 (λ e. absurd (omega (arith, e))) p.1 in
      let q = past_row_1 0 (λ e. absurd (omega (arith, e))) l.1 in
      let v = is_valid (validate source) q.1 in
      let k = by_tokens v.1 in
      let n = not_refused (first_refused 0 (tokenize source)) k.1 in
      let f = fitted (ltb (length s.events) e) (ltb (diagnostic_room s) d) n.1 in
      record {
        allowed = l.0;
        words = p.0;
        small = q.0;
        utf8 = v.0;
        tokens = k.0;
        no_refusal = n.0;
        events = ltb-false (length s.events) e f.0;
        places = ltb-false (diagnostic_room s) d f.1;
      }

  pub reply_of_last_row : (counts : List ℕ) → LastRow limit source s counts → call limit source s counts ≡ reply 0 (with_output limit source (with_tokens source s)) (t ∷ e ∷ d ∷ drop 3 counts)
  unfolding call parse_text from_row_1 from_row_2 from_row_3 from_row_4 from_row_5
  reply_of_last_row counts a =
      rw (
        le-ltb (length counts) 3 a.words,
        a.allowed,
        le-ltb MAX_SOURCE (length source) a.small,
        a.utf8,
        le-ltb (token_room (with_tokens source s)) t (omega (arith, a.tokens, same_room)),
        a.no_refusal,
        le-ltb (length s.events) e a.events,
        le-ltb (diagnostic_room s) d a.places,
      )
      refl

-- all that the definitions say of a source
abbrev pub reading_slices : ℕ → List ℕ → Slices
reading_slices limit source = record {
  kinds = token_kinds source;
  ends = token_ends source;
  events = source_events limit source;
  messages = map (λ p. p.msg) (source_places limit source);
  starts = map (λ p. p.start) (source_places limit source);
  stops = map (λ p. p.stop) (source_places limit source);
}

-- What stands in the slices and the counts: the source's reading.
pub record GivesReading (limit : ℕ) (source : List ℕ) (s : Slices) (counts : List ℕ) : Type 0 where
  pub t_is : token_count counts ≡ length (tokenize source)
  pub e_is : event_count counts ≡ length (source_events limit source)
  pub d_is : diagnostic_count counts ≡ length (source_places limit source)
  pub given_is : given s counts ≡ reading_slices limit source

module _ (limit : ℕ) (source : List ℕ) (s : Slices) (counts : List ℕ) (a : LastRow limit source s counts) where
  all_given : given (with_output limit source (with_tokens source s)) (t limit source s ∷ e limit source s ∷ d limit source s ∷ drop 3 counts) ≡ reading_slices limit source
  all_given =
      let ps = source_places limit source in
      rw (
        fit_first (token_room s) (t limit source s) (token_kinds source) s.kinds (length-map (tokenize source) token_kind) a.tokens,
        fit_first (token_room s) (t limit source s) (token_ends source) s.ends (length_ends 0 (tokenize source)) a.tokens,
        fit_first (length s.events) (e limit source s) (source_events limit source) s.events refl a.events,
        fit_first (diagnostic_room s) (d limit source s) (map (λ p. p.msg) ps) s.messages (length-map ps _) a.places,
        fit_first (diagnostic_room s) (d limit source s) (map (λ p. p.start) ps) s.starts (length-map ps _) a.places,
        fit_first (diagnostic_room s) (d limit source s) (map (λ p. p.stop) ps) s.stops (length-map ps _) a.places,
      )
      refl

  pub reading_of_call : {r : ℕ} {s' : Slices} {counts' : List ℕ} → MasmParseText limit source s counts r s' counts'
      → (r ≡ 0) × GivesReading limit source s' counts'
  reading_of_call c =
      let k = reply_of_last_row limit source s counts a in
      let h = c.counts_are ∙ ap (λ (x : Reply). x.counts) k in (
        c.status_is ∙ ap (λ (x : Reply). x.status) k,
        record {
          t_is = rw h refl;
          e_is = rw h refl;
          d_is = rw h refl;
          given_is = rw (h, c.slices_are ∙ ap (λ (x : Reply). x.slices) k) all_given;
        },
      )

-- A call that returned 0.
pub last_row_of_call : (limit : ℕ) (source : List ℕ) (s : Slices) (counts : List ℕ) {r : ℕ} {s' : Slices} {counts' : List ℕ}
    → MasmParseText limit source s counts r s' counts' → r ≡ 0 → LastRow limit source s counts
last_row_of_call limit source s counts c z = last_row_of_status limit source s counts (sym c.status_is ∙ z)
