-- A call returns 2 exactly where the source is not too long and not UTF-8, and what it then says.
-- Assumes nothing.
use Rattle.std.specs.Prelude.{Option, None, Some, Ok, Err, ℕ, ◌≤◌, ◌≡◌, refl, Bool, true, false, cond, List, ◌∷◌, ltb, length, drop}
use Rattle.std.proofs.Common.{sym, ap, ◌∙◌, arith}
use borrow.Author.Tests.{le-ltb}
use Rattle.utf8.specs.WellFormed.{WellFormed}
use Rattle.utf8.specs.declared.Utf8Error.{Utf8Error}
use Rattle.utf8.specs.Validate.{Validity, validate}
use Rattle.utf8.specs.Laws.{accepted, longest}
use Rattle.utf8.specs.CutOff.{breaks_off}
use Rattle.lexer.specs.Lexer.{tokenize}
use Rattle.lexer.specs.Tokens.{MAX_SOURCE}
use Rattle.grammar.specs.Block.{limit_allowed}
use Rattle.marks.specs.Marks.{first_refused}
use Rattle.answer.specs.declared.Answer.TheVariants as answer
use Rattle.answer.specs.Answer.{Slices, Outcome, outcome, token_room, with_tokens, short}
use Rattle.answer.specs.Answer.{from_row_5, from_row_4, from_row_3, from_row_2, from_row_1, parse_text}
use Rattle.answer.specs.Numbers.{numbers}
use Rattle.answer.specs.Call.{Reply, reply, call, MasmParseText}
use Rattle.answer.specs.Accepts.{past_row_1, past_row_9, past_row_6}
use Rattle.answer.specs.CutOff.{BrokenText}

abbrev status_of : Outcome → ℕ
status_of o = (numbers o.answer).status

-- Row 2 of the table is the first that holds.
pub record RowTwo (limit : ℕ) (source : List ℕ) (counts : List ℕ) : Type 0 where
  pub allowed : limit_allowed limit ≡ true
  pub words : 3 ≤ length counts
  pub small : length source ≤ MAX_SOURCE
  pub error : Utf8Error
  pub refuses : validate source ≡ Err error

module _ (limit : ℕ) (source : List ℕ) where
  -- no row behind row 2 returns 2
  not_from_row_5 : (s : Slices) → status_of (from_row_5 limit source s) ≡ 2 → ⊥
  unfolding from_row_5
  not_from_row_5 s = by_room (short limit source s) _ _ _
    where
      by_room : (t : Bool) (n e d : ℕ) → (numbers (cond t answer.OutputRoom answer.Accepted n e d)).status ≡ 2 → ⊥
      by_room true n e d h = absurd (omega arith)
      by_room false n e d h = absurd (omega arith)

  not_from_row_4 : (q : Option ℕ) (s : Slices) → status_of (from_row_4 q limit source s) ≡ 2 → ⊥
  unfolding from_row_4
  not_from_row_4 None s h = not_from_row_5 s h
  not_from_row_4 (Some n) s h = absurd (omega arith)

  not_from_row_3 : (s : Slices) → status_of (from_row_3 limit source s) ≡ 2 → ⊥
  unfolding from_row_3
  not_from_row_3 s = by_room (ltb (token_room s) (length (tokenize source)))
    where
      t : ℕ
      t = length (tokenize source)

      by_room : (f : Bool) → status_of (cond f (outcome (answer.TokenRoom t) s) (from_row_4 (first_refused 0 (tokenize source)) limit source s)) ≡ 2 → ⊥
      by_room true h = absurd (omega arith)
      by_room false h = not_from_row_4 (first_refused 0 (tokenize source)) s h

  from_row_2_errs : (v : Validity) (s : Slices) → status_of (from_row_2 v limit source s) ≡ 2 → (e : Utf8Error) × (v ≡ Err e)
  unfolding from_row_2
  from_row_2_errs (Ok _) s h = absurd (not_from_row_3 (with_tokens source s) h)
  from_row_2_errs (Err e) s h = (e, refl)

  row_two : (s : Slices) (counts : List ℕ) → (call limit source s counts).status ≡ 2 → RowTwo limit source counts
  row_two s counts h =
      let p = past_row_6 limit source s counts 2 (λ e. absurd (omega (arith, e))) h in
      let l = past_row_9 limit source s 2 (λ e. absurd (omega (arith, e))) p.1 in
      let q = past_row_1 limit source s 2 (λ e. absurd (omega (arith, e))) l.1 in
      let r = from_row_2_errs (validate source) s q.1 in
      record { allowed = l.0; words = p.0; small = q.0; error = r.0; refuses = r.1 }

  reply_of_row_two : (s : Slices) (counts : List ℕ) (r : RowTwo limit source counts)
      → call limit source s counts ≡ reply 2 s (r.error.valid_up_to ∷ r.error.error_len ∷ 0 ∷ drop 3 counts)
  unfolding call parse_text from_row_1 from_row_2
  reply_of_row_two s counts r = rw (le-ltb (length counts) 3 r.words, r.allowed, le-ltb MAX_SOURCE (length source) r.small, r.refuses) refl

  module _ (s : Slices) (counts : List ℕ) {r : ℕ} {s' : Slices} {counts' : List ℕ} (c : MasmParseText limit source s counts r s' counts') where
    pub broken_text : r ≡ 2 → BrokenText limit source s counts s' counts'
    broken_text z =
        let row = row_two s counts (sym c.status_is ∙ z) in
        let k = reply_of_row_two s counts row in
        rw (c.counts_are ∙ ap (λ (x : Reply). x.counts) k)
        record {
          allowed = row.allowed;
          words = row.words;
          small = row.small;
          longest = longest source row.error row.refuses;
          breaks_off = breaks_off source row.error row.refuses;
          third = refl;
          slices_are = c.slices_are ∙ ap (λ (x : Reply). x.slices) k;
        }

    pub not_utf8_refused : limit_allowed limit ≡ true → 3 ≤ length counts → length source ≤ MAX_SOURCE → (WellFormed source → ⊥) → r ≡ 2
    not_utf8_refused allowed words small broken = by_validity (validate source) refl
      where
        by_validity : (v : Validity) → validate source ≡ v → r ≡ 2
        by_validity (Ok _) e = absurd (broken (accepted source e))
        by_validity (Err e) refuses =
            let row : RowTwo limit source counts = record { allowed = allowed; words = words; small = small; error = e; refuses = refuses } in
            c.status_is ∙ ap (λ (x : Reply). x.status) (reply_of_row_two s counts row)
