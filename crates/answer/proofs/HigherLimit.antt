-- What a call gave without the depth diagnostic, every call at a higher limit gives too.
-- Assumes nothing.
use Rattle.std.specs.Prelude.{Option, None, Some, Ok, Err, ℕ, ◌≡◌, refl, true, cond, List, map, leb, ltb, length}
use Rattle.std.proofs.Common.{sym, ap, ◌∙◌, arith}
use Rattle.std.proofs.lemmas.Bool.{and_parts, le-leb, leb-true}
use Rattle.utf8.specs.Last.{last_char}
use Rattle.utf8.specs.Validate.{Validity, validate}
use Rattle.lexer.specs.Lexer.{tokenize}
use Rattle.lexer.specs.Tokens.{MAX_SOURCE, token_ends}
use Rattle.grammar.specs.Block.{MAX_CONTROL_FLOW_NESTING, limit_allowed}
use Rattle.grammar.specs.Out.{Diag, diags, places}
use Rattle.grammar.specs.Source.{symbols, source_events, source_places}
use Rattle.grammar.specs.Laws.Out.{messages_of_places}
use Rattle.grammar.specs.Theorems.HigherLimit.{without_depth}
use Rattle.grammar.proofs.Theorems.HigherLimit.{higher_limit}
use Rattle.marks.specs.Marks.{first_refused}
use Rattle.answer.specs.Answer.{Slices, token_room, with_tokens}
use Rattle.answer.specs.Answer.{from_row_5, from_row_4, from_row_3, from_row_2, from_row_1, parse_text}
use Rattle.answer.specs.Call.{Reply, call, MasmParseText}
use Rattle.answer.specs.Given.{given}
use Rattle.answer.specs.Accepts.{LastRow, GivesReading, reading_of_call, last_row_of_call}
use Rattle.answer.specs.HigherLimit.{ReadWithoutDepth, RoomFor, GivesSame, SameReply}

module _
    (limit higher : ℕ) (source : List ℕ) (s : Slices) (counts : List ℕ) {r : ℕ} {s' : Slices} {counts' : List ℕ}
    (seen : MasmParseText limit source s counts r s' counts') (read : ReadWithoutDepth limit higher r (given s' counts'))
  where
    last : LastRow limit source s counts
    last = last_row_of_call limit source s counts seen read.accepted

    reading : GivesReading limit source s' counts'
    reading = (reading_of_call limit source s counts last seen).1

    abbrev said : List Diag
    said = diags limit (symbols source)

    calm_file : without_depth (map (λ d. d.msg) said) ≡ true
    calm_file =
        sym (ap without_depth (ap (λ (x : Slices). x.messages) reading.given_is ∙ messages_of_places (token_ends source) (last_char source) said)) ∙ read.calm

    same_output : (source_events higher source ≡ source_events limit source) × (source_places higher source ≡ source_places limit source)
    same_output =
        let o = higher_limit limit higher (symbols source) read.above calm_file in
        (o.0, ap (places (token_ends source) (last_char source)) o.1)

    higher_allowed : limit_allowed higher ≡ true
    higher_allowed =
        let from_1 = leb-true 1 limit (and_parts (leb 1 limit) _ last.allowed).0 in
        rw (le-leb 1 higher (omega (arith, from_1, read.above)), le-leb higher MAX_CONTROL_FLOW_NESTING read.allowed) refl

    -- the table's rows, whatever is lent
    same_row_5 : (t : Slices) → from_row_5 higher source t ≡ from_row_5 limit source t
    unfolding from_row_5
    same_row_5 t = rw (same_output.0, same_output.1) refl

    same_row_4 : (q : Option ℕ) (t : Slices) → from_row_4 q higher source t ≡ from_row_4 q limit source t
    unfolding from_row_4
    same_row_4 None t = same_row_5 t
    same_row_4 (Some n) t = refl

    same_row_3 : (t : Slices) → from_row_3 higher source t ≡ from_row_3 limit source t
    unfolding from_row_3
    same_row_3 t = ap (cond (ltb (token_room t) (length (tokenize source))) _) (same_row_4 (first_refused 0 (tokenize source)) t)

    same_row_2 : (v : Validity) (t : Slices) → from_row_2 v higher source t ≡ from_row_2 v limit source t
    unfolding from_row_2
    same_row_2 (Ok _) t = same_row_3 (with_tokens source t)
    same_row_2 (Err e) t = refl

    same_row_1 : (t : Slices) → from_row_1 higher source t ≡ from_row_1 limit source t
    unfolding from_row_1
    same_row_1 t = ap (cond (ltb MAX_SOURCE (length source)) _) (same_row_2 (validate source) t)

    same_call : (t : Slices) (words : List ℕ) → call higher source t words ≡ call limit source t words
    unfolding call parse_text
    same_call t words = rw (higher_allowed, last.allowed, same_row_1 t) refl

    module _ (t : Slices) (words : List ℕ) {r₂ : ℕ} {t₂ : Slices} {words₂ : List ℕ} (raised : MasmParseText higher source t words r₂ t₂ words₂) where
      -- Whatever the two calls are lent, the higher limit changes nothing.
      pub higher_limit_calls : {r₁ : ℕ} {t₁ : Slices} {words₁ : List ℕ} → MasmParseText limit source t words r₁ t₁ words₁
          → SameReply r₂ t₂ words₂ r₁ t₁ words₁
      higher_limit_calls c =
          let e = same_call t words in
          record {
            status_is = raised.status_is ∙ ap (λ (x : Reply). x.status) e ∙ sym c.status_is;
            slices_are = raised.slices_are ∙ ap (λ (x : Reply). x.slices) e ∙ sym c.slices_are;
            counts_are = raised.counts_are ∙ ap (λ (x : Reply). x.counts) e ∙ sym c.counts_are;
          }

      -- Where what was given has room, it is given again.
      pub higher_limit_gives : RoomFor counts' t words → GivesSame r₂ t₂ words₂ s' counts'
      higher_limit_gives room =
          let row : LastRow higher source t words = record {
            allowed = higher_allowed;
            words = room.words;
            small = last.small;
            utf8 = last.utf8;
            tokens = omega (arith, reading.t_is, room.tokens);
            no_refusal = last.no_refusal;
            events = omega (arith, ap length same_output.0, reading.e_is, room.events);
            places = omega (arith, ap length same_output.1, reading.d_is, room.diagnostics);
          } in
          let g = reading_of_call higher source t words row raised in
          record {
            returned = g.0;
            t_is = g.1.t_is ∙ sym reading.t_is;
            e_is = g.1.e_is ∙ ap length same_output.0 ∙ sym reading.e_is;
            d_is = g.1.d_is ∙ ap length same_output.1 ∙ sym reading.d_is;
            given_is = g.1.given_is ∙ rw (same_output.0, same_output.1) refl ∙ sym reading.given_is;
          }
