-- Demand 3, over three calls at one limit: on A, on B and on the join.
-- Assumes nothing.
use Rattle.std.specs.Prelude.{ℕ, ◌+◌, ◌≤◌, ◌≡◌, refl, length}
use Rattle.std.proofs.Common.{sym, ap, ap₂, ◌∙◌, arith, length-append}
use mathlib.Core.List.{List, [], ◌∷◌, ◌++◌, map, map-id, map-append, tail, drop_last}
use Rattle.std.proofs.lemmas.List.{length-map}
use Rattle.utf8.specs.WellFormed.{WellFormed}
use Rattle.utf8.specs.Last.{last_char, last_append}
use Rattle.utf8.specs.Laws.{accepted as well_formed, valid_join}
use Rattle.lexer.specs.Lexer.{tokenize}
use Rattle.lexer.specs.Tokens.{MAX_SOURCE, token_ends}
use Rattle.lexer.specs.Laws.{last_end, length_ends, tokenize_nil}
use Rattle.lexer.specs.Join.{join, join_kinds, join_ends}
use Rattle.grammar.specs.Out.{Place, events, diags, places}
use Rattle.grammar.specs.Source.{syms, symbols, source_events, source_places}
use Rattle.grammar.specs.Source
use Rattle.grammar.specs.Joins.{shift}
use Rattle.grammar.specs.Joins
use Rattle.grammar.proofs.Theorems.Joined.{end_follows, joined, joined_events}
use Rattle.grammar.proofs.Theorems.JoinedBytes.{joined_bytes}
use Rattle.marks.specs.Laws.{join_syms, join_none_refused}
use Rattle.answer.specs.Answer.{Slices}
use Rattle.answer.specs.Call.{MasmParseText}
use Rattle.answer.specs.Given.{token_count, event_count, diagnostic_count, given, CallsJoin, Fits, JoinReply}
use Rattle.answer.specs.Accepts.{LastRow, reading_slices, reading_of_call, last_row_of_call}
use Rattle.answer.specs.JoinedTokens.{newline_last, same_start}

-- the readings of A, of B and of the join
module _ (limit : ℕ) (a b : List ℕ) (j : CallsJoin a (reading_slices limit a) (reading_slices limit b)) where
  premise : Joins.Joins limit (symbols a) (symbols b)
  premise = record {
    ends = end_follows limit (symbols a) (newline_last 0 (tokenize a) j.newline) j.closes;
    closes = j.closes;
    starts = same_start (tokenize b) ∙ j.starts;
  }

  symbols_are : symbols (a ++ b) ≡ symbols a ++ symbols b
  symbols_are = join_syms a b j.newline j.line_feed

  pub tokens_add : length (tokenize (a ++ b)) ≡ length (tokenize a) + length (tokenize b)
  tokens_add = ap length (join a b j.newline j.line_feed) ∙ length-append (tokenize a) (tokenize b)

  pub events_are : source_events limit (a ++ b) ≡ drop_last (source_events limit a) ++ tail (source_events limit b)
  events_are = ap (events limit) symbols_are ∙ (joined limit (symbols a) (symbols b) premise).events_are

  pub events_add : length (source_events limit (a ++ b)) + 2 ≡ length (source_events limit a) + length (source_events limit b)
  events_add = ap (λ x. length (events limit x) + 2) symbols_are ∙ joined_events limit (symbols a) (symbols b) premise

  module _ (well : WellFormed a) where
    -- B's last character is the join's, unless B is empty
    anchor : (symbols b ≡ [] → ⊥) → last_char (a ++ b) ≡ length a + last_char b
    anchor n = some b (λ e. n (ap syms (ap tokenize e ∙ tokenize_nil)))
      where
        some : (c : List ℕ) → (c ≡ [] → ⊥) → last_char (a ++ c) ≡ length a + last_char c
        some [] k = absurd (k refl)
        some (x ∷ c) k = last_append well (x ∷ c) (omega arith)

    pub places_are : source_places limit (a ++ b) ≡ source_places limit a ++ map (shift (length a)) (source_places limit b)
    places_are =
        ap₂ (λ (es : List ℕ) (ss : List ℕ). places es (last_char (a ++ b)) (diags limit ss)) (join_ends a b j.newline j.line_feed) symbols_are
        ∙ joined_bytes limit (length a) (token_ends a) (token_ends b) (last_char b) (last_char (a ++ b)) (last_end a)
        (symbols a) (symbols b) premise (last_char a) (length_ends 0 (tokenize a) ∙ sym (length-map (tokenize a) Source.token_symbol)) anchor

    pub places_add : length (source_places limit (a ++ b)) ≡ length (source_places limit a) + length (source_places limit b)
    places_add =
        ap length places_are
        ∙ length-append (source_places limit a) (map (shift (length a)) (source_places limit b))
        ∙ ap (λ (n : ℕ). length (source_places limit a) + n) (length-map (source_places limit b) (shift (length a)))

    -- a number of the diagnostics, B's moved on by f
    by_place : (f : Place → ℕ) (g : ℕ → ℕ) → ((p : Place) → f (shift (length a) p) ≡ g (f p))
        → map f (source_places limit (a ++ b)) ≡ map f (source_places limit a) ++ map g (map f (source_places limit b))
    by_place f g h =
        ap (map f) places_are
        ∙ map-append f (source_places limit a) (map (shift (length a)) (source_places limit b))
        ∙ ap (λ (l : List ℕ). map f (source_places limit a) ++ l) (moved (source_places limit b))
      where
        moved : (ps : List Place) → map f (map (shift (length a)) ps) ≡ map g (map f ps)
        moved [] = refl
        moved (p ∷ ps) = ap₂ ◌∷◌ (h p) (moved ps)

    messages_are : map (λ p. p.msg) (source_places limit (a ++ b)) ≡ map (λ p. p.msg) (source_places limit a) ++ map (λ p. p.msg) (source_places limit b)
    messages_are =
        by_place (λ p. p.msg) (λ n. n) (λ p. refl)
        ∙ ap (λ (l : List ℕ). map (λ (p : Place). p.msg) (source_places limit a) ++ l) (map-id (map (λ p. p.msg) (source_places limit b)))

    pub for_readings : {ca cb cj : List ℕ} {r : ℕ} → r ≡ 0 → token_count cj ≡ token_count ca + token_count cb
        → event_count cj + 2 ≡ event_count ca + event_count cb → diagnostic_count cj ≡ diagnostic_count ca + diagnostic_count cb
        → JoinReply (length a) (reading_slices limit a) (reading_slices limit b) (reading_slices limit (a ++ b)) ca cb cj r
    for_readings z t e d = record {
      returned = z;
      t_is = t;
      e_is = e;
      d_is = d;
      kinds_are = join_kinds a b j.newline j.line_feed;
      ends_are = join_ends a b j.newline j.line_feed;
      events_are = events_are;
      messages_are = messages_are;
      starts_are = by_place (λ p. p.start) (λ n. length a + n) (λ p. refl);
      stops_are = by_place (λ p. p.stop) (λ n. length a + n) (λ p. refl);
    }

-- Whatever the limit on nesting, and whatever the three calls were lent: where the calls on A and on B returned 0, A and B may be joined, and
-- the join is not too long and fits what was lent for it, the call on the join returns 0 and gives A's tokens, items and diagnostics and then
-- B's.
module _
    (limit : ℕ) (a b : List ℕ) (sa sb sj : Slices) (ca cb cj : List ℕ) {ra rb rj : ℕ} {sa' sb' sj' : Slices} {ca' cb' cj' : List ℕ}
    (on_a : MasmParseText limit a sa ca ra sa' ca') (on_b : MasmParseText limit b sb cb rb sb' cb')
    (on_join : MasmParseText limit (a ++ b) sj cj rj sj' cj')
  where
    pub joined_calls : ra ≡ 0 → rb ≡ 0 → length (a ++ b) ≤ MAX_SOURCE → Fits sj cj ca' cb' → CallsJoin a (given sa' ca') (given sb' cb')
        → JoinReply (length a) (given sa' ca') (given sb' cb') (given sj' cj') ca' cb' cj' rj
    joined_calls za zb small fits joins =
        let pa = last_row_of_call limit a sa ca on_a za in
        let pb = last_row_of_call limit b sb cb on_b zb in
        let ga = (reading_of_call limit a sa ca pa on_a).1 in
        let gb = (reading_of_call limit b sb cb pb on_b).1 in
        let j : CallsJoin a (reading_slices limit a) (reading_slices limit b) = rw (ga.given_is, gb.given_is) at joins in
        let well = well_formed a pa.utf8 in
        let pj : LastRow limit (a ++ b) sj cj = record {
          allowed = pa.allowed;
          words = fits.words;
          small = small;
          utf8 = valid_join a b pa.utf8 pb.utf8;
          tokens = omega (arith, tokens_add limit a b j, ga.t_is, gb.t_is, fits.tokens);
          no_refusal = join_none_refused a b j.newline j.line_feed pa.no_refusal pb.no_refusal;
          events = omega (arith, events_add limit a b j, ga.e_is, gb.e_is, fits.events);
          places = omega (arith, places_add limit a b j well, ga.d_is, gb.d_is, fits.diagnostics);
        } in
        let oj = reading_of_call limit (a ++ b) sj cj pj on_join in
        let gj = oj.1 in
        rw (ga.given_is, gb.given_is, gj.given_is)
        (for_readings limit a b j well oj.0
        (omega (arith, tokens_add limit a b j, ga.t_is, gb.t_is, gj.t_is))
        (omega (arith, events_add limit a b j, ga.e_is, gb.e_is, gj.e_is))
        (omega (arith, places_add limit a b j well, ga.d_is, gb.d_is, gj.d_is)))

-- Slices that just fit do fit.
pub just_fit : (s : Slices) (counts ca cb : List ℕ)
    → length s.kinds ≡ token_count ca + token_count cb → length s.ends ≡ token_count ca + token_count cb
    → length s.events + 2 ≡ event_count ca + event_count cb → length s.messages ≡ diagnostic_count ca + diagnostic_count cb
    → length s.starts ≡ diagnostic_count ca + diagnostic_count cb → length s.stops ≡ diagnostic_count ca + diagnostic_count cb
    → length counts ≡ 3 → Fits s counts ca cb
just_fit s counts ca cb k e v m b d w = record { tokens = omega arith; events = omega arith; diagnostics = omega arith; words = omega arith }
