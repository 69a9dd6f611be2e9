-- `cst::rows::parse_from_row_5` meets its contract: the slices of diagnostics are lent as far as the shortest goes. Assumes nothing.
use Prim.Native.Nat.{ℕ, ◌≤◌}
use mathlib.Core.Path.{◌≡◌, refl, sym, ap, ◌∙◌}
use mathlib.Core.Bool.{cond, ◌||◌}
use mathlib.Core.Logic.{inl, inr}
use mathlib.Core.List.{List, ◌++◌, map}
use native.Mathlib.Omega.{arith}
use borrow.Author.Tests.{lt-ltb, le-ltb}
use lib.Dec.{ltb}
use lib.ListN.{length, take, drop, length-map}
use lib.Seq.{length-take-le}
use Rattle.std.proofs.Common.{take_at, drop_at}
use Rattle.utf8.specs.Last.{last_char}
use Rattle.utf8.specs.Laws.{accepted}
use Rattle.lexer.specs.Lexer.{tokenize}
use Rattle.lexer.specs.Tokens.{token_ends}
use Rattle.lexer.specs.Laws.{few_tokens}
use Rattle.room.specs.Over.{over, length_over, over_fit, given_back}
use Rattle.grammar.specs.Out.{diags}
use Rattle.grammar.specs.Source.{token_symbol, symbols, source_events, source_places}
use Rattle.items.specs.Entry.{ParserSlices, Parse}
use Rattle.places.specs.Places.{Places}
use Rattle.cst.specs.Reading.{WriteReading}
use Rattle.answer.specs.Within.{last_within}
use Rattle.cst.specs.Laws.{reading_is}
use Rattle.answer.specs.declared.Answer.{Answer}
use Rattle.answer.specs.declared.Answer.TheVariants.{OutputRoom, Accepted}
use Rattle.answer.specs.Answer.{slices, diagnostic_room, outcome, from_row_5}
use Rattle.cst.proofs.rows.parse_from_row_5.Goals as goal

count_is : (source kinds : List ℕ) (t : ℕ) → t ≤ length kinds → take t kinds ≡ symbols source → t ≡ length (tokenize source)
count_is source kinds t h e = sym (length-take-le t kinds h) ∙ ap length e ∙ length-map (tokenize source) token_symbol

written_room : (n : ℕ) (l' l vs : List ℕ) → l' ≡ over (take n l) 0 vs → n ≤ length l → length l' ≡ n
written_room n l' l vs e h = ap length e ∙ length_over (take n l) 0 vs ∙ length-take-le n l h

module _
    (limit : ℕ) (source kinds ends dm ds de : List ℕ) (t n anchor : ℕ) (b w : ParserSlices) (ds' de' : List ℕ)
    (fits : t ≤ length kinds) (kinds_are : take t kinds ≡ symbols source) (ends_are : take t ends ≡ token_ends source)
    (anchor_is : anchor ≡ last_char source) (room_is : n ≡ diagnostic_room (slices kinds ends b.events dm ds de))
    (messages_are : b.messages ≡ take n dm) (starts_are : b.starts ≡ take n ds)
    (parsed : Parse limit (take t kinds) b w)
    (placed : Places (take t ends) anchor w.c.diags (take n (w.starts ++ drop n ds)) (take n de) ds' de')
  where
    abbrev e : ℕ
    e = w.c.events

    abbrev d : ℕ
    d = w.c.diags

    starts-room : length w.starts ≡ n
    starts-room =
        written_room n w.starts ds (map (λ d. d.pos) (diags limit (take t kinds)))
        (parsed.starts_are ∙ ap (λ l. over l 0 (map (λ d. d.pos) (diags limit (take t kinds)))) starts_are) (omega (arith, room_is))

    reading : WriteReading limit source b.events (take n dm) (take n ds) (take n de) e d w.events w.messages ds' de'
    reading =
        rw (sym messages_are, sym starts_are)
        (reading_is limit source _ _ _ b w _ _ _ kinds_are ends_are anchor_is
        (ap length starts_are ∙ length-take-le n ds (omega (arith, room_is)) ∙ sym (length-take-le n de (omega (arith, room_is))))
        parsed (rw (take_at w.starts (drop n ds) n starts-room) at placed))

    whole : (r : Answer) → r ≡ cond (ltb (length w.events) e || ltb n d) OutputRoom Accepted t e d
        → outcome r (slices kinds ends w.events (w.messages ++ drop n dm) (ds' ++ drop n (w.starts ++ drop n ds)) (de' ++ drop n de))
        ≡ from_row_5 limit source (slices kinds ends b.events dm ds de)
    unfolding from_row_5
    whole r a =
        let event-room : length w.events ≡ length b.events = ap length reading.events_are ∙ length_over b.events 0 (source_events limit source) in
        let answer-is : r ≡ (from_row_5 limit source (slices kinds ends b.events dm ds de)).answer =
        a ∙ rw (count_is source kinds t fits kinds_are, event-room, room_is, reading.event_count, reading.diagnostic_count) refl in
        rw (
          drop_at w.starts (drop n ds) n starts-room,
          answer-is,
          reading.events_are ∙ over_fit b.events (source_events limit source),
          given_back dm w.messages (map (λ p. p.msg) (source_places limit source)) n n reading.messages_are refl (omega arith),
          given_back ds ds' (map (λ p. p.start) (source_places limit source)) n n reading.starts_are refl (omega arith),
          given_back de de' (map (λ p. p.stop) (source_places limit source)) n n reading.stops_are refl (omega arith),
          room_is,
        )
        refl

pub last_char-anchor-requires : goal.last_char-anchor-requires
last_char-anchor-requires c = accepted _ c.args.text.is_utf8

pub parse-end-requires : goal.parse-end-requires
parse-end-requires c =
    let pre = c.requires in
    let source = c.args.text.bytes.now in
    omega (arith, c.args.text.within_limit, ap length pre.1, length-map (tokenize source) token_symbol, few_tokens source)

pub places-requires : goal.places-requires
places-requires c =
    let pre = c.requires in
    let a = c.args in
    let n = c.min-room.result in
    let few : n ≤ length a.slices.starts.now = omega arith in
    let starts-room = written_room n c.parse-end.new.starts a.slices.starts.now (map (λ d. d.pos) (diags a.limit.forms (take a.t a.slices.kinds.now))) c.parse-end.ensures.starts_are few in
    record {
      anchor = omega (arith, a.text.within_limit, last_within a.text.bytes.now, c.last_char-anchor.ensures);
      same_length = ap length (take_at c.parse-end.new.starts _ n starts-room) ∙ starts-room ∙ sym (length-take-le n a.slices.stops.now (omega arith));
    }

pub returns-then-events-end : goal.returns-then-events-end
returns-then-events-end c =
    let pre = c.requires in
    whole c.args.limit.forms c.args.text.bytes.now _ _ _ _ _ _ _ _ _ _ _ _ pre.0 pre.1 pre.3 c.last_char-anchor.ensures (omega arith) refl refl
    c.parse-end.ensures c.places.ensures _ (elim c.then-events-end.either [
      | inl h ↦ rw (lt-ltb _ _ h)
      | inr h ↦ rw (le-ltb _ _ h.0, lt-ltb _ _ h.1)
    ])

pub returns : goal.returns
returns c =
    let pre = c.requires in
    whole c.args.limit.forms c.args.text.bytes.now _ _ _ _ _ _ _ _ _ _ _ _ pre.0 pre.1 pre.3 c.last_char-anchor.ensures (omega arith) refl refl
    c.parse-end.ensures c.places.ensures _ (rw (le-ltb (length c.parse-end.new.events) c.parse-end.result.events (omega arith), le-ltb c.min-room.result c.parse-end.result.diags (omega arith)))
