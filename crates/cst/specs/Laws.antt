-- What the passes behind the lexer come to, together.
-- Assumes nothing.
use Rattle.std.specs.Prelude.{Option, None, Some, ℕ, zero, suc, pred, ◌+◌, ◌≤◌, min, ◌≡◌, Bool, cond, List, [], ◌∷◌, ◌++◌, map, ltb, length, take, drop}
use Rattle.std.proofs.Math.Path.{refl, ap}
use Rattle.std.proofs.Common.{sym, ap₂, ◌∙◌, arith, length-take, take_at, drop_at}
use Rattle.std.proofs.Math.Bool.{true, false}
use Rattle.std.proofs.lemmas.List.{length-map}
use Rattle.utf8.specs.Width.{width}
use Rattle.utf8.specs.Last.{last_from, last_char}
use Rattle.room.specs.Over.{over, fit, fit_first, length_fit}
use Rattle.lexer.specs.Lexer.{tokenize}
use Rattle.lexer.specs.Tokens.{room, token_kinds, token_ends, TokensFit}
use Rattle.lexer.specs.Laws.{length_ends}
use Rattle.grammar.specs.Words.{kind_of}
use Rattle.grammar.specs.Out.{Diag, diags}
use Rattle.grammar.specs.Source.{symbols, source_places}
use Rattle.grammar.specs.Laws.Out.{messages_of_places}
use Rattle.items.specs.Entry.{ParserSlices, Parse}
use Rattle.marks.specs.Marks.{first_refused}
use Rattle.marks.specs.Code.{mark}
use Rattle.marks.specs.Laws.{marks_unmarked}
use Rattle.places.specs.Places.{Places}
use Rattle.places.proofs.Writes.{places_over}
use Rattle.answer.specs.declared.Answer.{Answer}
use Rattle.answer.specs.declared.Answer.TheVariants.{TokenRoom}
use Rattle.answer.specs.Answer.{Slices, slices, Outcome, outcome, from_row_3, from_row_4, from_row_5}
use Rattle.cst.specs.Reading.{MarkedTokens, WriteReading}

take_map : (g : ℕ → ℕ) (r : ℕ) (vs : List ℕ) → map g (take r vs) ≡ take r (map g vs)
take_map g zero vs = refl
take_map g (suc r) [] = refl
take_map g (suc r) (v ∷ vs) = ap (λ (k : List ℕ). g v ∷ k) (take_map g r vs)

-- where numbers fit, each is replaced by its value under g
refit : (g : ℕ → ℕ) (r n : ℕ) (vs l : List ℕ) → length (take r vs) ≡ n
    → map g (take n (fit r vs l)) ++ drop n (fit r vs l) ≡ fit r (map g vs) l
refit g r n vs l e =
    let d = drop (length (take r vs)) l in
    ap₂ (λ (k i : List ℕ). map g k ++ i) (take_at (take r vs) d n e) (drop_at (take r vs) d n e)
    ∙ ap₂ (λ (k : List ℕ) (i : ℕ). k ++ drop i l) (take_map g r vs) (sym (length-map (take r vs) g) ∙ ap length (take_map g r vs))

-- ---- The tokens that fit, with their marks.
module _ (source kinds ends : List ℕ) (t : ℕ) (kinds₁ ends₁ : List ℕ) (lex : TokensFit mark source kinds ends t kinds₁ ends₁) where
  abbrev r : ℕ
  r = room kinds ends

  abbrev marks : List ℕ
  marks = map mark (tokenize source)

  count_is : length marks ≡ t
  count_is = length-map (tokenize source) mark ∙ sym lex.count_is

  pub kinds_length : length kinds₁ ≡ length kinds
  kinds_length = ap length lex.kinds_are ∙ length_fit r marks kinds (omega arith)

  pub ends_length : length ends₁ ≡ length ends
  ends_length = ap length lex.ends_are ∙ length_fit r (token_ends source) ends (omega arith)

  pub marked_tokens : MarkedTokens source t kinds₁ ends₁
  marked_tokens = record {
    count_is = lex.count_is;
    kinds_are = λ h. ap (take t) lex.kinds_are ∙ fit_first r t marks kinds count_is (omega (arith, kinds_length, ends_length));
    ends_are = λ h.
        ap (take t) lex.ends_are
        ∙ fit_first r t (token_ends source) ends (length_ends 0 (tokenize source) ∙ sym lex.count_is) (omega (arith, kinds_length, ends_length));
  }

  -- taken off, they leave the plain kinds that fit
  pub taken_off : (n : ℕ) {kinds₂ : List ℕ} → n ≡ min r t → kinds₂ ≡ map kind_of (take n kinds₁)
      → kinds₂ ++ drop n kinds₁ ≡ fit r (token_kinds source) kinds
  taken_off n e k =
      ap₂ (λ (l i : List ℕ). l ++ drop n i) (k ∙ ap (λ (l : List ℕ). map kind_of (take n l)) lex.kinds_are) lex.kinds_are
      ∙ refit kind_of r n marks kinds (length-take r marks ∙ ap (min r) count_is ∙ sym e)
      ∙ ap (λ (vs : List ℕ). fit r vs kinds) (marks_unmarked source)

-- ---- The rows from 3 on ask how many kinds there is room for, and leave them as they are.
abbrev pub with_kinds : List ℕ → Outcome → Outcome
with_kinds k o = outcome o.answer (slices k o.slices.ends o.slices.events o.slices.messages o.slices.starts o.slices.stops)

module _ (limit : ℕ) (source ends ev dm ds de k k' : List ℕ) where
  by_rows : (u : Bool) (q : Option ℕ)
      → with_kinds k' (cond u (outcome (TokenRoom (length (tokenize source))) (slices k ends ev dm ds de)) (from_row_4 q limit source (slices k ends ev dm ds de)))
      ≡ cond u (outcome (TokenRoom (length (tokenize source))) (slices k' ends ev dm ds de)) (from_row_4 q limit source (slices k' ends ev dm ds de))
  unfolding from_row_4 from_row_5
  by_rows true q = refl
  by_rows false None = refl
  by_rows false (Some n) = refl

  pub other_kinds : length k ≡ length k' → with_kinds k' (from_row_3 limit source (slices k ends ev dm ds de)) ≡ from_row_3 limit source (slices k' ends ev dm ds de)
  unfolding from_row_3
  other_kinds e =
      ap (λ n. with_kinds k' (cond (ltb (min n (length ends)) (length (tokenize source))) (outcome (TokenRoom (length (tokenize source))) (slices k ends ev dm ds de)) (from_row_4 (first_refused 0 (tokenize source)) limit source (slices k ends ev dm ds de)))) e
      ∙ by_rows (ltb (min (length k') (length ends)) (length (tokenize source))) (first_refused 0 (tokenize source))

-- Row 3 and those behind it leave the kinds.
kept_by_rows : (u : Bool) (q : Option ℕ) (a : Answer) (limit : ℕ) (source : List ℕ) (s : Slices) → (cond u (outcome a s) (from_row_4 q limit source s)).slices.kinds ≡ s.kinds
unfolding from_row_4 from_row_5
kept_by_rows true q a limit source s = refl
kept_by_rows false None a limit source s = refl
kept_by_rows false (Some n) a limit source s = refl

pub kinds_stay : (limit : ℕ) (source : List ℕ) (s : Slices) → (from_row_3 limit source s).slices.kinds ≡ s.kinds
unfolding from_row_3
kinds_stay limit source s = kept_by_rows _ _ _ limit source s

-- ---- The grammar and the places.
module _
    (limit : ℕ) (s F ends : List ℕ) (anchor : ℕ) (b w : ParserSlices) (de ds' de' : List ℕ)
    (symbols_are : F ≡ symbols s) (ends_are : ends ≡ token_ends s) (anchor_is : anchor ≡ last_char s)
    (same_de : length b.starts ≡ length de) (parsed : Parse limit F b w)
    (placed : Places ends anchor w.c.diags w.starts de ds' de')
  where
    p : Parse limit (symbols s) b w
    p = rw symbols_are at parsed

    abbrev said : List Diag
    said = diags limit (symbols s)

    written : (ds' ≡ over b.starts 0 (map (λ p. p.start) (source_places limit s))) × (de' ≡ over de 0 (map (λ p. p.stop) (source_places limit s)))
    written = places_over (token_ends s) (last_char s) said b.starts de ds' de' same_de (rw (ends_are, anchor_is, p.diagnostic_count, p.starts_are) at placed)

    pub reading_is : WriteReading limit s b.events b.messages b.starts de w.c.events w.c.diags w.events w.messages ds' de'
    reading_is = record {
      event_count = p.event_count;
      diagnostic_count = p.diagnostic_count ∙ sym (length-map said _);
      events_are = p.events_are;
      messages_are = p.messages_are ∙ ap (over b.messages 0) (sym (messages_of_places (token_ends s) (last_char s) said));
      starts_are = written.0;
      stops_are = written.1;
    }
