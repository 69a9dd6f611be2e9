-- lex_quoted over a text's bytes and over its characters.
-- Assumes nothing.
use Rattle.std.specs.Prelude.{ℕ, ◌+◌, ◌≤◌, ◌≡◌, refl, Bool, true, false, not, ◌&&◌, List, [], ◌∷◌, ◌++◌, eqb, length}
use Rattle.std.proofs.Common.{sym, ap, ◌∙◌, arith, length-append}
use Rattle.std.proofs.Math.Bool.{and-false}
use Rattle.lexer.specs.Chars.{line_end, graphic}
use Rattle.lexer.specs.Lexer.{Lexeme, later, unescaped, quoted}
use Rattle.utf8.specs.Scalar.{encode}
use Rattle.characters.specs.Text.{encode_all}
use Rattle.characters.proofs.Spelling.{HighBytes, Spelling, ascii, wide, spelling}
use Rattle.characters.proofs.Tests.{not_at, no_line_end, no_graphic}
use Rattle.characters.proofs.Agree.{Agrees, spelled, spelled_later}

-- a number from 0x80 on is passed over, and the quote is no longer identifier-like
quoted_high : (i : Bool) (b : ℕ) (s : List ℕ) → 0x80 ≤ b → quoted false i (b ∷ s) ≡ later (quoted false false s)
unfolding quoted
quoted_high i b s h = rw (no_line_end b h, not_at b h 34 refl, not_at b h 92 refl, no_graphic b h, and-false i)

-- n more
abbrev plus : ℕ → Lexeme → Lexeme
plus n t = record { kind = t.kind; more = n + t.more }

-- lexemes of one kind
by_more : (k m n : ℕ) → m ≡ n → ◌≡◌ {A = Lexeme} (record { kind = k; more = m }) (record { kind = k; more = n })
by_more k m n e = ap (λ (x : ℕ). record { kind = k; more = x }) e

quoted_highs : (bs s : List ℕ) → HighBytes bs → quoted false false (bs ++ s) ≡ plus (length bs) (quoted false false s)
quoted_highs [] s w = by_more (quoted false false s).kind _ _ (omega arith)
quoted_highs (b ∷ bs) s w =
    quoted_high false b (bs ++ s) w.0 ∙ ap later (quoted_highs bs s w.1)
    ∙ by_more (quoted false false s).kind _ _ (omega arith)

-- a character of several bytes, of which the first is passed over
rest_passed : (c : ℕ) (r : List ℕ) (b : ℕ) (bs : List ℕ) → encode c ≡ b ∷ bs → HighBytes bs
    → quoted false false (encode_all r) ≡ spelled (quoted false false r) r
    → later (quoted false false (bs ++ encode_all r)) ≡ spelled (later (quoted false false r)) (c ∷ r)
unfolding encode_all
rest_passed c r b bs e w again =
    rw (e, quoted_highs bs (encode_all r) w, again, length-append) (by_more (quoted false false r).kind _ _ (omega arith))

-- behind a backslash a quote is not identifier-like
backslash : (i g x : Bool) → x && (i && (g && not x)) ≡ false
backslash true true true = refl
backslash true false true = refl
backslash false g true = refl
backslash i g false = refl

unescaped_agrees : (c : ℕ) (r : List ℕ) → encode c ≡ c ∷ [] → (l q i : Bool) (t u : Lexeme) → t ≡ spelled u r
    → unescaped l q i t ≡ spelled (unescaped l q i u) (c ∷ r)
unfolding encode_all
unescaped_agrees c r e true q i t u h = refl
unescaped_agrees c r e false true i t u h = rw e
unescaped_agrees c r e false false i t u h = ap later h ∙ sym (spelled_later c u r e)

quoted_agrees : (t i : Bool) → t && i ≡ false → (cs : List ℕ) → quoted t i (encode_all cs) ≡ spelled (quoted t i cs) cs
unfolding quoted encode_all
quoted_agrees t i v [] = refl
quoted_agrees true i v (c ∷ r) = rw v (by_spelling (spelling c) (quoted_agrees false false refl r))
  where
    by_spelling : Spelling c → quoted false false (encode_all r) ≡ spelled (quoted false false r) r
        → quoted true false (encode c ++ encode_all r) ≡ spelled (later (quoted false false r)) (c ∷ r)
    by_spelling (ascii h e) again = rw (e, again)
    by_spelling (wide b bs h e w n) again =
        ap (λ (s : List ℕ). quoted true false (s ++ encode_all r)) e ∙ rest_passed c r b bs e w.1 again
quoted_agrees false i v (c ∷ r) =
    let x = eqb c 92 in
    let j = i && (graphic c && not x) in
    by_spelling (spelling c) (quoted_agrees x j (backslash i (graphic c) x) r) (quoted_agrees false false refl r)
  where
    next_like : Bool
    next_like = i && (graphic c && not (eqb c 92))

    by_spelling : Spelling c → quoted (eqb c 92) next_like (encode_all r) ≡ spelled (quoted (eqb c 92) next_like r) r
        → quoted false false (encode_all r) ≡ spelled (quoted false false r) r
        → quoted false i (encode c ++ encode_all r) ≡ spelled (quoted false i (c ∷ r)) (c ∷ r)
    by_spelling (ascii h e) again high = rw e (unescaped_agrees c r e (line_end c) (eqb c 34) i _ _ again)
    by_spelling (wide b bs h e w n) again high =
        ap (λ (s : List ℕ). quoted false i (s ++ encode_all r)) e
        ∙ quoted_high i b (bs ++ encode_all r) w.0
        ∙ rest_passed c r b bs e w.1 high
        ∙ ap (λ (t : Lexeme). spelled t (c ∷ r)) (sym (quoted_high i c r h))

pub agree_quoted : (i : Bool) → Agrees (quoted false i)
agree_quoted i = record { agrees = quoted_agrees false i refl }
