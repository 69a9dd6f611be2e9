-- What every function of the lexer keeps: over a text's bytes it says the same as over its characters.
-- Assumes nothing.
use Prim.Native.Nat.{ℕ, zero, suc, ◌+◌, ◌≤◌}
use Rattle.std.specs.Prelude.{◌≡◌, Bool, ◌||◌, eqb, ltb, take, drop}
use Rattle.std.proofs.Math.Path.{refl}
use Rattle.std.proofs.Common.{sym, ap, ◌∙◌, true≢false, arith}
use Rattle.std.proofs.Math.Bool.{true, false, cond}
use mathlib.Core.List.{List, [], ◌∷◌, ◌++◌, append_assoc}
use Rattle.std.proofs.Math.ListN.{length, length-append}
use Rattle.std.proofs.Math.Seq.{take-append_seam, drop-append_seam}
use Rattle.lexer.specs.Syntax.{SpecialIdent, Error}
use Rattle.lexer.specs.Chars.{word}
use Rattle.lexer.specs.Lexer.{Lexeme, LexRule, lex_one, later, choose, follow, advance_while, lex_while, same, kernel, exec, special}
use Rattle.utf8.specs.Scalar.{encode}
use Rattle.characters.specs.Text.{encode_all}
use Rattle.characters.proofs.Spelling.{HighBytes, Spelling, ascii, wide, spelling}
use Rattle.characters.proofs.Tests.{not_at, no_word}

-- a lexeme of the characters cs, counted in bytes
abbrev pub spelled : Lexeme → List ℕ → Lexeme
spelled t cs = record { kind = t.kind; more = length (encode_all (take t.more cs)) }

-- over the bytes f takes the bytes of those characters that it takes over the characters, and gives them the same kind
pub record Agrees (f : LexRule) : Type 0 where
  pub agrees : (cs : List ℕ) → f (encode_all cs) ≡ spelled (f cs) cs

pub agree_one : (k : ℕ) → Agrees (lex_one k)
unfolding encode_all
agree_one k = record { agrees = λ cs. refl }

pub agree_choose : (t : Bool) {f g : LexRule} → Agrees f → Agrees g → Agrees (choose t f g)
agree_choose true p q = p
agree_choose false p q = q

-- one ASCII character more in front
pub spelled_later : (c : ℕ) (t : Lexeme) (r : List ℕ) → encode c ≡ c ∷ [] → spelled (later t) (c ∷ r) ≡ later (spelled t r)
unfolding encode_all
spelled_later c t r e = rw e

-- current_char() == Some(x), of an x in ASCII
module _ (x : ℕ) (l : ltb x 0x80 ≡ true) (f g : LexRule) (p : Agrees f) (q : Agrees g) where
  follows : (cs : List ℕ) → follow x f g (encode_all cs) ≡ spelled (follow x f g cs) cs
  unfolding follow encode_all
  follows [] = q.agrees []
  follows (c ∷ r) = by_spelling (spelling c)
    where
      by_test : encode c ≡ c ∷ [] → (t : Bool)
          → cond t (later (f (encode_all r))) (g (c ∷ encode_all r)) ≡ spelled (cond t (later (f r)) (g (c ∷ r))) (c ∷ r)
      by_test e true = rw (p.agrees r) (sym (spelled_later c (f r) r e))
      by_test e false = rw e at (q.agrees (c ∷ r))

      by_spelling : Spelling c → follow x f g (encode c ++ encode_all r) ≡ spelled (follow x f g (c ∷ r)) (c ∷ r)
      by_spelling (ascii h e) = rw e (by_test e (eqb c x))
      by_spelling (wide b bs h e w n) =
          rw (e, follow, not_at b w.0 x l, not_at c h x l) (rw e at (q.agrees (c ∷ r)))

pub agree_follow : (x : ℕ) {f g : LexRule} → ltb x 0x80 ≡ true → Agrees f → Agrees g → Agrees (follow x f g)
agree_follow x {f} {g} l p q = record { agrees = follows x l f g p q }

-- advance_while, with a test that gives one answer on all numbers from 0x80 on
abbrev pub UniformAboveAscii : (ℕ → Bool) → Bool → Type 0
UniformAboveAscii p t = (n : ℕ) → 0x80 ≤ n → p n ≡ t

advance_high : (p : ℕ → Bool) → UniformAboveAscii p true → (bs s : List ℕ) → HighBytes bs → advance_while p (bs ++ s) ≡ length bs + advance_while p s
unfolding advance_while
advance_high p a [] s w = omega arith
advance_high p a (b ∷ bs) s w = rw (a b w.0, advance_high p a bs s w.1) (omega arith)

module _ (p : ℕ → Bool) where
  advance_wide : (t : Bool) → UniformAboveAscii p t → (c : ℕ) (r : List ℕ) (b : ℕ) (bs : List ℕ) → 0x80 ≤ c → encode c ≡ b ∷ bs → HighBytes (b ∷ bs)
      → advance_while p (encode_all r) ≡ length (encode_all (take (advance_while p r) r))
      → advance_while p (b ∷ (bs ++ encode_all r)) ≡ length (encode_all (take (advance_while p (c ∷ r)) (c ∷ r)))
  unfolding advance_while encode_all
  advance_wide true a c r b bs h e w again =
      rw (a c h, e, length-append, ← again) (advance_high p a (b ∷ bs) (encode_all r) w)
  advance_wide false a c r b bs h e w again = rw (a b w.0, a c h)

  pub advance_agrees : (t : Bool) → UniformAboveAscii p t → (cs : List ℕ)
      → advance_while p (encode_all cs) ≡ length (encode_all (take (advance_while p cs) cs))
  unfolding advance_while encode_all
  advance_agrees t a [] = refl
  advance_agrees t a (c ∷ r) = by_spelling (spelling c) (advance_agrees t a r)
    where
      by_spelling : Spelling c → advance_while p (encode_all r) ≡ length (encode_all (take (advance_while p r) r))
          → advance_while p (encode c ++ encode_all r) ≡ length (encode_all (take (advance_while p (c ∷ r)) (c ∷ r)))
      by_spelling (ascii h e) again = rw e (by_test (p c))
        where
          by_test : (u : Bool)
              → cond u (suc (advance_while p (encode_all r))) 0 ≡ length (encode_all (take (cond u (suc (advance_while p r)) 0) (c ∷ r)))
          by_test true = rw e (ap suc again)
          by_test false = refl
      by_spelling (wide b bs h e w n) again = rw e (advance_wide t a c r b bs h e w again)

pub agree_while : (k : ℕ) (p : ℕ → Bool) (t : Bool) → UniformAboveAscii p t → Agrees (lex_while k p)
unfolding lex_while
agree_while k p t a = record { agrees = λ cs. ap (λ (n : ℕ). record { kind = k; more = n }) (advance_agrees p t a cs) }

-- the bytes of the first m characters, and those behind them
encode_split : (m : ℕ) (cs : List ℕ) → encode_all cs ≡ encode_all (take m cs) ++ encode_all (drop m cs)
unfolding encode_all
encode_split zero cs = refl
encode_split (suc m) [] = refl
encode_split (suc m) (c ∷ r) =
    ap (λ (s : List ℕ). encode c ++ s) (encode_split m r) ∙ sym (append_assoc (encode c) (encode_all (take m r)) (encode_all (drop m r)))

module _ (m : ℕ) (cs : List ℕ) where
  pub take_encoded : take (length (encode_all (take m cs))) (encode_all cs) ≡ encode_all (take m cs)
  take_encoded =
      let front = encode_all (take m cs) in
      ap (take (length front)) (encode_split m cs) ∙ take-append_seam front (encode_all (drop m cs))

  pub drop_encoded : drop (length (encode_all (take m cs))) (encode_all cs) ≡ encode_all (drop m cs)
  drop_encoded =
      let front = encode_all (take m cs) in
      ap (drop (length front)) (encode_split m cs) ∙ drop-append_seam front (encode_all (drop m cs))

-- lex_identifier: what is passed over is ASCII, and so its own bytes
ascii_run : (p : ℕ → Bool) → UniformAboveAscii p false → (cs : List ℕ) → encode_all (take (advance_while p cs) cs) ≡ take (advance_while p cs) cs
unfolding advance_while encode_all
ascii_run p a [] = refl
ascii_run p a (c ∷ r) = by_test (p c) refl (spelling c) (ascii_run p a r)
  where
    by_test : (u : Bool) → p c ≡ u → Spelling c → encode_all (take (advance_while p r) r) ≡ take (advance_while p r) r
        → let n = cond u (suc (advance_while p r)) 0 in encode_all (take n (c ∷ r)) ≡ take n (c ∷ r)
    by_test true i (ascii h e) again = rw (e, again)
    by_test true i (wide b bs h e w n) again = absurd (true≢false (sym i ∙ a c h))
    by_test false i s again = refl

pub agree_special : Agrees special
unfolding special
agree_special = record {
  agrees = λ cs.
      let m = advance_while word cs in
      ap (λ (n : ℕ). named n (take n (encode_all cs))) (advance_agrees word false no_word cs)
      ∙ ap (named (length (encode_all (take m cs)))) (take_encoded m cs ∙ ascii_run word no_word cs);
}
  where
    named : ℕ → List ℕ → Lexeme
    named n s = record { kind = cond (same s kernel || same s exec) SpecialIdent Error; more = n }
