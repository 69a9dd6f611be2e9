-- `next` over bytes goes by the class of its byte, over characters by the match of lexer.rs: they say the same.
-- Assumes nothing.
use Rattle.std.specs.Prelude.{ℕ, suc, pred, ◌≤◌, ◌<◌, ◌≡◌, refl, Bool, true, false, ◌||◌, cond, List, ◌++◌, eqb, length, take}
use Rattle.std.proofs.Common.{sym, ap, ◌∙◌, true≢false, arith, eqb-true}
use Rattle.std.proofs.Math.Seq.{take-append_seam}
use Rattle.utf8.specs.Width.{width, width_one}
use Rattle.lexer.specs.Syntax.{Error, Ident}
use Rattle.lexer.specs.Chars.{blank, letter, word, decimal, hex, binary, class, punctuation}
use Rattle.lexer.specs.Lexer.{LexRule, lex_one, choose, lex_while, special, in_line, comment, lex_number, stray, arm, next}
use Rattle.characters.specs.Text.{encode_all}
use Rattle.characters.specs.CharLexer.{char_quoted, char_match, char_next}
use Rattle.characters.proofs.Tests.{no_blank, no_hex, no_binary, no_decimal, no_word, all_in_line, match_other}
use Rattle.characters.proofs.Agree.{Agrees, spelled, agree_one, agree_choose, agree_follow, agree_while, agree_special}
use Rattle.characters.proofs.AgreeQuoted.{agree_quoted}
use Rattle.characters.proofs.Quote.{char_quoted_is}

-- the arm of a class that is chosen by a test
arm_cond : (t : Bool) (x y b : ℕ) → arm (cond t x y) b ≡ choose t (arm x b) (arm y b)
arm_cond true x y b = refl
arm_cond false x y b = refl

-- a match in a match is one match
trivia_flat : (x y z w : Bool) (f g h k o : LexRule)
    → choose (x || (y || (z || w))) (choose x f (choose y g (choose z h k))) o ≡ choose x f (choose y g (choose z h (choose w k o)))
trivia_flat true y z w f g h k o = refl
trivia_flat false true z w f g h k o = refl
trivia_flat false false true w f g h k o = refl
trivia_flat false false false true f g h k o = refl
trivia_flat false false false false f g h k o = refl

identifier_flat : (x y : Bool) (f g o : LexRule) → (x ≡ true → y ≡ false) → choose (x || y) (choose y f g) o ≡ choose x g (choose y f o)
identifier_flat true y f g o v = rw (v refl)
identifier_flat false true f g o v = refl
identifier_flat false false f g o v = refl

no_dollar : (b : ℕ) → letter b ≡ true → eqb b 36 ≡ false
no_dollar b l = by_test (eqb b 36) refl
  where
    by_test : (t : Bool) → eqb b 36 ≡ t → t ≡ false
    by_test true e = absurd (true≢false (sym l ∙ ap letter (eqb-true b 36 e)))
    by_test false e = refl

-- the classes of the lexer's definition choose what the match of lexer.rs chooses
next_match : (b : ℕ) → next b ≡ char_match b (stray b)
unfolding next class punctuation char_match
next_match b =
    simp arm_cond
    (rw (char_quoted_is, trivia_flat, identifier_flat (letter b) (eqb b 36) special (lex_while Ident word) _ (no_dollar b))
    (unfold arm in refl))

-- the runs of lexer.rs: in-line goes on over every number from 0x80 on, the others stop
module _ (k : ℕ) where
  run_blank : Agrees (lex_while k blank)
  run_blank = agree_while k blank false no_blank

  run_word : Agrees (lex_while k word)
  run_word = agree_while k word false no_word

  run_decimal : Agrees (lex_while k decimal)
  run_decimal = agree_while k decimal false no_decimal

  run_hex : Agrees (lex_while k hex)
  run_hex = agree_while k hex false no_hex

  run_binary : Agrees (lex_while k binary)
  run_binary = agree_while k binary false no_binary

  run_in_line : Agrees (lex_while k in_line)
  run_in_line = agree_while k in_line true all_in_line

agree_comment : Agrees comment
agree_comment = search (agree_follow, run_in_line)

agree_number : (c : ℕ) → Agrees (lex_number c)
agree_number c = search (agree_choose, agree_follow, run_decimal, run_hex, run_binary) depth 8

agree_char_quoted : Agrees (char_quoted false true)
agree_char_quoted = rw char_quoted_is (agree_quoted true)

agree_match : (c : ℕ) → Agrees (char_match c (lex_one Error))
unfolding char_match
agree_match c =
    search (agree_one, agree_choose, agree_follow, run_blank, run_word, agree_comment, agree_number, agree_special, agree_char_quoted)
    depth 40

-- a character that is its own byte
stray_ascii : (c : ℕ) → c < 0x80 → stray c ≡ lex_one Error
unfolding stray
stray_ascii c h =
    ap {B = LexRule} (λ (n : ℕ) (r : List ℕ). record { kind = Error; more = length (take (pred n) r) }) (width_one c (omega arith))

pub next_ascii : (c : ℕ) → c < 0x80 → (r : List ℕ) → next c (encode_all r) ≡ spelled (char_next c r) r
unfolding char_next
next_ascii c h r =
    ap (λ (f : LexRule). f (encode_all r)) (next_match c)
    ∙ ap (λ (f : LexRule). char_match c f (encode_all r)) (stray_ascii c h)
    ∙ (agree_match c).agrees r

-- the first byte of any other, and the bytes behind it: one stray character
pub next_wide : (b : ℕ) (bs s : List ℕ) → 0x80 ≤ b → width b ≡ suc (length bs)
    → next b (bs ++ s) ≡ record { kind = Error; more = length bs }
unfolding stray
next_wide b bs s h n =
    ap (λ (f : LexRule). f (bs ++ s)) (next_match b ∙ match_other b h (stray b))
    ∙ rw (n, take-append_seam)

pub char_next_wide : (c : ℕ) (r : List ℕ) → 0x80 ≤ c → char_next c r ≡ lex_one Error r
unfolding char_next
char_next_wide c r h = ap (λ (f : LexRule). f r) (match_other c h (lex_one Error))
