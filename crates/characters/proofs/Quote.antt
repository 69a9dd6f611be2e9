-- The loop of lex_quoted as lexer.rs has it is `quoted` of the lexer's definition, which carries along whether a backslash stands before.
-- Assumes nothing.
use Rattle.std.specs.Prelude.{ℕ, ◌≡◌, refl, Bool, true, false, not, ◌&&◌, ◌||◌, cond, List, [], ◌∷◌, eqb}
use Rattle.std.proofs.Common.{ap, true≢false, eqb-true}
use Rattle.std.proofs.Math.Path.{fun_ext}
use Rattle.std.proofs.Math.Bool.{and-false, and-true}
use Rattle.lexer.specs.Syntax.{QuotedIdent, QuotedString}
use Rattle.lexer.specs.Chars.{line_end, graphic}
use Rattle.lexer.specs.Lexer.{later, quoted}
use Rattle.characters.specs.CharLexer.{char_quoted, char_escaped}

-- with a backslash before a quote is not identifier-like
closing : (e i : Bool) → e && i ≡ false → ◌≡◌ {A = ℕ} (cond (e || not i) QuotedString QuotedIdent) (cond i QuotedIdent QuotedString)
closing true true v = absurd (true≢false v)
closing true false v = refl
closing false true v = refl
closing false false v = refl

still : (e i g : Bool) → e && i ≡ false → e && (i && g) ≡ false
still true i g v = rw v
still false i g v = refl

-- at the head of the loop, and behind a backslash
record Same (cs : List ℕ) : Type 0 where
  plain : (e i : Bool) → e && i ≡ false → char_quoted e i cs ≡ quoted false i cs
  behind : char_escaped cs ≡ quoted true false cs

-- a character is no backslash and quote at once
one_of : (c : ℕ) → eqb c 92 ≡ true → eqb c 34 ≡ false
one_of c e = rw (eqb-true c 92 e)

same_quoted : (cs : List ℕ) → Same cs
unfolding char_quoted quoted
same_quoted [] = record { plain = λ e i v. refl; behind = refl }
same_quoted (c ∷ r) = by_rest (same_quoted r)
  where
    by_rest : Same r → Same (c ∷ r)
    by_rest s = record {
      plain = λ e i v. by_tests e i v (line_end c) (eqb c 92) (eqb c 34) refl refl refl;
      behind = ap later (s.plain true false refl);
    }
      where
        by_tests : (e i : Bool) → e && i ≡ false → (l b q : Bool) → line_end c ≡ l → eqb c 92 ≡ b → eqb c 34 ≡ q
            → char_quoted e i (c ∷ r) ≡ quoted false i (c ∷ r)
        by_tests e i v true b q x y z = rw x
        by_tests e i v false true q x y z = rw (x, y, one_of c y, and-false (graphic c), and-false i) (ap later s.behind)
        by_tests e i v false false true x y z = rw (x, y, z, closing e i v)
        by_tests e i v false false false x y z =
            rw (x, y, z, and-true (graphic c)) (ap later (s.plain e (i && graphic c) (still e i (graphic c) v)))

-- lex_quoted, behind the opening quote
pub char_quoted_is : char_quoted false true ≡ quoted false true
char_quoted_is = fun_ext (λ cs. (same_quoted cs).plain false true refl)
