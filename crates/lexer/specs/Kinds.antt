-- The lexer's kinds are below 60.
-- Assumes nothing.
use Rattle.std.specs.Prelude.{ℕ, zero, suc, ◌<◌, ◌≡◌, refl, Bool, true, false, not, cond, ◌&&◌, ◌||◌, List, [], ◌∷◌, eqb, ltb, take}
use Rattle.std.proofs.Common.{ltb-true}
use Rattle.lexer.specs.Syntax.{SpecialIdent, Error, QuotedIdent, QuotedString}
use Rattle.lexer.specs.Chars.{line_end, graphic, word, Letter, Digit, punctuation, class}
use Rattle.lexer.specs.Lexer.{Lexeme, LexRule, lex_one, later, choose, follow, advance_while, lex_while, same, kernel, exec, special, unescaped, quoted, stray, arm, next, tokens, tokenize}
use Rattle.lexer.specs.Laws.{Every}

abbrev low : ℕ → Bool
low k = ltb k 60

record Low (f : LexRule) : Type 0 where
  is : (r : List ℕ) → low (f r).kind ≡ true

low_cond : (t : Bool) (a b : ℕ) → low a ≡ true → low b ≡ true → low (cond t a b) ≡ true
low_cond true a b p q = p
low_cond false a b p q = q

low_one : (k : ℕ) → low k ≡ true → Low (lex_one k)
low_one k e = record { is = λ r. e }

low_while : (k : ℕ) (p : ℕ → Bool) → low k ≡ true → Low (lex_while k p)
unfolding lex_while
low_while k p e = record { is = λ r. e }

low_choose : (t : Bool) {f g : LexRule} → Low f → Low g → Low (choose t f g)
low_choose true p q = p
low_choose false p q = q

low_follow : (x : ℕ) {f g : LexRule} → Low f → Low g → Low (follow x f g)
unfolding follow
low_follow x {f} {g} p q = record { is = go }
  where
    go : (r : List ℕ) → low (follow x f g r).kind ≡ true
    go [] = q.is []
    go (b ∷ r) = side (eqb b x)
      where
        side : (t : Bool) → low (cond t (later (f r)) (g (b ∷ r))).kind ≡ true
        side true = p.is r
        side false = q.is (b ∷ r)

low_special : Low special
unfolding special
low_special =
    record { is = λ r. low_cond (same (take (advance_while word r) r) kernel || same (take (advance_while word r) r) exec) SpecialIdent Error refl refl }

low_unescaped : (l c i : Bool) (t : Lexeme) → low t.kind ≡ true → low (unescaped l c i t).kind ≡ true
low_unescaped true c i t e = refl
low_unescaped false true i t e = low_cond i QuotedIdent QuotedString refl refl
low_unescaped false false i t e = e

low_within : (t i : Bool) (r : List ℕ) → low (quoted t i r).kind ≡ true
unfolding quoted
low_within t i [] = refl
low_within true i (b ∷ r) = low_within false i r
low_within false i (b ∷ r) = low_unescaped (line_end b) (eqb b 34) i _ (low_within (eqb b 92) (i && (graphic b && not (eqb b 92))) r)

low_quoted : (t i : Bool) → Low (quoted t i)
low_quoted t i = record { is = low_within t i }

low_stray : (b : ℕ) → Low (stray b)
unfolding stray
low_stray b = record { is = λ r. refl }

-- Letters and digits have arms of their own, so their classes may be higher.
abbrev classes : ℕ → Bool
classes c = eqb c Letter || (eqb c Digit || low c)

classes_cond : (t : Bool) (a b : ℕ) → classes a ≡ true → classes b ≡ true → classes (cond t a b) ≡ true
classes_cond true a b p q = p
classes_cond false a b p q = q

low_punctuation : (b : ℕ) → classes (punctuation b) ≡ true
unfolding punctuation
low_punctuation b = search classes_cond depth 30

low_class : (b : ℕ) → classes (class b) ≡ true
unfolding class
low_class b = search (classes_cond, low_punctuation) depth 20

-- past a test that fails
low_else : (t : Bool) {f g : LexRule} → Low f → (t ≡ false → Low g) → Low (choose t f g)
low_else true p q = p
low_else false p q = q refl

low_other : (c : ℕ) → classes c ≡ true → eqb c Letter ≡ false → eqb c Digit ≡ false → Low (lex_one c)
low_other c h e f = record { is = λ r. rw (e, f) at h }

low_arm : (c b : ℕ) → classes c ≡ true → Low (arm c b)
unfolding arm
low_arm c b h =
    search (low_other, low_one, low_while, low_else (eqb c Letter), low_else (eqb c Digit), low_choose, low_follow, low_special, low_quoted, low_stray) depth 40

pub low_next : (b : ℕ) (r : List ℕ) → (next b r).kind < 60
unfolding next
low_next b r = ltb-true _ 60 ((low_arm (class b) b (low_class b)).is r)

low_tokens : (k : ℕ) (s : List ℕ) → Every (λ t. t.kind < 60) (tokens k s)
unfolding tokens
low_tokens zero [] = tt
low_tokens (suc k) [] = tt
low_tokens zero (b ∷ r) = (low_next b r, low_tokens (next b r).more r)
low_tokens (suc k) (b ∷ r) = low_tokens k r

pub low_kinds : (s : List ℕ) → Every (λ t. t.kind < 60) (tokenize s)
unfolding tokenize
low_kinds s = low_tokens 0 s
