-- Laws of the tokens, for the layers above: each has a byte or more, their bytes in order are the source, their ends rise, and
-- the last end is the source's length.
-- Assumes nothing.
use Rattle.std.specs.Prelude.{ℕ, zero, suc, ◌+◌, ◌≤◌, ◌<◌, ◌≡◌, refl, Bool, true, false, ◌&&◌, List, [], ◌∷◌, ◌++◌, eqb, length, take, drop}
use Rattle.std.proofs.Common.{zero-le, suc-le-suc, sym, ap, ap₂, ◌∙◌, arith, add-zero, eqb-true, length-append, take-append-drop}
use Rattle.std.proofs.lemmas.Bool.{false≢true}
use Rattle.lexer.specs.Lexer.{Token, same, next, tokens, tokenize}
use Rattle.lexer.specs.Tokens.{ends, token_ends}

-- the token that a byte starts, before r
abbrev pub token : ℕ → List ℕ → Token
token b r = record { kind = (next b r).kind; text = b ∷ take (next b r).more r }

-- passing over bytes
pub tokens_skip : (k : ℕ) (s : List ℕ) → tokens k s ≡ tokenize (drop k s)
unfolding tokens tokenize
tokens_skip zero [] = refl
tokens_skip (suc k) [] = refl
tokens_skip zero (b ∷ r) = refl
tokens_skip (suc k) (b ∷ r) = tokens_skip k r

pub tokenize_nil : tokenize [] ≡ []
unfolding tokens tokenize
tokenize_nil = refl

-- the equation of `tokenize`: a token, and the tokens behind it
pub tokenize_cons : (b : ℕ) (r : List ℕ) → tokenize (b ∷ r) ≡ token b r ∷ tokenize (drop (next b r).more r)
unfolding tokens tokenize
tokenize_cons b r = ap (λ (ts : List Token). token b r ∷ ts) (tokens_skip (next b r).more r)

abbrev pub Every : (Token → Type 0) → List Token → Type 0
Every P [] = Unit {0}
Every P (t ∷ ts) = P t × Every P ts

abbrev pub Filled : Token → Type 0
Filled t = 0 < length t.text

filled : (k : ℕ) (s : List ℕ) → Every Filled (tokens k s)
unfolding tokens
filled zero [] = tt
filled (suc k) [] = tt
filled zero (b ∷ r) = (suc-le-suc zero-le, filled (next b r).more r)
filled (suc k) (b ∷ r) = filled k r

-- every token has at least one byte
pub every_filled : (s : List ℕ) → Every Filled (tokenize s)
unfolding tokenize
every_filled s = filled 0 s

-- the bytes of tokens, in order
abbrev pub token_bytes : List Token → List ℕ
token_bytes [] = []
token_bytes (t ∷ ts) = t.text ++ token_bytes ts

bytes_rest : (k : ℕ) (s : List ℕ) → token_bytes (tokens k s) ≡ drop k s
unfolding tokens
bytes_rest zero [] = refl
bytes_rest (suc k) [] = refl
bytes_rest zero (b ∷ r) =
    let m = (next b r).more in
    ap (λ (l : List ℕ). b ∷ (take m r ++ l)) (bytes_rest m r) ∙ ap (λ (l : List ℕ). b ∷ l) (take-append-drop m r)
bytes_rest (suc k) (b ∷ r) = bytes_rest k r

-- the tokens' bytes in order are the source
pub lossless : (s : List ℕ) → token_bytes (tokenize s) ≡ s
unfolding tokenize
lossless s = bytes_rest 0 s

-- numbers that rise, from above n on
abbrev pub Rising : ℕ → List ℕ → Type 0
Rising n [] = Unit {0}
Rising n (e ∷ l) = (n < e) × Rising e l

-- the last number; d of none
abbrev pub last : ℕ → List ℕ → ℕ
last d [] = d
last d (x ∷ l) = last x l

ends_rise : (n : ℕ) (ts : List Token) → Every Filled ts → Rising n (ends n ts)
unfolding ends
ends_rise n [] h = tt
ends_rise n (t ∷ ts) h = (omega arith, ends_rise (n + length t.text) ts h.1)

ends_last : (n : ℕ) (ts : List Token) → last n (ends n ts) ≡ n + length (token_bytes ts)
unfolding ends
ends_last n [] = sym (add-zero n)
ends_last n (t ∷ ts) = ends_last (n + length t.text) ts ∙ omega (arith, length-append t.text (token_bytes ts))

-- the ends rise, and the last is the source's length
pub rising : (s : List ℕ) → Rising 0 (token_ends s)
rising s = ends_rise 0 (tokenize s) (every_filled s)

pub last_end : (s : List ℕ) → last 0 (token_ends s) ≡ length s
last_end s = ends_last 0 (tokenize s) ∙ omega (arith, ap length (lossless s))

pub length_ends : (n : ℕ) (ts : List Token) → length (ends n ts) ≡ length ts
unfolding ends
length_ends n [] = refl
length_ends n (t ∷ ts) = ap suc (length_ends (n + length t.text) ts)

fewer : (k : ℕ) (s : List ℕ) → length (tokens k s) ≤ length s
unfolding tokens
fewer zero [] = zero-le
fewer (suc k) [] = zero-le
fewer zero (b ∷ r) = suc-le-suc (fewer (next b r).more r)
fewer (suc k) (b ∷ r) = let h = fewer k r in omega arith

-- no more tokens than bytes
pub few_tokens : (s : List ℕ) → length (tokenize s) ≤ length s
unfolding tokenize
few_tokens s = fewer 0 s

-- `same` says that two texts are the same
pub same_equal : (a b : List ℕ) → same a b ≡ true → a ≡ b
unfolding same
same_equal [] [] e = refl
same_equal [] (y ∷ b) e = absurd (false≢true e)
same_equal (x ∷ a) [] e = absurd (false≢true e)
same_equal (x ∷ a) (y ∷ b) e = by_test (eqb x y) refl e (same_equal a b)
  where
    by_test : (t : Bool) → eqb x y ≡ t → t && same a b ≡ true → (same a b ≡ true → a ≡ b) → x ∷ a ≡ y ∷ b
    by_test true h f again = ap₂ ◌∷◌ (eqb-true x y h) (again f)
    by_test false h f again = absurd (false≢true f)
