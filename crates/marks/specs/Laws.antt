-- Laws of the marks, for the layers above: the plain kinds come back, and what joined sources come to.
-- Assumes nothing.
use Rattle.std.specs.Prelude.{Option, None, Some, ℕ, zero, suc, ◌+◌, ◌*◌, ◌<◌, ◌≡◌, refl, Bool, true, false, cond, List, [], ◌∷◌, ◌++◌, map, eqb, length}
use Rattle.std.specs.Option.{option_or}
use Rattle.std.proofs.Common.{sym, ap, subst, ◌∙◌, arith, add-zero, add_assoc, lt-ltb, le-ltb, eqb-true, length-append}
use Rattle.std.proofs.lemmas.List.{map-append}
use Rattle.lexer.specs.Syntax.{Ident, Newline}
use Rattle.lexer.specs.Lexer.{Token, tokenize}
use Rattle.lexer.specs.Tokens.{token_kinds}
use Rattle.lexer.specs.Tokens
use Rattle.lexer.specs.Laws.{Every, token_bytes, last, lossless}
use Rattle.lexer.specs.Join.{join}
use Rattle.grammar.specs.Words.{MARK, key, word_of, sym_of, kind_of}
use Rattle.grammar.specs.Source.{syms}
use Rattle.grammar.specs.Source
use Rattle.marks.specs.Marks.{is_refused, first_refused}
use Rattle.lexer.specs.Kinds.{low_kinds}
use Rattle.marks.specs.Code.{text_number, number_of, mark, symbol_mark}

-- a key has the kind of an Ident, and a kind is its own
kind_of_key : (w : ℕ) → kind_of (key w) ≡ Ident
kind_of_key zero = refl
kind_of_key (suc w) = rw (le-ltb (key (suc w)) MARK (omega arith))

kind_again : (k w : ℕ) → k < 60 → kind_of (cond (eqb Ident k) (key w) k) ≡ k
kind_again k w h = by_test (eqb Ident k) refl
  where
    by_test : (t : Bool) → eqb Ident k ≡ t → kind_of (cond t (key w) k) ≡ k
    by_test true e = kind_of_key w ∙ eqb-true Ident k e
    by_test false e = rw (lt-ltb k MARK (omega arith))

kind_of_sym : (t : Token) → t.kind < 60 → kind_of (Source.token_symbol t) ≡ t.kind
unfolding sym_of
kind_of_sym t h = kind_again t.kind (word_of t.text) h

-- a mark is a key or a kind too, where a token may be refused
mark_is : (t : Token) → mark t ≡ cond (eqb Ident t.kind) (key (text_number t.text)) t.kind
unfolding number_of
mark_is t = by_test (eqb Ident t.kind) refl
  where
    by_test : (u : Bool) → eqb Ident t.kind ≡ u → t.kind + MARK * cond u (text_number t.text) 0 ≡ cond u (key (text_number t.text)) t.kind
    by_test true e = omega (arith, eqb-true Ident t.kind e)
    by_test false e = omega arith

kind_of_mark : (t : Token) → t.kind < 60 → kind_of (mark t) ≡ t.kind
kind_of_mark t h = ap kind_of (mark_is t) ∙ kind_again t.kind (text_number t.text) h

-- taking the marks off gives the plain kinds, where f says what is written for a token
plain_again : (f : Token → ℕ) → ((t : Token) → t.kind < 60 → kind_of (f t) ≡ t.kind) → (ts : List Token) → Every (λ t. t.kind < 60) ts
    → map kind_of (map f ts) ≡ map Tokens.token_kind ts
plain_again f e [] h = refl
plain_again f e (t ∷ ts) h = rw (e t h.0, plain_again f e ts h.1)

pub source_unmarked : (s : List ℕ) → map kind_of (syms (tokenize s)) ≡ token_kinds s
source_unmarked s = plain_again Source.token_symbol kind_of_sym (tokenize s) (low_kinds s)

pub marks_unmarked : (s : List ℕ) → map kind_of (map mark (tokenize s)) ≡ token_kinds s
marks_unmarked s = plain_again mark kind_of_mark (tokenize s) (low_kinds s)

syms_append : (xs ys : List Token) → syms (xs ++ ys) ≡ syms xs ++ syms ys
syms_append xs ys = map-append _ xs ys

-- What an answer says: no token is refused, or the first refused one starts at m, behind others that are not.
abbrev pub NotRefused : Token → Type 0
NotRefused t = is_refused t ≡ false

pub record FirstRefused (n : ℕ) (ts : List Token) (m : ℕ) : Type 0 where
  pub before : List Token
  pub token : Token
  pub behind : List Token
  pub split : ts ≡ before ++ token ∷ behind
  pub kept : Every NotRefused before
  pub refused : is_refused token ≡ true
  pub start : m ≡ n + length (token_bytes before)

abbrev pub Says : Option ℕ → ℕ → List Token → Type 0
Says None n ts = Every NotRefused ts
Says (Some m) n ts = FirstRefused n ts m

longer : (r : Option ℕ) (n : ℕ) (t : Token) (ts : List Token) → NotRefused t → Says r (n + length t.text) ts → Says r n (t ∷ ts)
longer None n t ts e h = (e, h)
longer (Some m) n t ts e h = record {
  before = t ∷ h.before;
  token = h.token;
  behind = h.behind;
  split = ap (λ (l : List Token). t ∷ l) h.split;
  kept = (e, h.kept);
  refused = h.refused;
  start = omega (arith, h.start, length-append t.text (token_bytes h.before));
}

pub says : (n : ℕ) (ts : List Token) → Says (first_refused n ts) n ts
unfolding first_refused
says n [] = tt
says n (t ∷ ts) = by_test (is_refused t) refl (says (n + length t.text) ts)
  where
    rest : Option ℕ
    rest = first_refused (n + length t.text) ts

    by_test : (u : Bool) → is_refused t ≡ u → Says rest (n + length t.text) ts → Says (cond u (Some n) rest) n (t ∷ ts)
    by_test true e h = record { before = []; token = t; behind = ts; split = refl; kept = tt; refused = e; start = sym (add-zero n) }
    by_test false e h = longer rest n t ts e h

-- where no token is refused, the marks are the tokens as the grammar reads them
symbols_of : (ts : List Token) → Every NotRefused ts → map mark ts ≡ syms ts
symbols_of [] h = refl
symbols_of (t ∷ ts) h = rw (sym (symbol_mark t.kind t.text h.0).symbol, symbols_of ts h.1)

pub all_marked : (ts : List Token) → first_refused 0 ts ≡ None → map mark ts ≡ syms ts
all_marked ts e = symbols_of ts (subst (λ (r : Option ℕ). Says r 0 ts) e (says 0 ts))

pub none_refused : (n : ℕ) (ts : List Token) → Every NotRefused ts → first_refused n ts ≡ None
unfolding first_refused
none_refused n [] h = refl
none_refused n (t ∷ ts) h = rw h.0 (none_refused (n + length t.text) ts h.1)

-- moved on by m
abbrev pub moved : ℕ → Option ℕ → Option ℕ
moved m None = None
moved m (Some n) = Some (m + n)

pub first_append : (n : ℕ) (xs ys : List Token) → first_refused n (xs ++ ys) ≡ option_or (first_refused n xs) (first_refused (n + length (token_bytes xs)) ys)
unfolding first_refused
first_append n [] ys = ap (λ (k : ℕ). first_refused k ys) (sym (add-zero n))
first_append n (t ∷ xs) ys =
    by_test (is_refused t) _ _ _
    (first_append (n + length t.text) xs ys
    ∙ ap (λ (k : ℕ). option_or (first_refused (n + length t.text) xs) (first_refused k ys)) (omega (arith, length-append t.text (token_bytes xs))))
  where
    by_test : (u : Bool) (p q r : Option ℕ) → p ≡ option_or q r → cond u (Some n) p ≡ option_or (cond u (Some n) q) r
    by_test true p q r h = refl
    by_test false p q r h = h

pub first_moved : (m n : ℕ) (ts : List Token) → first_refused (m + n) ts ≡ moved m (first_refused n ts)
unfolding first_refused
first_moved m n [] = refl
first_moved m n (t ∷ ts) =
    by_test (is_refused t) _ _ (ap (λ (k : ℕ). first_refused k ts) (add_assoc m n (length t.text)) ∙ first_moved m (n + length t.text) ts)
  where
    by_test : (u : Bool) (p q : Option ℕ) → p ≡ moved m q → cond u (Some (m + n)) p ≡ moved m (cond u (Some n) q)
    by_test true p q h = refl
    by_test false p q h = h

-- Joined sources, A's last token a newline that ends in LF: the first refused token is A's, else B's moved on by A's length.
pub join_refused : (a b : List ℕ) → last 0 (token_kinds a) ≡ Newline → last 0 a ≡ 10
    → first_refused 0 (tokenize (a ++ b)) ≡ option_or (first_refused 0 (tokenize a)) (moved (length a) (first_refused 0 (tokenize b)))
join_refused a b p q =
    ap (first_refused 0) (join a b p q)
    ∙ first_append 0 (tokenize a) (tokenize b)
    ∙ ap (λ (k : ℕ). option_or (first_refused 0 (tokenize a)) (first_refused k (tokenize b))) (omega (arith, ap length (lossless a)))
    ∙ ap (option_or (first_refused 0 (tokenize a))) (first_moved (length a) 0 (tokenize b))

pub join_none_refused : (a b : List ℕ) → last 0 (token_kinds a) ≡ Newline → last 0 a ≡ 10
    → first_refused 0 (tokenize a) ≡ None → first_refused 0 (tokenize b) ≡ None → first_refused 0 (tokenize (a ++ b)) ≡ None
join_none_refused a b p q e f = join_refused a b p q ∙ rw (e, f)

pub join_syms : (a b : List ℕ) → last 0 (token_kinds a) ≡ Newline → last 0 a ≡ 10 → syms (tokenize (a ++ b)) ≡ syms (tokenize a) ++ syms (tokenize b)
join_syms a b p q = ap syms (join a b p q) ∙ syms_append (tokenize a) (tokenize b)
