-- What the code's values stand for.
-- Assumes nothing: these are definitions.
use Rattle.std.specs.Prelude.{◌≡◌, Bool, true, false, not, ◌&&◌, ◌||◌, cond, List, [], ◌∷◌, ℕ, ◌+◌, ◌<◌, ◌≤◌, eqb, get_or, drop, length, Option, MatchOption}
use Rattle.lexer.specs.declared.lexer.Token.{Token}
use Rattle.lexer.specs.declared.state.Lexer.{Lexer}
use Rattle.lexer.specs.declared.quoted.Ending.{Ending}
use Rattle.lexer.specs.declared.quoted.Ending.TheVariants.{Closed, Line, File}
use Rattle.lexer.specs.declared.syntax.SyntaxKind.{SyntaxKind}
use Rattle.lexer.specs.declared.class.Class.{Class}
use Rattle.lexer.specs.declared.class.Class.TheVariants as class
use Rattle.lexer.specs.Syntax.{kind_number, Error, Whitespace, Comment, SpecialIdent, QuotedIdent, QuotedString, Colon, Dot, Minus, Slash}
use Rattle.lexer.specs.Chars.{graphic, Cr, Letter, Digit}
use Rattle.lexer.specs.Lexer.{Lexeme, LexRule, same, kernel, exec, quoted, next}

-- the number of a class
abbrev pub class_number : Class → ℕ
class_number class.Letter = Letter
class_number class.Digit = Digit
class_number class.Blank = Whitespace
class_number class.Cr = Cr
class_number class.Comment = Comment
class_number class.Special = SpecialIdent
class_number class.Quote = QuotedIdent
class_number class.Colon = Colon
class_number class.Dot = Dot
class_number class.Minus = Minus
class_number class.Slash = Slash
class_number (class.Single k) = kind_number k
class_number class.Stray = Error

-- whether `next` has an arm for the class of this number; any other class is one byte
abbrev pub has_arm : ℕ → Bool
has_arm k =
    eqb k Whitespace
    || (eqb k Cr
    || (eqb k Comment
    || (eqb k Letter
    || (eqb k SpecialIdent
    || (eqb k Digit
    || (eqb k QuotedIdent
    || (eqb k Colon
    || (eqb k Dot
    || (eqb k Minus
    || (eqb k Slash
    || eqb k Error))))))))))

-- no Single stands for a kind that has an arm of its own
abbrev pub is_alone : Class → Bool
is_alone (class.Single k) = not (has_arm (kind_number k))
is_alone class.Letter = true
is_alone class.Digit = true
is_alone class.Blank = true
is_alone class.Cr = true
is_alone class.Comment = true
is_alone class.Special = true
is_alone class.Quote = true
is_alone class.Colon = true
is_alone class.Dot = true
is_alone class.Minus = true
is_alone class.Slash = true
is_alone class.Stray = true

-- A token's kind, by its number, and where it ends.
pub record Placed : Type 0 where
  pub kind : ℕ
  pub end : ℕ

abbrev pub token_of : Token → Placed
token_of t = record { kind = kind_number t.kind; end = t.end }

-- the token whose second byte has the offset n
abbrev pub placed : ℕ → Lexeme → Placed
placed n t = record { kind = t.kind; end = n + t.more }

-- The rest of a token, from the offset on, as the rule has it: its kind, and the offset behind it.
pub record Lexed (f : LexRule) (s : Lexer) (k : SyntaxKind) (t : Lexer) : Type 0 where
  pub source_is : t.source.now ≡ s.source.now
  pub token_is : ◌≡◌ {A = Placed} (record { kind = kind_number k; end = t.offset }) (placed s.offset (f (drop s.offset s.source.now)))

-- So many bytes further as n counts of those that are left.
pub record Advanced (n : List ℕ → ℕ) (s t : Lexer) : Type 0 where
  pub source_is : t.source.now ≡ s.source.now
  pub offset_is : t.offset ≡ s.offset + n (drop s.offset s.source.now)

-- A call of the iterator: the token at the offset, and the offset behind it; none at the end.
abbrev pub NextToken : Lexer → Option Token → Lexer → Type 0
NextToken s r t =
    MatchOption r
    ((length s.source.now ≤ s.offset) × (t ≡ s))
    (λ token. (s.offset < length s.source.now)
    × (token_of token ≡ placed (s.offset + 1) (next (get_or s.source.now s.offset 0) (drop (s.offset + 1) s.source.now)))
    × (t.source.now ≡ s.source.now)
    × (t.offset ≡ token.end))

-- A test answers as p does, at each byte.
abbrev pub AnswersAs : (ℕ → Bool) → (ℕ → Bool → Type 0) → Type 0
AnswersAs p post = (b : ℕ) (r : Bool) → post b r → r ≡ p b

-- the kind of a token that is `$` and this text
unfoldable pub special_kind : List ℕ → ℕ
special_kind text = cond (same text kernel || same text exec) SpecialIdent Error

-- current_char() == Some(x)
unfoldable pub starts_with : ℕ → List ℕ → Bool
starts_with x [] = false
starts_with x (b ∷ r) = eqb b x

-- if self.current_char() == Some(x) { self.advance_char(); }: whether it was, and a byte further if so.
pub record AdvanceIf (x : ℕ) (s : Lexer) (r : Bool) (t : Lexer) : Type 0 where
  pub found_is : r ≡ starts_with x (drop s.offset s.source.now)
  pub source_is : t.source.now ≡ s.source.now
  pub offset_is : t.offset ≡ s.offset + cond r 1 0

-- identifier_like, one byte on
abbrev pub kept : Bool → ℕ → Bool
kept i b = i && (graphic b && not (eqb b 92))

-- a quote that ended so has this kind
abbrev pub quote_kind : Ending → ℕ
quote_kind (Closed i) = cond i QuotedIdent QuotedString
quote_kind Line = Error
quote_kind File = Error

-- what the rest of a quote comes to, from the offset on
abbrev pub quote_rest : Lexer → (taken identifier_like : Bool) → Placed
quote_rest s t i = placed s.offset (quoted t i (drop s.offset s.source.now))

-- A quote whose body starts at the offset ended so, and the offset is behind it. The source stays.
abbrev pub Quote : Lexer → Ending → Lexer → Type 0
Quote s e t = (t.source.now ≡ s.source.now) × (◌≡◌ {A = Placed} (record { kind = quote_kind e; end = t.offset }) (quote_rest s false true))

abbrev pub other_than : ℕ → ℕ → Bool
other_than x b = not (eqb b x)

-- p holds of the n bytes from `at` on
abbrev pub AllHold : (ℕ → Bool) → List ℕ → ℕ → ℕ → Type 0
AllHold p s at n = (k : ℕ) → k < n → p (get_or s (at + k) 0) ≡ true
