-- What the lexer leaves in the lent slices.
-- Assumes nothing: these are definitions.
use Rattle.std.specs.Prelude.{◌≡◌, List, [], ◌∷◌, map, ℕ, ◌+◌, min, length}
use Rattle.room.specs.Over.{fit}
use Rattle.lexer.specs.Lexer.{Token, tokenize}

-- The most bytes that a source may have (document 01).
abbrev pub MAX_SOURCE : ℕ
MAX_SOURCE = 1048576

abbrev pub token_kind : Token → ℕ
token_kind t = t.kind

-- Where each token ends, the first starting at n: a token starts where the one before ended.
unfoldable pub ends : ℕ → List Token → List ℕ
ends n [] = []
ends n (t ∷ ts) = let e = n + length t.text in e ∷ ends e ts

abbrev pub token_kinds : List ℕ → List ℕ
token_kinds s = map token_kind (tokenize s)

abbrev pub token_ends : List ℕ → List ℕ
token_ends s = ends 0 (tokenize s)

-- Room is the shorter length.
abbrev pub room : List ℕ → List ℕ → ℕ
room kinds ends = min (length kinds) (length ends)

-- f says what is written for a token: its kind, or that and more. All tokens, as far as both slices have room.
pub record TokensFit (f : Token → ℕ) (source kinds ends : List ℕ) (count : ℕ) (kinds' ends' : List ℕ) : Type 0 where
  pub count_is : count ≡ length (tokenize source)
  pub kinds_are : kinds' ≡ fit (room kinds ends) (map f (tokenize source)) kinds
  pub ends_are : ends' ≡ fit (room kinds ends) (token_ends source) ends

abbrev pub Tokenize : (source kinds ends : List ℕ) (count : ℕ) (kinds' ends' : List ℕ) → Type 0
Tokenize = TokensFit token_kind
