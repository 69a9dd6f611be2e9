-- Where the first Ident `use` or `extern` starts.
-- Assumes nothing: these are definitions.
use Rattle.std.specs.Prelude.{Option, None, Some, ℕ, ◌+◌, Bool, cond, ◌&&◌, ◌||◌, List, [], ◌∷◌, eqb, length}
use Rattle.lexer.specs.Syntax.{Ident}
use Rattle.lexer.specs.Lexer.{Token, same}

abbrev pub use_text : List ℕ
use_text = 117 ∷ 115 ∷ 101 ∷ []

abbrev pub extern_text : List ℕ
extern_text = 101 ∷ 120 ∷ 116 ∷ 101 ∷ 114 ∷ 110 ∷ []

-- An Ident `use` or `extern`.
unfoldable pub is_refused : Token → Bool
is_refused t = eqb Ident t.kind && (same use_text t.text || same extern_text t.text)

-- Where the first refused token starts, the first token starting at n.
unfoldable pub first_refused : ℕ → List Token → Option ℕ
first_refused n [] = None
first_refused n (t ∷ ts) = cond (is_refused t) (Some n) (first_refused (n + length t.text) ts)
