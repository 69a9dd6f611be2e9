-- What is handed out: the events of a forest, its diagnostics by token index, and their places in bytes.
-- A token of kind Error is reported as it is taken. A diagnostic at index T, behind the last token, stands at the end of the file.
-- Assumes nothing: these are definitions.
use Rattle.std.specs.Prelude.{ℕ, zero, suc, ◌+◌, Bool, true, false, List, [], ◌∷◌, ◌++◌, map, length}
use Rattle.lexer.specs.Syntax
use Rattle.grammar.specs.Words.{Sym, is, kind_of, event_of}
use Rattle.grammar.specs.Run.{SourceFile, num, Forest, nil, leaf, node, say, leaves}
use Rattle.grammar.specs.Message.{Message, number}
use Rattle.grammar.specs.Item.{parse}

-- ---- Events: 0 closes a node, 1 to 26 opens that node, 27 to 59 is a token of that kind, 60 a token of kind Error.
-- An Ident's event does not say which word it is.
abbrev pub kind : Sym → ℕ
kind s = event_of (kind_of s)

abbrev pub ev : Forest → List ℕ
ev nil = []
ev (leaf s x) = kind s ∷ ev x
ev (node k c x) = num k ∷ (ev c ++ 0 ∷ ev x)
ev (say m x) = ev x

unfoldable pub events : ℕ → List Sym → List ℕ
events limit a = num SourceFile ∷ (ev (parse limit a) ++ 0 ∷ [])

-- ---- Diagnostics: the message's number, and the index of the token that it stands at.
pub record Diag : Type 0 where
  pub msg : ℕ
  pub pos : ℕ

-- unrecognized token
abbrev pub noted : Bool → ℕ → List Diag → List Diag
noted true i l = record { msg = number Message.UnrecognizedToken; pos = i } ∷ l
noted false i l = l

abbrev pub dg : ℕ → Forest → List Diag
dg i nil = []
dg i (leaf s x) = noted (is Syntax.Error s) i (dg (suc i) x)
dg i (node k c x) = dg i c ++ dg (i + length (leaves c)) x
dg i (say m x) = record { msg = m; pos = i } ∷ dg i x

unfoldable pub diags : ℕ → List Sym → List Diag
diags limit a = dg 0 (parse limit a)

-- ---- Places: message, start and end, in bytes.
pub record Place : Type 0 where
  pub msg : ℕ
  pub start : ℕ
  pub stop : ℕ

-- Token i of the tokens that start at s and have these ends; behind the last, the end-of-file anchor.
abbrev pub place : ℕ → List ℕ → ℕ → ℕ → ℕ → Place
place m [] s anchor i = record { msg = m; start = anchor; stop = anchor }
place m (e ∷ es) s anchor zero = record { msg = m; start = s; stop = e }
place m (e ∷ es) s anchor (suc i) = place m es e anchor i

-- By the tokens' ends and the anchor: the offset of the last character, 0 in an empty file.
abbrev pub places : List ℕ → ℕ → List Diag → List Place
places ends anchor l = map (λ d. place d.msg ends 0 anchor d.pos) l
