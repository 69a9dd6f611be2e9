-- What a parser function does: it takes tokens from the front of what is left, and puts out trees and diagnostics.
-- Defines: start_node and finish_node (in_node), bump (take_token), error_here and error_at_eof (err), and the loops.
-- Assumes nothing: these are definitions.
use Rattle.std.specs.Prelude.{ℕ, zero, suc, length, Bool, true, false, List, [], ◌∷◌, ◌++◌}
use Rattle.lexer.specs.Syntax
use Rattle.grammar.specs.Words.{Sym}

-- The kinds of nodes that the kept parser opens, and their numbers.
pub data Kind : Type 0 where
  Error SourceFile Doc Namespace Submodule Constant TypeDecl AdviceMap BeginBlock Procedure Attribute : Kind
  Visibility Signature Block IfOp WhileOp DoWhileOp RepeatOp Instruction Path Expr TypeBody : Kind

abbrev pub num : Kind → ℕ
num Error = Syntax.Error
num SourceFile = Syntax.SourceFile
num Doc = Syntax.Doc
num Namespace = Syntax.Namespace
num Submodule = Syntax.Submodule
num Constant = Syntax.Constant
num TypeDecl = Syntax.TypeDecl
num AdviceMap = Syntax.AdviceMap
num BeginBlock = Syntax.BeginBlock
num Procedure = Syntax.Procedure
num Attribute = Syntax.Attribute
num Visibility = Syntax.Visibility
num Signature = Syntax.Signature
num Block = Syntax.Block
num IfOp = Syntax.IfOp
num WhileOp = Syntax.WhileOp
num DoWhileOp = Syntax.DoWhileOp
num RepeatOp = Syntax.RepeatOp
num Instruction = Syntax.Instruction
num Path = Syntax.Path
num Expr = Syntax.Expr
num TypeBody = Syntax.TypeBody

-- The output, in order: a token, a node with its children, or a diagnostic by its number, which stands at the next token (at the end: at
-- the file's end).
pub data Forest : Type 0 where
  nil : Forest
  leaf : Sym → Forest → Forest
  node : Kind → Forest → Forest → Forest
  say : ℕ → Forest → Forest

infixr 66 ◌<>◌
abbrev pub ◌<>◌ : Forest → Forest → Forest
nil <> y = y
leaf s x <> y = leaf s (x <> y)
node k c x <> y = node k c (x <> y)
say m x <> y = say m (x <> y)

abbrev pub leaves : Forest → List Sym
leaves nil = []
leaves (leaf s x) = s ∷ leaves x
leaves (node k c x) = leaves c ++ leaves x
leaves (say m x) = leaves x

pub record Res (A : Type 0) : Type 0 where
  pub rest : List Sym
  pub out : Forest
  pub val : A

abbrev pub P : Type 0 → Type 0
P A = List Sym → Res A

module _ {A : Type 0} where
  unfoldable pub pure : A → P A
  pure a r = record { rest = r; out = nil; val = a }

  -- A lookahead.
  unfoldable pub peek : (List Sym → A) → P A
  peek t r = record { rest = r; out = nil; val = t r }

  -- start_node .. finish_node
  unfoldable pub in_node : Kind → P A → P A
  in_node k f r = let x = f r in record { rest = x.rest; out = node k x.out nil; val = x.val }

  abbrev pub pick : Bool → P A → P A → P A
  pick true f g = f
  pick false f g = g

module _ {A B : Type 0} where
  infixr 10 ◌>>=◌ ◌>>◌
  unfoldable pub ◌>>=◌ : P A → (A → P B) → P B
  ◌>>=◌ f g r = let x = f r in let y = g x.val x.rest in record { rest = y.rest; out = x.out <> y.out; val = y.val }

  abbrev pub ◌>>◌ : P A → P B → P B
  f >> g = f >>= λ a. g

infixr 5 when◌then◌else◌
abbrev pub when◌then◌else◌ : {A : Type 0} → (List Sym → Bool) → P A → P A → P A
when t then f else g = peek t >>= λ u. pick u f g

-- bump
unfoldable pub take_token : P Bool
take_token [] = record { rest = []; out = nil; val = false }
take_token (s ∷ r) = record { rest = r; out = leaf s nil; val = true }

-- error_here, error_at_eof, of the message's number
unfoldable pub err : ℕ → P Bool
err m r = record { rest = r; out = say m nil; val = true }

-- Said only where a loop's fuel ran out, or where a keyword is missing that is always there: never (Theorems.Rounds).
abbrev pub m_never : ℕ
m_never = 0

-- loop { .. }: a round says whether there is another. By fuel: one more round than there are tokens left.
unfoldable pub repeat : ℕ → P Bool → P Bool
repeat zero f r = (err m_never >> pure false) r
repeat (suc n) f r = (f >>= λ c. pick c (repeat n f) (pure false)) r

unfoldable pub loop : P Bool → P Bool
loop f r = repeat (suc (length r)) f r

-- A loop that takes token by token, with locals of type L. What one round decides: the loop ends, or the token is taken, perhaps with a
-- diagnostic first, and the locals are these.
pub data Round (L : Type 0) : Type 0 where
  stop : Round L
  go : L → Round L
  warn : ℕ → L → Round L

module _ {L : Type 0} where
  abbrev pub turn : Round L → L → Sym → List Sym → (L → Res L) → Res L
  turn stop l s r k = record { rest = s ∷ r; out = nil; val = l }
  turn (go l') l s r k = let x = k l' in record { rest = x.rest; out = leaf s x.out; val = x.val }
  turn (warn m l') l s r k = let x = k l' in record { rest = x.rest; out = say m (leaf s x.out); val = x.val }

  unfoldable pub scan : (L → List Sym → Round L) → L → P L
  scan step l [] = record { rest = []; out = nil; val = l }
  scan step l (s ∷ r) = turn (step l (s ∷ r)) l s r (λ l'. scan step l' r)
