-- A token as the grammar reads it: its kind and, for an Ident, its word, as the number kind + MARK * word.
-- The sixteen words that the parser compares with are numbered from 1; any other text is word 0.
-- Assumes nothing: these are definitions.
use Rattle.std.specs.Prelude.{ℕ, suc, ◌+◌, ◌*◌, Bool, cond, List, [], ◌∷◌, eqb, ltb, drop}
use Rattle.lexer.specs.Syntax.{Ident}
use Rattle.lexer.specs.Lexer.{same}
use Rattle.grammar.specs.declared.words.Word.{Word}
use Rattle.grammar.specs.declared.words.Word.TheVariants as word

abbrev pub Sym : Type 0
Sym = ℕ

-- The file: its tokens. What is left of it at token i.
abbrev pub File : Type 0
File = List Sym

abbrev pub from : File → ℕ → List Sym
from F i = drop i F

-- Above every kind: what rides on a kind is multiplied by it.
abbrev pub MARK : ℕ
MARK = 256

-- The Ident that is the word w.
abbrev pub key : ℕ → Sym
key w = Ident + MARK * w

-- The number of a word; `use` and `extern` never reach the grammar.
abbrev pub word_number : Word → ℕ
word_number word.AdvMap = 1
word_number word.Begin = 2
word_number word.Const = 3
word_number word.Do = 4
word_number word.Else = 5
word_number word.End = 6
word_number word.Enum = 7
word_number word.If = 8
word_number word.Mod = 9
word_number word.Namespace = 10
word_number word.Package = 11
word_number word.Proc = 12
word_number word.Pub = 13
word_number word.Repeat = 14
word_number word.Type = 15
word_number word.While = 16
word_number word.Use = 17
word_number word.Extern = 18

abbrev pub ADV_MAP : Sym
ADV_MAP = key 1

abbrev pub BEGIN : Sym
BEGIN = key 2

abbrev pub CONST : Sym
CONST = key 3

abbrev pub DO : Sym
DO = key 4

abbrev pub ELSE : Sym
ELSE = key 5

abbrev pub END : Sym
END = key 6

abbrev pub ENUM : Sym
ENUM = key 7

abbrev pub IF : Sym
IF = key 8

abbrev pub MOD : Sym
MOD = key 9

abbrev pub NAMESPACE : Sym
NAMESPACE = key 10

abbrev pub PACKAGE : Sym
PACKAGE = key 11

abbrev pub PROC : Sym
PROC = key 12

abbrev pub PUB : Sym
PUB = key 13

abbrev pub REPEAT : Sym
REPEAT = key 14

abbrev pub TYPE : Sym
TYPE = key 15

abbrev pub WHILE : Sym
WHILE = key 16

-- The words' texts, in the order of their numbers.
unfoldable pub words : List (List ℕ)
words =
    (97 ∷ 100 ∷ 118 ∷ 95 ∷ 109 ∷ 97 ∷ 112 ∷ []) ∷  -- adv_map
    (98 ∷ 101 ∷ 103 ∷ 105 ∷ 110 ∷ []) ∷  -- begin
    (99 ∷ 111 ∷ 110 ∷ 115 ∷ 116 ∷ []) ∷  -- const
    (100 ∷ 111 ∷ []) ∷  -- do
    (101 ∷ 108 ∷ 115 ∷ 101 ∷ []) ∷  -- else
    (101 ∷ 110 ∷ 100 ∷ []) ∷  -- end
    (101 ∷ 110 ∷ 117 ∷ 109 ∷ []) ∷  -- enum
    (105 ∷ 102 ∷ []) ∷  -- if
    (109 ∷ 111 ∷ 100 ∷ []) ∷  -- mod
    (110 ∷ 97 ∷ 109 ∷ 101 ∷ 115 ∷ 112 ∷ 97 ∷ 99 ∷ 101 ∷ []) ∷  -- namespace
    (112 ∷ 97 ∷ 99 ∷ 107 ∷ 97 ∷ 103 ∷ 101 ∷ []) ∷  -- package
    (112 ∷ 114 ∷ 111 ∷ 99 ∷ []) ∷  -- proc
    (112 ∷ 117 ∷ 98 ∷ []) ∷  -- pub
    (114 ∷ 101 ∷ 112 ∷ 101 ∷ 97 ∷ 116 ∷ []) ∷  -- repeat
    (116 ∷ 121 ∷ 112 ∷ 101 ∷ []) ∷  -- type
    (119 ∷ 104 ∷ 105 ∷ 108 ∷ 101 ∷ []) ∷  -- while
    []

-- The number of the text t among texts that are numbered from n; 0 if it is none of them.
unfoldable pub number_in : ℕ → List (List ℕ) → List ℕ → ℕ
number_in n [] t = 0
number_in n (w ∷ ws) t = cond (same w t) n (number_in (suc n) ws t)

unfoldable pub word_of : List ℕ → ℕ
word_of t = number_in 1 words t

-- A token of the lexer, as the grammar reads it.
unfoldable pub sym_of : ℕ → List ℕ → Sym
sym_of kind text = cond (eqb Ident kind) (key (word_of text)) kind

-- The kind of a token, and its event: 60 stands for Error, the one kind of token below 27.
abbrev pub kind_of : Sym → ℕ
kind_of s = cond (ltb s MARK) s Ident

abbrev pub event_of : ℕ → ℕ
event_of k = cond (ltb k 27) 60 k

-- The token is this one; is one of these.
abbrev pub is : Sym → Sym → Bool
is k s = eqb k s
