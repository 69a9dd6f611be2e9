-- syntax.rs: the kinds, numbered in the order of `SyntaxKind`. Nodes are 1 to 26, tokens 27 to 59; a token may also be Error.
-- Assumes nothing: these are definitions.
use Rattle.std.specs.Prelude.{ℕ}
use Rattle.lexer.specs.declared.syntax.SyntaxKind.{SyntaxKind}
use Rattle.lexer.specs.declared.syntax.SyntaxKind.TheVariants as kind

abbrev pub Tombstone : ℕ
Tombstone = 0

abbrev pub Error : ℕ
Error = 1

abbrev pub SourceFile : ℕ
SourceFile = 2

abbrev pub Doc : ℕ
Doc = 3

abbrev pub Namespace : ℕ
Namespace = 4

abbrev pub ExternPackage : ℕ
ExternPackage = 5

abbrev pub Submodule : ℕ
Submodule = 6

abbrev pub Import : ℕ
Import = 7

abbrev pub ImportList : ℕ
ImportList = 8

abbrev pub ImportSpecifier : ℕ
ImportSpecifier = 9

abbrev pub Constant : ℕ
Constant = 10

abbrev pub TypeDecl : ℕ
TypeDecl = 11

abbrev pub AdviceMap : ℕ
AdviceMap = 12

abbrev pub BeginBlock : ℕ
BeginBlock = 13

abbrev pub Procedure : ℕ
Procedure = 14

abbrev pub Attribute : ℕ
Attribute = 15

abbrev pub Visibility : ℕ
Visibility = 16

abbrev pub Signature : ℕ
Signature = 17

abbrev pub Block : ℕ
Block = 18

abbrev pub IfOp : ℕ
IfOp = 19

abbrev pub WhileOp : ℕ
WhileOp = 20

abbrev pub DoWhileOp : ℕ
DoWhileOp = 21

abbrev pub RepeatOp : ℕ
RepeatOp = 22

abbrev pub Instruction : ℕ
Instruction = 23

abbrev pub Path : ℕ
Path = 24

abbrev pub Expr : ℕ
Expr = 25

abbrev pub TypeBody : ℕ
TypeBody = 26

abbrev pub Whitespace : ℕ
Whitespace = 27

abbrev pub Newline : ℕ
Newline = 28

abbrev pub Comment : ℕ
Comment = 29

abbrev pub DocComment : ℕ
DocComment = 30

abbrev pub Ident : ℕ
Ident = 31

abbrev pub SpecialIdent : ℕ
SpecialIdent = 32

abbrev pub Number : ℕ
Number = 33

abbrev pub QuotedIdent : ℕ
QuotedIdent = 34

abbrev pub QuotedString : ℕ
QuotedString = 35

abbrev pub At : ℕ
At = 36

abbrev pub Bang : ℕ
Bang = 37

abbrev pub Colon : ℕ
Colon = 38

abbrev pub ColonColon : ℕ
ColonColon = 39

abbrev pub Comma : ℕ
Comma = 40

abbrev pub Dot : ℕ
Dot = 41

abbrev pub DotDot : ℕ
DotDot = 42

abbrev pub DotDotDot : ℕ
DotDotDot = 43

abbrev pub Equal : ℕ
Equal = 44

abbrev pub LAngle : ℕ
LAngle = 45

abbrev pub LBrace : ℕ
LBrace = 46

abbrev pub LBracket : ℕ
LBracket = 47

abbrev pub LParen : ℕ
LParen = 48

abbrev pub Minus : ℕ
Minus = 49

abbrev pub Plus : ℕ
Plus = 50

abbrev pub RAngle : ℕ
RAngle = 51

abbrev pub RArrow : ℕ
RArrow = 52

abbrev pub RBrace : ℕ
RBrace = 53

abbrev pub RBracket : ℕ
RBracket = 54

abbrev pub RParen : ℕ
RParen = 55

abbrev pub Semicolon : ℕ
Semicolon = 56

abbrev pub Slash : ℕ
Slash = 57

abbrev pub SlashSlash : ℕ
SlashSlash = 58

abbrev pub Star : ℕ
Star = 59

-- the number of a kind
abbrev pub kind_number : SyntaxKind → ℕ
kind_number kind.Tombstone = Tombstone
kind_number kind.Error = Error
kind_number kind.SourceFile = SourceFile
kind_number kind.Doc = Doc
kind_number kind.Namespace = Namespace
kind_number kind.ExternPackage = ExternPackage
kind_number kind.Submodule = Submodule
kind_number kind.Import = Import
kind_number kind.ImportList = ImportList
kind_number kind.ImportSpecifier = ImportSpecifier
kind_number kind.Constant = Constant
kind_number kind.TypeDecl = TypeDecl
kind_number kind.AdviceMap = AdviceMap
kind_number kind.BeginBlock = BeginBlock
kind_number kind.Procedure = Procedure
kind_number kind.Attribute = Attribute
kind_number kind.Visibility = Visibility
kind_number kind.Signature = Signature
kind_number kind.Block = Block
kind_number kind.IfOp = IfOp
kind_number kind.WhileOp = WhileOp
kind_number kind.DoWhileOp = DoWhileOp
kind_number kind.RepeatOp = RepeatOp
kind_number kind.Instruction = Instruction
kind_number kind.Path = Path
kind_number kind.Expr = Expr
kind_number kind.TypeBody = TypeBody
kind_number kind.Whitespace = Whitespace
kind_number kind.Newline = Newline
kind_number kind.Comment = Comment
kind_number kind.DocComment = DocComment
kind_number kind.Ident = Ident
kind_number kind.SpecialIdent = SpecialIdent
kind_number kind.Number = Number
kind_number kind.QuotedIdent = QuotedIdent
kind_number kind.QuotedString = QuotedString
kind_number kind.At = At
kind_number kind.Bang = Bang
kind_number kind.Colon = Colon
kind_number kind.ColonColon = ColonColon
kind_number kind.Comma = Comma
kind_number kind.Dot = Dot
kind_number kind.DotDot = DotDot
kind_number kind.DotDotDot = DotDotDot
kind_number kind.Equal = Equal
kind_number kind.LAngle = LAngle
kind_number kind.LBrace = LBrace
kind_number kind.LBracket = LBracket
kind_number kind.LParen = LParen
kind_number kind.Minus = Minus
kind_number kind.Plus = Plus
kind_number kind.RAngle = RAngle
kind_number kind.RArrow = RArrow
kind_number kind.RBrace = RBrace
kind_number kind.RBracket = RBracket
kind_number kind.RParen = RParen
kind_number kind.Semicolon = Semicolon
kind_number kind.Slash = Slash
kind_number kind.SlashSlash = SlashSlash
kind_number kind.Star = Star
