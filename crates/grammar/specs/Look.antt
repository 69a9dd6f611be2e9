-- Lookahead: each function reads what is left of the file, as a list. Where the Rust hands out an index, `Option<usize>`, the list that
-- starts there stands for it, and [] for None; where it goes on at index + 1, `past` is the list behind its first token.
-- Defines: current, eof, at_kind, at_keyword, at_regular_trivia, at_name_like, next_relevant_top_level_token, next_relevant_block_token,
-- peek_after_inline_whitespace, peek_after_non_comment_trivia, next_token_after_visibility, at_prefixed_keyword, is_top_level_starter,
-- at_top_level_form_starter, at_top_level_form_starter_in_block, line_break_starts_new_top_level_item, at_bare_while, at_terminator,
-- at_control_flow_operation, can_start_instruction, can_start_operation, is_reserved_block_keyword, block_recovery_boundary,
-- at_block_recovery_boundary, expects_continuation_operand, punctuation_continues_instruction.
-- Assumes nothing: these are definitions.
use Rattle.std.specs.Prelude.{Bool, true, false, not, ◌&&◌, ◌||◌, List, [], ◌∷◌, eqb}
use Rattle.lexer.specs.Syntax.{Tombstone, Whitespace, Newline, Comment, DocComment, Ident, SpecialIdent, QuotedIdent, At, Colon, ColonColon, Comma, Dot, DotDot, DotDotDot, Equal, LBrace, LBracket, LParen, Minus, Plus, RArrow, RBrace, RBracket, RParen, Slash, SlashSlash, Star}
use Rattle.grammar.specs.Words.{Sym, is, kind_of, ADV_MAP, BEGIN, CONST, DO, ELSE, END, ENUM, IF, MOD, NAMESPACE, PROC, PUB, REPEAT, TYPE, WHILE}
use Rattle.grammar.specs.declared.block.Terminators.{Terminators}

unfoldable pub one_of : List Sym → Sym → Bool
one_of [] s = false
one_of (k ∷ ks) s = is k s || one_of ks s

-- ---- Classes of tokens.
abbrev pub regular_trivia : Sym → Bool
regular_trivia = one_of (Whitespace ∷ Newline ∷ Comment ∷ [])

abbrev pub is_trivia : Sym → Bool
is_trivia = one_of (Whitespace ∷ Newline ∷ Comment ∷ DocComment ∷ [])

abbrev pub non_comment_trivia : Sym → Bool
non_comment_trivia = one_of (Whitespace ∷ Newline ∷ [])

-- An Ident of any word, a SpecialIdent or a QuotedIdent.
unfoldable pub name_like : Sym → Bool
name_like s = eqb Ident (kind_of s) || one_of (SpecialIdent ∷ QuotedIdent ∷ []) s

abbrev pub is_reserved_block_keyword : Sym → Bool
is_reserved_block_keyword = one_of (ADV_MAP ∷ BEGIN ∷ CONST ∷ DO ∷ ELSE ∷ END ∷ ENUM ∷ IF ∷ MOD ∷ NAMESPACE ∷ PROC ∷ PUB ∷ REPEAT ∷ TYPE ∷ WHILE ∷ [])

abbrev pub expects_continuation_operand : Sym → Bool
expects_continuation_operand = one_of (Dot ∷ Equal ∷ Comma ∷ DotDot ∷ DotDotDot ∷ Colon ∷ ColonColon ∷ RArrow ∷ Plus ∷ Minus ∷ Star ∷ Slash ∷ SlashSlash ∷ LBracket ∷ LParen ∷ LBrace ∷ [])

abbrev pub punctuation_continues_instruction : Sym → Bool
punctuation_continues_instruction = one_of (Dot ∷ Equal ∷ Comma ∷ DotDot ∷ DotDotDot ∷ Colon ∷ ColonColon ∷ RArrow ∷ Plus ∷ Minus ∷ Star ∷ Slash ∷ SlashSlash ∷ RBracket ∷ RParen ∷ RBrace ∷ [])

-- ---- The current token.
-- The current token; where there is none, no token's kind.
unfoldable pub current : List Sym → Sym
current [] = Tombstone
current (s ∷ r) = s

-- It is there, and such.
unfoldable pub at : (Sym → Bool) → List Sym → Bool
at p [] = false
at p (s ∷ r) = p s

unfoldable pub eof : List Sym → Bool
eof [] = true
eof (s ∷ r) = false

abbrev pub at_kind : Sym → List Sym → Bool
at_kind k = at (is k)

abbrev pub at_keyword : Sym → List Sym → Bool
at_keyword k = at (is k)

abbrev pub at_regular_trivia : List Sym → Bool
at_regular_trivia = at regular_trivia

abbrev pub at_name_like : List Sym → Bool
at_name_like = at name_like

abbrev pub control_flow : Sym → Bool
control_flow = one_of (IF ∷ DO ∷ WHILE ∷ REPEAT ∷ [])

abbrev pub at_control_flow_operation : List Sym → Bool
at_control_flow_operation = at control_flow

unfoldable pub starts_instruction : Sym → Bool
starts_instruction s = name_like s && not (is_reserved_block_keyword s)

abbrev pub can_start_instruction : List Sym → Bool
can_start_instruction = at starts_instruction

unfoldable pub can_start_operation : List Sym → Bool
can_start_operation r = can_start_instruction r || at_control_flow_operation r

-- ---- The tokens after it.
-- The list from its first token that is not p.
unfoldable pub skip : (Sym → Bool) → List Sym → List Sym
skip p [] = []
skip p (s ∷ r) = elim (p s) [ true ↦ skip p r | false ↦ s ∷ r ]

-- The list behind its first token, where that is p; else [].
unfoldable pub past : (Sym → Bool) → List Sym → List Sym
past p [] = []
past p (s ∷ r) = elim (p s) [ true ↦ r | false ↦ [] ]

abbrev pub anyone : Sym → Bool
anyone s = true

abbrev pub next_relevant_top_level_token : List Sym → List Sym
next_relevant_top_level_token r = skip regular_trivia r

abbrev pub next_relevant_block_token : List Sym → List Sym
next_relevant_block_token r = skip is_trivia r

-- A newline or a comment behind the whitespace is None in the Rust: it is no kind that a caller asks for.
abbrev pub peek_after_inline_whitespace : List Sym → List Sym
peek_after_inline_whitespace r = skip (is Whitespace) r

abbrev pub peek_after_non_comment_trivia : List Sym → List Sym
peek_after_non_comment_trivia r = skip non_comment_trivia r

-- Of the list behind `pub`; inside the parentheses stands any one token.
unfoldable pub next_token_after_visibility : List Sym → List Sym
next_token_after_visibility r =
    let next = next_relevant_top_level_token r in
    elim (at_kind LParen next) [
      | true ↦ next_relevant_top_level_token (past (is RParen) (next_relevant_top_level_token (past anyone (next_relevant_top_level_token (past (is LParen) next)))))
      | false ↦ next
    ]

-- at_prefixed_keyword("pub", ..), for any of these keywords
unfoldable pub at_prefixed_keyword : List Sym → List Sym → Bool
at_prefixed_keyword ks r = at_keyword PUB r && at (one_of ks) (next_token_after_visibility (past (is PUB) r))

unfoldable pub is_top_level_starter : List Sym → Bool
is_top_level_starter r =
    at (one_of (DocComment ∷ At ∷ ADV_MAP ∷ BEGIN ∷ CONST ∷ ENUM ∷ MOD ∷ NAMESPACE ∷ PROC ∷ TYPE ∷ [])) r
    || at_prefixed_keyword (CONST ∷ ENUM ∷ MOD ∷ PROC ∷ TYPE ∷ []) r

abbrev pub at_top_level_form_starter : List Sym → Bool
at_top_level_form_starter = is_top_level_starter

-- ---- In a block.
unfoldable pub at_top_level_form_starter_in_block : List Sym → Bool
at_top_level_form_starter_in_block r = elim (at_kind DocComment r) [
  | true ↦ is_top_level_starter (next_relevant_block_token (past (is DocComment) r))
  | false ↦ at_top_level_form_starter r
]

unfoldable pub at_bare_while : List Sym → Bool
at_bare_while r = at_keyword WHILE r && not (at_kind Dot (past (is WHILE) r))

unfoldable pub at_terminator : Terminators → List Sym → Bool
at_terminator Terminators.End r = at_keyword END r
at_terminator Terminators.ElseEnd r = at (one_of (ELSE ∷ END ∷ [])) r
at_terminator Terminators.While r = at_bare_while r

-- block_recovery_boundary's test for Else; its other is at_top_level_form_starter_in_block.
unfoldable pub at_stray_else : Terminators → List Sym → Bool
at_stray_else Terminators.End r = at_keyword ELSE r
at_stray_else Terminators.ElseEnd r = false
at_stray_else Terminators.While r = at_keyword ELSE r

unfoldable pub at_block_recovery_boundary : List Sym → Bool
at_block_recovery_boundary r = at_keyword ELSE r || at_top_level_form_starter_in_block r

-- ---- On a line.
-- At a newline: the file ends behind it, or an item starts.
unfoldable pub line_break_starts_new_top_level_item : List Sym → Bool
line_break_starts_new_top_level_item r =
    let next = next_relevant_top_level_token (past (is Newline) r) in
    eof next || is_top_level_starter next

-- At whitespace: an item starts behind it.
unfoldable pub space_before_top_level_item : List Sym → Bool
space_before_top_level_item r = is_top_level_starter (next_relevant_top_level_token (past (is Whitespace) r))
