-- What each set of kinds or words, as bits, is a set of: one computed test each. Assumes nothing.
use mathlib.Core.Bool.{Bool, true, false, ◌||◌, or-false}
use mathlib.Core.List.{List, [], ◌∷◌}
use mathlib.Core.Path.{◌≡◌, refl, sym, ap, ap₂, fun_ext, ◌∙◌}
use Prim.Native.Nat.{◌<◌}
use borrow.Author.Tests.{lt-ltb}
use Rattle.lexer.specs.Syntax.{Whitespace, Newline, Comment, DocComment, Ident, SpecialIdent, QuotedIdent, Number, QuotedString, At, Dot, Equal, Comma, DotDot, DotDotDot, Colon, ColonColon, RArrow, Plus, Minus, Star, Slash, SlashSlash, LBracket, LParen, LBrace, RBracket, RParen, RBrace}
use Rattle.grammar.specs.Words.{Sym, MARK, is}
use Rattle.grammar.specs.Look.{one_of, name_like, regular_trivia, is_trivia, non_comment_trivia, control_flow, is_reserved_block_keyword}
use Rattle.grammar.specs.Look.{expects_continuation_operand, punctuation_continues_instruction}
use Rattle.parser.specs.Ahead.{starter}
use Rattle.parser.specs.Sets.{bit, bits_are, word_bit, keys, word_bits_are, trivia_to, trivia_is}

-- ---- the sets of trivia
module _ (k : Sym) where
  pub regular : trivia_to 29 k ≡ regular_trivia k
  unfolding one_of trivia_to
  regular = trivia_is _ (Whitespace ∷ Newline ∷ Comment ∷ []) k tt tt

  pub any : trivia_to 30 k ≡ is_trivia k
  unfolding one_of trivia_to
  any = trivia_is _ (Whitespace ∷ Newline ∷ Comment ∷ DocComment ∷ []) k tt tt

  non_comment : trivia_to 28 k ≡ non_comment_trivia k
  unfolding one_of trivia_to
  non_comment = trivia_is _ (Whitespace ∷ Newline ∷ []) k tt tt

  space : trivia_to 27 k ≡ is Whitespace k
  unfolding one_of trivia_to
  space = trivia_is _ (Whitespace ∷ []) k tt tt ∙ or-false _

pub ruleset trivia = (regular, any)

-- the same as functions
pub all_regular : trivia_to 29 ≡ regular_trivia
all_regular = fun_ext regular

pub all_any : trivia_to 30 ≡ is_trivia
all_any = fun_ext any

pub all_non_comment : trivia_to 28 ≡ non_comment_trivia
all_non_comment = fun_ext non_comment

pub all_space : trivia_to 27 ≡ is Whitespace
all_space = fun_ext space

pub ruleset all_trivia = (all_regular, all_any, all_non_comment, all_space)

-- ---- the other sets
module _ (k : Sym) where
  pub operands : bit 0xe17dfc000000000 k ≡ expects_continuation_operand k
  unfolding one_of
  operands = bits_are _ (Dot ∷ Equal ∷ Comma ∷ DotDot ∷ DotDotDot ∷ Colon ∷ ColonColon ∷ RArrow ∷ Plus ∷ Minus ∷ Star ∷ Slash ∷ SlashSlash ∷ LBracket ∷ LParen ∷ LBrace ∷ []) k tt tt

  pub punctuation : bit 0xef61fc000000000 k ≡ punctuation_continues_instruction k
  unfolding one_of
  punctuation = bits_are _ (Dot ∷ Equal ∷ Comma ∷ DotDot ∷ DotDotDot ∷ Colon ∷ ColonColon ∷ RArrow ∷ Plus ∷ Minus ∷ Star ∷ Slash ∷ SlashSlash ∷ RBracket ∷ RParen ∷ RBrace ∷ []) k tt tt

  pub literals : bit 0xa00000000 k ≡ one_of (Number ∷ QuotedString ∷ []) k
  unfolding one_of
  literals = bits_are _ (Number ∷ QuotedString ∷ []) k tt tt

  pub names : k < MARK → bit 0x580000000 k ≡ name_like k
  unfolding one_of name_like
  names h = bits_are _ (Ident ∷ SpecialIdent ∷ QuotedIdent ∷ []) k tt tt ∙ rw (lt-ltb k MARK h)

  -- all sixteen words but the eleventh, `package`
  pub reserved : word_bit 0x1f7fe k ≡ is_reserved_block_keyword k
  unfolding one_of
  reserved = word_bits_are _ (1 ∷ 2 ∷ 3 ∷ 4 ∷ 5 ∷ 6 ∷ 7 ∷ 8 ∷ 9 ∷ 10 ∷ 12 ∷ 13 ∷ 14 ∷ 15 ∷ 16 ∷ []) k tt tt

  -- do, if, repeat, while
  pub control : word_bit 0x14110 k ≡ control_flow k
  unfolding one_of
  control = word_bits_are _ (8 ∷ 4 ∷ 16 ∷ 14 ∷ []) k tt tt

  -- one of two, or one of the others
  split : (a b : Sym) (ks : List Sym) → (one_of (a ∷ b ∷ []) k || one_of ks k) ≡ one_of (a ∷ b ∷ ks) k
  unfolding one_of
  split a b ks = by_test (is a k) (is b k)
    where
      by_test : (u v : Bool) → ((u || (v || false)) || one_of ks k) ≡ (u || (v || one_of ks k))
      by_test true v = refl
      by_test false true = refl
      by_test false false = refl

  -- behind DocComment and At: adv_map, begin, const, enum, mod, namespace, proc, type
  starter_is : starter k ≡ (bit 0x1040000000 k || word_bit 0x968e k)
  unfolding one_of
  starter_is =
      let words = 1 ∷ 2 ∷ 3 ∷ 7 ∷ 9 ∷ 10 ∷ 12 ∷ 15 ∷ [] in
      sym (ap₂ ◌||◌ (bits_are _ (DocComment ∷ At ∷ []) k tt tt) (word_bits_are _ words k tt tt) ∙ split DocComment At (keys words))

  pub starts_by_kind : bit 0x1040000000 k ≡ true → starter k ≡ true
  starts_by_kind e = starter_is ∙ ap (λ u. u || word_bit 0x968e k) e

  pub starts_by_word : bit 0x1040000000 k ≡ false → starter k ≡ word_bit 0x968e k
  starts_by_word e = starter_is ∙ ap (λ u. u || word_bit 0x968e k) e

pub ruleset starters = (starts_by_kind, starts_by_word)
