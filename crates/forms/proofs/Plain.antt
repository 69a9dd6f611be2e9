-- A token that is taken at one look, and an instruction that ends at one or two. Assumes nothing.
use Prim.Native.Nat.{ℕ, ◌+◌, ◌<◌}
use lib.ListN.{length, drop}
use mathlib.Core.Bool.{Bool, true, false, false≢true, cond, not, ◌&&◌, ◌||◌, and-false}
use mathlib.Core.List.{List, [], ◌∷◌}
use mathlib.Core.Path.{◌≡◌, refl, sym, ap, ap₂, subst, ◌∙◌}
use Rattle.std.specs.Prelude.{Option, Some, None, is_some}
use borrow.Author.Tests.{eqb-true, ne_eqb}
use lib.Dec.{eqb}
use Rattle.lexer.specs.Syntax.{Error, Whitespace, Newline, Comment, DocComment, Dot, Equal, Comma, DotDot, DotDotDot, Colon, ColonColon, RArrow, Plus, Minus, Star, Slash, SlashSlash, LBrace, LBracket, LParen, RBrace, RBracket, RParen}
use Rattle.grammar.specs.Words.{Sym, File, is}
use Rattle.grammar.specs.Look.{one_of, at, current, skip, is_trivia, expects_continuation_operand, punctuation_continues_instruction}
use Rattle.grammar.specs.Out.{kind}
use Rattle.grammar.specs.Run.{go}
use Rattle.grammar.specs.Nesting.{default, is_root, bump_by, bump_nesting, counted}
use Rattle.grammar.specs.Instruction.{instruction_round, expects_operand, should_continue_instruction_after_whitespace, should_stop_instruction_before}
use Rattle.parser.specs.Sets.{bit, bits_are, each_of}
use Rattle.forms.specs.Instruction.{instruction_ends, behind, plain_kinds, plain_punctuation, open_behind}
use Rattle.parser.proofs.Ahead.{at_here}
use Rattle.parser.proofs.Laws.{rest_cons, at_within, at_by}
use Rattle.forms.proofs.At.{line_end, or_off}
use Rattle.forms.proofs.Rounds.{instruction_locals, instruction_counts}

-- kinds of which more than `previous` depends
abbrev special : List Sym
special = Whitespace ∷ Newline ∷ Comment ∷ DocComment ∷ LParen ∷ LBracket ∷ LBrace ∷ RParen ∷ RBracket ∷ RBrace ∷ Error ∷ []

abbrev ordinary : Sym → Bool
ordinary k = not (one_of special k)

-- what is taken behind any token is plain
open_plain : (previous : Option Sym) (k : Sym) → bit (open_behind previous) k ≡ true → bit plain_kinds k ≡ true
unfolding open_behind bit
open_plain None k b = b
open_plain (Some p) k b = by_test (expects_continuation_operand p) b
  where
    by_test : (u : Bool) → bit (cond u plain_kinds plain_punctuation) k ≡ true → bit plain_kinds k ≡ true
    by_test true b = b
    by_test false b = each_of plain_punctuation (bit plain_kinds) k tt b

open_ordinary : (previous : Option Sym) (k : Sym) → bit (open_behind previous) k ≡ true → ordinary k ≡ true
unfolding one_of
open_ordinary previous k b = each_of plain_kinds ordinary k tt (open_plain previous k b)

-- the token is its own event
pub open_own : (previous : Option Sym) (k : Sym) → bit (open_behind previous) k ≡ true → k ≡ kind k
open_own previous k b = eqb-true k (kind k) (each_of plain_kinds (λ i. eqb i (kind i)) k tt (open_plain previous k b))

-- behind a token that expects no operand
open_continues : (k : Sym) → bit plain_punctuation k ≡ true → punctuation_continues_instruction k ≡ true
unfolding one_of
open_continues k b = each_of plain_punctuation punctuation_continues_instruction k tt b

-- a kind that is special, and one that is not
apart : (x k : Sym) → ordinary x ≡ false → ordinary k ≡ true → is x k ≡ false
apart x k s o = ne_eqb x k (λ e. false≢true (sym s ∙ ap ordinary e ∙ o))

module _ (k : Sym) (o : ordinary k ≡ true) where
  unchanged : (r : List Sym) → bump_nesting default k (instruction_locals r) ≡ go (instruction_locals r default)
  unfolding bump_nesting bump_by counted one_of
  unchanged r = rw (apart LParen k refl o, apart LBracket k refl o, apart LBrace k refl o, apart RParen k refl o, apart RBracket k refl o, apart RBrace k refl o)

  no_trivia : is_trivia k ≡ false
  unfolding one_of
  no_trivia = rw (apart Whitespace k refl o, apart Newline k refl o, apart Comment k refl o, apart DocComment k refl o)

  -- nor does the instruction end before it
  goes_on_by : (previous : Option Sym) (r : List Sym) → bit (open_behind previous) k ≡ true → instruction_ends previous default (k ∷ r) ≡ false
  unfolding instruction_ends at one_of should_stop_instruction_before is_root expects_operand open_behind
  goes_on_by None r b = rw (apart Whitespace k refl o, apart Newline k refl o, apart Comment k refl o, apart DocComment k refl o)
  goes_on_by (Some p) r b = by_test (expects_continuation_operand p) refl b
    where
      by_test : (u : Bool) → expects_continuation_operand p ≡ u → bit (cond u plain_kinds plain_punctuation) k ≡ true
          → instruction_ends (Some p) default (k ∷ r) ≡ false
      by_test true e b = rw (apart Whitespace k refl o, apart Newline k refl o, apart Comment k refl o, apart DocComment k refl o, e)
      by_test false e b = rw (apart Whitespace k refl o, apart Newline k refl o, apart Comment k refl o, apart DocComment k refl o, e, open_continues k b)

pub not_error : (previous : Option Sym) (k : Sym) → bit (open_behind previous) k ≡ true → k ≡ 1 → ⊥
unfolding one_of
not_error previous k b e = false≢true (ap ordinary (sym e) ∙ open_ordinary previous k b)

-- nor is it Tombstone, which stands for no token
pub plain_here : (previous : Option Sym) (r : List Sym) {k : ℕ} → k ≡ current r → bit (open_behind previous) k ≡ true → at (bit plain_kinds) r ≡ true
unfolding bit
plain_here previous r c b = sym (at_by (bit plain_kinds) r refl (sym (open_plain previous _ b)) c)

pub plain_round : (previous : Option Sym) (r : List Sym) (k : ℕ) → k ≡ current r → bit (open_behind previous) k ≡ true
    → instruction_round (behind previous) r ≡ go (behind (Some k))
unfolding current at
plain_round previous [] k c b = absurd (false≢true (plain_here previous [] c b))
plain_round previous (s ∷ r) k c b =
    let l = behind previous in
    let b' = subst (λ i. bit (open_behind previous) i ≡ true) c b in
    let o = open_ordinary previous s b' in
    instruction_counts l (s ∷ r) refl (goes_on_by s o previous r b') (no_trivia s o) ∙ unchanged s o (s ∷ r) ∙ ap (λ i. go (behind (Some i))) (sym c)

-- ---- the end of an instruction, outside delimiters
pub ends_at_line : (previous : Option Sym) (r : List Sym) → at (one_of (Newline ∷ Comment ∷ DocComment ∷ [])) r ≡ true → instruction_ends previous default r ≡ true
unfolding instruction_ends at one_of is_root
ends_at_line previous [] e = absurd (false≢true e)
ends_at_line previous (s ∷ r) e = by_test (is Whitespace s) refl
  where
    by_test : (u : Bool) → is Whitespace s ≡ u → instruction_ends previous default (s ∷ r) ≡ true
    by_test true q = absurd (false≢true (ap (one_of (Newline ∷ Comment ∷ DocComment ∷ [])) (eqb-true Whitespace s q) ∙ e))
    by_test false q = rw (q, e)

-- what an instruction may go on with behind one Whitespace
abbrev goes_on : ℕ
goes_on = 0xef61fc008000000

goes_on_is : (k : Sym) → bit goes_on k ≡ (is Whitespace k || punctuation_continues_instruction k)
unfolding one_of
goes_on_is k =
    bits_are goes_on
    (Whitespace ∷ Dot ∷ Equal ∷ Comma ∷ DotDot ∷ DotDotDot ∷ Colon ∷ ColonColon ∷ RArrow ∷ Plus ∷ Minus ∷ Star ∷ Slash ∷ SlashSlash ∷ RBracket ∷ RParen ∷ RBrace ∷ [])
    k tt tt

none_behind : (r : List Sym) → bit goes_on (current r) ≡ false → at punctuation_continues_instruction (skip (is Whitespace) r) ≡ false
unfolding at skip current
none_behind [] e = refl
none_behind (s ∷ r) e =
    let o = or_off (is Whitespace s) _ (sym (goes_on_is s) ∙ e) in
    ap (λ (u : Bool). at punctuation_continues_instruction (elim u [ true ↦ skip (is Whitespace) r | false ↦ s ∷ r ])) o.0 ∙ o.1

module _ (previous : Option Sym) (s : Sym) (r : List Sym) (w : is Whitespace s ≡ true) (o : expects_operand previous ≡ false) (e : bit goes_on (current r) ≡ false) where
  no_more : should_continue_instruction_after_whitespace previous default (s ∷ r) ≡ false
  unfolding should_continue_instruction_after_whitespace is_root skip
  no_more =
      let n = ap (λ (u : Bool). at punctuation_continues_instruction (elim u [ true ↦ skip (is Whitespace) r | false ↦ s ∷ r ])) w ∙ none_behind r e in
      ap₂ (λ x y. is_some previous && (x || y)) o n ∙ and-false (is_some previous)

  ends_behind : instruction_ends previous default (s ∷ r) ≡ true
  unfolding instruction_ends at
  ends_behind = rw w (ap not no_more)

module _ (F : File) (p : ℕ) {k : Sym} (c : k ≡ current (drop p F)) (w : k ≡ Whitespace) where
  space_here : at (is Whitespace) (drop p F) ≡ true
  space_here = at_here Whitespace _ refl c w

  pub space_within : p < length F
  space_within = at_within F p (is Whitespace) refl space_here

  pub ends_at_space : (previous : Option Sym) {j : Sym} → expects_operand previous ≡ false → j ≡ current (drop (p + 1) F) → bit goes_on j ≡ false
      → instruction_ends previous default (drop p F) ≡ true
  unfolding at
  ends_at_space previous o n g =
      let q = rest_cons F p space_within in
      ap (instruction_ends previous default) q ∙ ends_behind previous _ _ (sym (ap (at (is Whitespace)) q) ∙ space_here) o (ap (bit goes_on) (sym n) ∙ g)

pub ruleset ends_plainly = (line_end, ends_at_line, space_within, ends_at_space)
