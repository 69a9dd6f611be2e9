-- `Lexer::zero_led` meets its contract, by the byte that follows. Assumes nothing.
use Prim.Native.Nat.{ℕ}
use mathlib.Core.Path.{◌≡◌, refl, sym, ap, ◌∙◌}
use mathlib.Core.Logic.{◌⊎◌, inl, inr}
use mathlib.Core.List.{List, [], ◌∷◌}
use borrow.Author.Rules.{rules}
use borrow.Author.Tests.{ne_eqb}
use lib.ListN.{drop}
use Rattle.lexer.specs.Syntax.{Number}
use Rattle.lexer.specs.Chars.{decimal, hex, binary}
use Rattle.lexer.specs.Lexer.{later, follow, lex_while, zero_led}
use Rattle.lexer.specs.Code.{placed}
use Rattle.lexer.proofs.Laws.{got_some, got_none}
use Rattle.lexer.proofs.Quotes.{moved}
use Rattle.lexer.proofs.state.Lexer.zero_led.Goals as goal
use Rattle.lexer.proofs.state.Lexer.zero_led.Goals.{in_default-via-in-Some+in_default, in_default-via-in_default}

-- what the definition gives, by the byte that follows
module _ (b : ℕ) (r : List ℕ) where
  hexadecimal : (b ≡ 120) ⊎ (b ≡ 88) → zero_led (b ∷ r) ≡ later (lex_while Number hex r)
  unfolding follow
  hexadecimal (inl e) = rw e
  hexadecimal (inr e) = rw e

  in_binary : (b ≡ 98) ⊎ (b ≡ 66) → zero_led (b ∷ r) ≡ later (lex_while Number binary r)
  unfolding follow
  in_binary (inl e) = rw e
  in_binary (inr e) = rw e

  in_decimal : (b ≡ 120 → ⊥) → (b ≡ 88 → ⊥) → (b ≡ 98 → ⊥) → (b ≡ 66 → ⊥) → zero_led (b ∷ r) ≡ lex_while Number decimal (b ∷ r)
  unfolding follow
  in_decimal x X y Y = rw (ne_eqb b 120 x, ne_eqb b 88 X, ne_eqb b 98 y, ne_eqb b 66 Y)

at_end : zero_led [] ≡ lex_while Number decimal []
unfolding follow
at_end = refl

pub returns-in-Some-eq120 : goal.returns-in-Some-eq120
returns-in-Some-eq120 c =
    let l = c.args.self.now in
    let v = c.in-Some-eq120 in
    let g = c.get.ensures.lookup in
    let s = got_some l.source.now l.offset c.get.result v.field-0 g.0 (g.4 (search rules) 0) v.is in
    let run = c.lex_while.ensures hex (λ b r e. e) in
    record {
      source_is = run.source_is;
      token_is = run.token_is ∙ sym (moved _ _) ∙ ap (placed l.offset) (sym (ap zero_led s ∙ hexadecimal _ _ (search rules)));
    }

pub returns-in-Some-eq98 : goal.returns-in-Some-eq98
returns-in-Some-eq98 c =
    let l = c.args.self.now in
    let v = c.in-Some-eq98 in
    let g = c.get.ensures.lookup in
    let s = got_some l.source.now l.offset c.get.result v.field-0 g.0 (g.4 (search rules) 0) v.is in
    let run = c.lex_while-in-Some-eq98.ensures binary (λ b r e. e) in
    record {
      source_is = run.source_is;
      token_is = run.token_is ∙ sym (moved _ _) ∙ ap (placed l.offset) (sym (ap zero_led s ∙ in_binary _ _ (search rules)));
    }

pub returns-in_default : goal.returns-in_default
returns-in_default c =
    let l = c.args.self.now in
    let g = c.get.ensures.lookup in
    let decimal_here : zero_led (drop l.offset l.source.now) ≡ lex_while Number decimal (drop l.offset l.source.now) = elim c.in_default.branch [
      | in_default-via-in-Some+in_default w ↦
          let v = w.in_default in
          let s = got_some l.source.now l.offset c.get.result v.field-0 g.0 (g.4 (search rules) 0) v.is in
          ap zero_led s ∙ in_decimal _ _ (search rules) (search rules) (search rules) (search rules) ∙ ap (lex_while Number decimal) (sym s)
      | in_default-via-in_default w ↦
          let s = got_none l.source.now l.offset c.get.result g.0 w.in_default.is in
          ap zero_led s ∙ at_end ∙ ap (lex_while Number decimal) (sym s)
    ] in
    let run = c.lex_while-in_default.ensures decimal (λ b r e. e) in
    record { source_is = run.source_is; token_is = run.token_is ∙ ap (placed l.offset) (sym decimal_here) }
