-- `Lexer::behind` meets its contract: at the class of the first byte the definition is that class's arm. Assumes nothing.
use Prim.Native.Nat.{ℕ}
use mathlib.Core.Path.{◌≡◌, refl, sym, ap, ◌∙◌}
use mathlib.Core.Bool.{false}
use mathlib.Core.List.{List}
use lib.ListN.{drop}
use lib.Dec.{eqb}
use Rattle.std.proofs.lemmas.Bool.{or_parts, not-true}
use Rattle.lexer.specs.declared.class.Class.{Class}
use Rattle.lexer.specs.declared.state.Lexer.{Lexer}
use Rattle.lexer.specs.declared.syntax.SyntaxKind.{SyntaxKind}
use Rattle.lexer.specs.Syntax.{Whitespace, Comment, SpecialIdent, QuotedIdent, Colon, Dot, Minus, Slash}
use Rattle.lexer.specs.Chars.{class, blank, word, Cr, Letter, Digit}
use Rattle.lexer.specs.Lexer.{arm, next}
use Rattle.lexer.specs.Code.{Lexed, placed, class_number, has_arm, is_alone}
use Rattle.lexer.proofs.Laws.{one_here}
use Rattle.lexer.proofs.Steps.{by_rule}
use Rattle.lexer.proofs.state.Lexer.behind.Goals as goal

-- the arm of the class k, which the table gives
chosen : (b : ℕ) {r k : Class} {s t : Lexer} {kind : SyntaxKind} → class_number r ≡ class b → r ≡ k → Lexed (arm (class_number k) b) s kind t → Lexed (next b) s kind t
unfolding next
chosen b n e l = by_rule (λ r. ap (λ (j : ℕ). arm j b r) (sym (ap class_number e) ∙ n)) l

-- a class that has no arm: one byte
single : (k b : ℕ) (r : List ℕ) → has_arm k ≡ false → arm k b r ≡ record { kind = k; more = 0 }
unfolding arm
single k b r e =
    let e0 = or_parts (eqb k Whitespace) _ e in
    let e1 = or_parts (eqb k Cr) _ e0.1 in
    let e2 = or_parts (eqb k Comment) _ e1.1 in
    let e3 = or_parts (eqb k Letter) _ e2.1 in
    let e4 = or_parts (eqb k SpecialIdent) _ e3.1 in
    let e5 = or_parts (eqb k Digit) _ e4.1 in
    let e6 = or_parts (eqb k QuotedIdent) _ e5.1 in
    let e7 = or_parts (eqb k Colon) _ e6.1 in
    let e8 = or_parts (eqb k Dot) _ e7.1 in
    let e9 = or_parts (eqb k Minus) _ e8.1 in
    let e10 = or_parts (eqb k Slash) _ e9.1 in
    rw (e0.0, e1.0, e2.0, e3.0, e4.0, e5.0, e6.0, e7.0, e8.0, e9.0, e10.0, e10.1)

pub returns-in-Blank : goal.returns-in-Blank
unfolding arm
returns-in-Blank c = chosen c.args.b c.class_of.ensures.number c.in-Blank.is (c.lex_while.ensures blank (λ b r e. e))

pub returns-in-Cr : goal.returns-in-Cr
unfolding arm
returns-in-Cr c = chosen c.args.b c.class_of.ensures.number c.in-Cr.is c.newline.ensures

pub returns-in-Comment : goal.returns-in-Comment
unfolding arm
returns-in-Comment c = chosen c.args.b c.class_of.ensures.number c.in-Comment.is c.comment.ensures

pub returns-in-Letter : goal.returns-in-Letter
unfolding arm
returns-in-Letter c = chosen c.args.b c.class_of.ensures.number c.in-Letter.is (c.lex_while-in-Letter.ensures word (λ b r e. e))

pub returns-in-Special : goal.returns-in-Special
unfolding arm
returns-in-Special c = chosen c.args.b c.class_of.ensures.number c.in-Special.is c.special.ensures

pub returns-in-Digit : goal.returns-in-Digit
unfolding arm
returns-in-Digit c = chosen c.args.b c.class_of.ensures.number c.in-Digit.is c.lex_number.ensures

pub returns-in-Quote : goal.returns-in-Quote
unfolding arm
returns-in-Quote c = chosen c.args.b c.class_of.ensures.number c.in-Quote.is c.lex_quoted.ensures

pub returns-in-Colon : goal.returns-in-Colon
unfolding arm
returns-in-Colon c = chosen c.args.b c.class_of.ensures.number c.in-Colon.is c.pair.ensures

pub returns-in-Dot : goal.returns-in-Dot
unfolding arm
returns-in-Dot c = chosen c.args.b c.class_of.ensures.number c.in-Dot.is c.dot.ensures

pub returns-in-Minus : goal.returns-in-Minus
unfolding arm
returns-in-Minus c = chosen c.args.b c.class_of.ensures.number c.in-Minus.is c.pair-in-Minus.ensures

pub returns-in-Slash : goal.returns-in-Slash
unfolding arm
returns-in-Slash c = chosen c.args.b c.class_of.ensures.number c.in-Slash.is c.pair-in-Slash.ensures

pub returns-in-Stray : goal.returns-in-Stray
unfolding arm
returns-in-Stray c = chosen c.args.b c.class_of.ensures.number c.in-Stray.is c.stray.ensures

pub returns-in-Single : goal.returns-in-Single
returns-in-Single c =
    let s = c.args.self.now in
    let k = c.in-Single in
    let alone = not-true _ (sym (ap is_alone k.is) ∙ c.class_of.ensures.alone) in
    chosen c.args.b c.class_of.ensures.number k.is
    (record { source_is = refl; token_is = one_here _ s.offset ∙ ap (placed s.offset) (sym (single _ c.args.b (drop s.offset s.source.now) alone)) })
