-- The tail of a line: whitespace, and then a comment or none. Assumes nothing.
use mathlib.Core.Bool.{Bool, true, false}
use mathlib.Core.List.{List, [], ◌∷◌, ◌++◌}
use mathlib.Core.Path.{◌≡◌, refl, sym, ap, subst, ◌∙◌}
use Prim.Native.Nat.{◌+◌}
use lib.ListN.{length}
use Rattle.lexer.specs.Syntax.{Whitespace, Comment}
use Rattle.grammar.specs.Words.{Sym, is}
use Rattle.grammar.specs.Look.{at}
use Rattle.grammar.specs.Run.{Forest, nil, leaf, leaves, Res, P, pure, peek, take_token, scan, ◌>>=◌, ◌>>◌, when◌then◌else◌}
use Rattle.grammar.specs.Bump.{nop, bump_while, while_round}
use Rattle.grammar.specs.Out.{ev, dg}
use Rattle.grammar.specs.State.{run}
use Rattle.parser.specs.Rep.{World, Rep, Small, Ran}
use Rattle.grammar.specs.Line.{tail_round, parse_line_tail}

-- what is taken, and put out
abbrev taken : {A : Type 0} → Res A → List Sym × Forest
taken x = (x.rest, x.out)

-- behind the comment
tail_over : (r : List Sym) → taken (scan tail_round false r) ≡ (r, nil)
unfolding tail_round scan
tail_over [] = refl
tail_over (s ∷ r) = refl

abbrev line_tail : P Bool
line_tail = bump_while (is Whitespace) >> (when at (is Comment) then take_token else nop)

pub tail_is : (r : List Sym) → taken (line_tail r) ≡ taken (parse_line_tail r)
unfolding bump_while while_round parse_line_tail tail_round scan ◌>>=◌ take_token at pure peek
tail_is [] = refl
tail_is (s ∷ r) = by_test (is Whitespace s) refl (is Comment s) refl (tail_is r)
  where
    by_test : (u : Bool) → is Whitespace s ≡ u → (v : Bool) → is Comment s ≡ v → taken (line_tail r) ≡ taken (parse_line_tail r)
        → taken (line_tail (s ∷ r)) ≡ taken (parse_line_tail (s ∷ r))
    by_test true e v f i = rw e (ap (λ (t : List Sym × Forest). (t.0, leaf s t.1)) i)
    by_test false e true f i = rw (e, f) (ap (λ (t : List Sym × Forest). (t.0, leaf s t.1)) (sym (tail_over r)))
    by_test false e false f i = rw (e, f)

-- the same is taken and put out, whatever is answered
pub takes_same : {A B : Type 0} {f : P A} (g : P B) {w w' : World} → ((r : List Sym) → taken (g r) ≡ taken (f r)) → Ran g w w' → Ran f w w'
unfolding run
takes_same {f = f} g {w} {w'} e h = record {
  sim = λ b s r z.
      let q = ap (λ (t : List Sym × Forest). record { rest = t.0; pos = s.pos + length (leaves t.1); evs = s.evs ++ ev t.1; dgs = s.dgs ++ dg s.pos t.1 }) (e s.rest) in
      subst (Rep b w') q (h.sim b s r (subst Small (sym q) z));
  rest = ap (λ t. t.0) (sym (e _)) ∙ h.rest;
  onward = h.onward;
}
