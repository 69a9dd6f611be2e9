-- The lookahead in a file that goes on: behind `end` and a newline stand the tokens b of another file.
-- Assumes nothing.
use Rattle.std.proofs.Math.Path.{◌≡◌, refl, ap₂}
use Rattle.std.proofs.Common.{ap}
use Rattle.std.specs.Prelude.{Bool}
use Rattle.std.proofs.Math.Bool.{true, false, not, ◌&&◌}
use mathlib.Core.List.{List, [], ◌∷◌, ◌++◌}
use Rattle.lexer.specs.Syntax.{Dot}
use Rattle.grammar.specs.Words.{Sym, is, END, WHILE}
use Rattle.grammar.specs.Look.{current, one_of, regular_trivia, is_trivia, at, skip, past, at_bare_while}
pub use Rattle.grammar.specs.Joins.{Tail, here, there}

pub tail_nil : Tail [] → ⊥
tail_nil = elim [ ]

pub tail_after : (l : List Sym) {r : List Sym} → Tail r → Tail (l ++ r)
tail_after [] t = t
tail_after (s ∷ l) t = there (tail_after l t)

-- The same file, or a file that ends so.
pub data Cond (b r : List Sym) : Type 0 where
  same : b ≡ [] → Cond b r
  more : Tail r → Cond b r

pub cond_after : {b : List Sym} (l : List Sym) {r : List Sym} → Cond b r → Cond b (l ++ r)
cond_after l (same e) = same e
cond_after l (more t) = more (tail_after l t)

-- Two lists that a lookahead cannot tell apart: r goes on by b, or both are at an end.
pub data Alike (b r r' : List Sym) : Type 0 where
  on : Tail r → r' ≡ r ++ b → Alike b r r'
  off : r ≡ [] → r' ≡ [] → Alike b r r'

-- p is no class of `end`'s.
abbrev pub NotEnd : (Sym → Bool) → Type 0
NotEnd p = p END ≡ false

pub not_end_trivia : NotEnd regular_trivia
unfolding one_of
not_end_trivia = refl

pub not_end_any_trivia : NotEnd is_trivia
unfolding one_of
not_end_any_trivia = refl

module _ (b : List Sym) where
  pub look_at : (p : Sym → Bool) {r r' : List Sym} → Alike b r r' → at p r' ≡ at p r
  unfolding at
  look_at p (on here e) = rw e
  look_at p (on (there t) e) = rw e
  look_at p (off e e') = rw (e, e')

  pub look_current : {r r' : List Sym} → Alike b r r' → current r' ≡ current r
  unfolding current
  look_current (on here e) = rw e
  look_current (on (there t) e) = rw e
  look_current (off e e') = rw (e, e')

  skip_tail : (p : Sym → Bool) → NotEnd p → {r : List Sym} → Tail r → Tail (skip p r) × (skip p (r ++ b) ≡ skip p r ++ b)
  unfolding skip
  skip_tail p e here = rw (e, skip) (here, refl)
  skip_tail p e (there {s} {r} t) =
      elim (p s) as (λ u. Tail (elim u [ true ↦ skip p r | false ↦ s ∷ r ]) × (◌≡◌ {A = List Sym} (elim u [ true ↦ skip p (r ++ b) | false ↦ s ∷ (r ++ b) ]) (elim u [ true ↦ skip p r | false ↦ s ∷ r ] ++ b)))
      [ true ↦ skip_tail p e t | false ↦ (there t, refl) ]

  pub look_skip : (p : Sym → Bool) → NotEnd p → {r r' : List Sym} → Alike b r r' → Alike b (skip p r) (skip p r')
  unfolding skip
  look_skip p h (on t e) = let g = skip_tail p h t in on g.0 (rw e g.1)
  look_skip p h (off e e') = off (rw e) (rw e')

  pub look_past : (p : Sym → Bool) → NotEnd p → {r r' : List Sym} → Alike b r r' → Alike b (past p r) (past p r')
  unfolding past
  look_past p h (on here e) = off (rw (h, past)) (rw (e, h, past))
  look_past p h (on (there {s} {r} t) e) = rw e
      (elim (p s) as (λ u. Alike b (elim u [ true ↦ r | false ↦ [] ]) (elim u [ true ↦ r ++ b | false ↦ [] ]))
      [ true ↦ on t refl | false ↦ off refl refl ])
  look_past p h (off e e') = off (rw e) (rw e')

  pub look_bare_while : {r r' : List Sym} → Alike b r r' → at_bare_while r' ≡ at_bare_while r
  unfolding at_bare_while
  look_bare_while h = ap₂ ◌&&◌ (look_at (is WHILE) h) (ap not (look_at (is Dot) (look_past (is WHILE) refl h)))
