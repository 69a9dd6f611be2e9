-- What a quote comes to from an offset on. Assumes nothing.
use Prim.Native.Nat.{ℕ, ◌+◌}
use mathlib.Core.Path.{◌≡◌, refl, sym, ap, ◌∙◌}
use mathlib.Core.Bool.{Bool, true, false, not, ◌&&◌}
use mathlib.Core.List.{List, [], ◌∷◌}
use native.Mathlib.Nat.{add-zero}
use native.Mathlib.Omega.{arith}
use borrow.Author.Tests.{leb-true, ne_eqb}
use lib.Dec.{eqb, leb}
use lib.ListN.{drop}
use lib.Seq.{drop-drop}
use Rattle.std.proofs.lemmas.Bool.{and_parts, not-true}
use Rattle.lexer.specs.Chars.{line_end, graphic, graphic_inside, line_inside}
use Rattle.lexer.specs.Lexer.{Lexeme, later, advance_while, quoted}
use Rattle.lexer.specs.Code.{placed}

pub moved : (at : ℕ) (t : Lexeme) → placed at (later t) ≡ placed (at + 1) t
moved at t = ap (λ (n : ℕ). record { kind = t.kind; end = n }) (omega arith)

-- a byte that is taken and leaves identifier-like as it was
record Passed (i : Bool) (b : ℕ) : Type 0 where
  line : line_end b ≡ false
  quote : eqb b 34 ≡ false
  slash : eqb b 92 ≡ false
  like : i && (graphic b && true) ≡ i

module _ (p : ℕ → Bool) (i : Bool) (f : (b : ℕ) → p b ≡ true → Passed i b) where
  over : (r : List ℕ) (at : ℕ) → placed at (quoted false i r) ≡ placed (at + advance_while p r) (quoted false i (drop (advance_while p r) r))
  unfolding quoted advance_while
  over [] at = ap (λ (n : ℕ). placed n (quoted false i [])) (sym (add-zero at))
  over (b ∷ r) at = by_test (p b) refl (over r (at + 1))
    where
      by_test : (u : Bool) → p b ≡ u → placed (at + 1) (quoted false i r) ≡ placed (at + 1 + advance_while p r) (quoted false i (drop (advance_while p r) r))
          → placed at (quoted false i (b ∷ r)) ≡ placed (at + advance_while p (b ∷ r)) (quoted false i (drop (advance_while p (b ∷ r)) (b ∷ r)))
      by_test true e h =
          let q = f b e in
          rw (e, q.line, q.quote, q.slash, q.like) (moved at (quoted false i r) ∙ h ∙ ap (λ (n : ℕ). placed n (quoted false i (drop (advance_while p r) r))) (omega arith))
      by_test false e h = rw e (ap (λ (n : ℕ). placed n (quoted false i (b ∷ r))) (sym (add-zero at)))

  -- the same at an offset of the source
  over_at : (s : List ℕ) (at n : ℕ) → n ≡ at + advance_while p (drop at s) → placed at (quoted false i (drop at s)) ≡ placed n (quoted false i (drop n s))
  over_at s at n e = over (drop at s) at ∙ ap (λ (r : List ℕ). placed (at + advance_while p (drop at s)) (quoted false i r)) (drop-drop (advance_while p (drop at s)) at s) ∙ ap (λ (m : ℕ). placed m (quoted false i (drop m s))) (sym e)

no_line_end : (b : ℕ) → graphic b ≡ true → line_end b ≡ false
no_line_end b g =
    let h = leb-true 33 b (and_parts (leb 33 b) (leb b 126) g).0 in
    rw (ne_eqb b 10 (λ e. omega arith), ne_eqb b 13 (λ e. omega arith))

graphic_passed : (b : ℕ) → graphic_inside b ≡ true → Passed true b
graphic_passed b e =
    let g = and_parts (graphic b) (not (eqb b 34) && not (eqb b 92)) e in
    let q = and_parts (not (eqb b 34)) (not (eqb b 92)) g.1 in
    record { line = no_line_end b g.0; quote = not-true (eqb b 34) q.0; slash = not-true (eqb b 92) q.1; like = rw g.0 }

inside_passed : (b : ℕ) → line_inside b ≡ true → Passed false b
inside_passed b e =
    let g = and_parts (not (line_end b)) (not (eqb b 34) && not (eqb b 92)) e in
    let q = and_parts (not (eqb b 34)) (not (eqb b 92)) g.1 in
    record { line = not-true (line_end b) g.0; quote = not-true (eqb b 34) q.0; slash = not-true (eqb b 92) q.1; like = refl }

pub over_graphic : (s : List ℕ) (at n : ℕ) → n ≡ at + advance_while graphic_inside (drop at s) → placed at (quoted false true (drop at s)) ≡ placed n (quoted false true (drop n s))
over_graphic = over_at graphic_inside true graphic_passed

pub over_inside : (s : List ℕ) (at n : ℕ) → n ≡ at + advance_while line_inside (drop at s) → placed at (quoted false false (drop at s)) ≡ placed n (quoted false false (drop n s))
over_inside = over_at line_inside false inside_passed
