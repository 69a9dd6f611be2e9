-- One entry more is written.
-- Assumes nothing.
use Rattle.std.specs.Prelude.{ℕ, zero, suc, ◌+◌, ◌^◌, ◌≤◌, ◌<◌, ◌≡◌, refl, List, [], ◌∷◌, length, get_or, set, map, min}
use Rattle.std.proofs.Common.{ap, ◌∙◌, arith, add-one, subst}
use Rattle.std.proofs.lemmas.List.{length-map, get_or-map}
use Rattle.room.specs.Over.{fit}
use Rattle.lexer.specs.Tokens.{MAX_SOURCE}
use Rattle.lines.specs.declared.walk.Position.{Position}
use Rattle.lines.specs.Ends.{line, column}
use Rattle.lines.specs.Places.{IsPosition}
use Rattle.lines.specs.MasmLines.{at_offsets}
use Rattle.lines.proofs.Laws.{line_few, column_few}

next_fit : (i : ℕ) (vs l : List ℕ) → i < length vs → i < length l → set (fit i vs l) i (get_or vs i 0) ≡ fit (suc i) vs l
next_fit i [] l h k = absurd (omega arith)
next_fit i (v ∷ vs) [] h k = absurd (omega arith)
next_fit zero (v ∷ vs) (x ∷ l) h k = refl
next_fit (suc i) (v ∷ vs) (x ∷ l) h k = ap (λ (r : List ℕ). v ∷ r) (next_fit i vs l (omega arith) (omega arith))

-- of what f makes of the numbers of a list
one_more : (f : ℕ → ℕ) (i n : ℕ) (ns l r : List ℕ) → i < length ns → i < length l → n ≡ f (get_or ns i 0) → r ≡ fit i (map f ns) l
    → set r i n ≡ fit (i + 1) (map f ns) l
one_more f i n ns l r h k e g =
    rw (g, e, add-one i, ← get_or-map f ns i 0 0 h) (next_fit i (map f ns) l (omega (arith, length-map ns f)) k)

-- What the loop keeps: the walk's source is the call's, and the first i entries are written.
pub record Going (source offsets lines₀ columns₀ r lines columns : List ℕ) (i : ℕ) : Type 0 where
  pub same : r ≡ source
  pub lines_are : lines ≡ fit i (at_offsets line source offsets) lines₀
  pub columns_are : columns ≡ fit i (at_offsets column source offsets) columns₀

module _ (source offsets lines₀ columns₀ r lines columns : List ℕ) (i : ℕ) (g : Going source offsets lines₀ columns₀ r lines columns i)
    (p : Position) (found : IsPosition r (get_or offsets i 0) p) where
  abbrev o : ℕ
  o = min (get_or offsets i 0) (length source)

  abbrev here : IsPosition source (get_or offsets i 0) p
  here = subst (λ (s : List ℕ). IsPosition s (get_or offsets i 0) p) g.same found

  -- in a source that is not too long both numbers fit u32
  pub small_position : length source ≤ MAX_SOURCE → (p.line < 2 ^ 32) × (p.column < 2 ^ 32)
  small_position h = (omega (arith, here.line_is, line_few source o), omega (arith, here.column_is, column_few source o))

  pub goes_on : i < length offsets → i < length lines₀ → i < length columns₀ → {r' : List ℕ} → r' ≡ r
      → Going source offsets lines₀ columns₀ r' (set lines i p.line) (set columns i p.column) (i + 1)
  goes_on h k m e = record {
    same = e ∙ g.same;
    lines_are = one_more (λ o. line source (min o (length source))) i p.line offsets lines₀ lines h k here.line_is g.lines_are;
    columns_are = one_more (λ o. column source (min o (length source))) i p.column offsets columns₀ columns h m here.column_is g.columns_are;
  }
