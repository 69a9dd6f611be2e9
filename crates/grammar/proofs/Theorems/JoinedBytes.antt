-- Joined files in bytes (demand 3): A's diagnostics keep their places, B's are moved on by A's length. B may be empty.
-- Assumes nothing.
use Rattle.std.specs.Prelude.{ℕ, zero, suc, ◌+◌, ◌<◌, ◌≡◌, refl, List, [], ◌∷◌, ◌++◌, map, length}
use Rattle.std.proofs.Common.{sym, ◌∙◌, ap, ap₂, arith}
use Rattle.std.proofs.Math.Nat.{suc-add, add-zero}
use Rattle.std.proofs.lemmas.List.{map-append}
use Rattle.lexer.specs.Laws.{last}
use Rattle.grammar.specs.Words.{Sym}
use Rattle.grammar.specs.Look.{eof}
use Rattle.grammar.specs.Run.{pure, peek, ◌>>=◌}
use Rattle.grammar.specs.Item.{items, items_in, parse}
use Rattle.grammar.specs.Out.{Diag, diags, place, places}
use Rattle.grammar.specs.Joins.{move, shift, Joins}
use Rattle.grammar.specs.Theorems.Joined.{DiagsBelow}
use Rattle.grammar.proofs.Theorems.Joined.{joined, early}

in_first : (m : ℕ) (es fs : List ℕ) (s eof eof' i : ℕ) → i < length es → place m (es ++ fs) s eof' i ≡ place m es s eof i
in_first m [] fs s eof eof' i h = absurd (omega arith)
in_first m (e ∷ es) fs s eof eof' zero h = refl
in_first m (e ∷ es) fs s eof eof' (suc i) h = in_first m es fs e eof eof' i (omega arith)

in_second : (m : ℕ) (es fs : List ℕ) (s eof i : ℕ) → place m (es ++ fs) s eof (length es + i) ≡ place m fs (last s es) eof i
in_second m [] fs s eof i = ap (place m fs s eof) (omega arith)
in_second m (e ∷ es) fs s eof i = ap (place m (e ∷ (es ++ fs)) s eof) (suc-add (length es) i) ∙ in_second m es fs e eof i

shifted : (m n : ℕ) (es : List ℕ) (s eof i : ℕ) → place m (map (λ e. n + e) es) (n + s) (n + eof) i ≡ shift n (place m es s eof i)
shifted m n [] s eof i = refl
shifted m n (e ∷ es) s eof zero = refl
shifted m n (e ∷ es) s eof (suc i) = shifted m n es e eof i

places_first : (es fs : List ℕ) (eof eof' : ℕ) (l : List Diag) → DiagsBelow (length es) l → places (es ++ fs) eof' l ≡ places es eof l
places_first es fs eof eof' [] b = refl
places_first es fs eof eof' (d ∷ l) b = ap₂ ◌∷◌ (in_first d.msg es fs 0 eof eof' d.pos b.0) (places_first es fs eof eof' l b.1)

places_second : (n : ℕ) (es fs : List ℕ) (eof : ℕ) → last 0 es ≡ n → (l : List Diag) → places (es ++ map (λ e. n + e) fs) (n + eof) (map (move (length es)) l) ≡ map (shift n) (places fs eof l)
places_second n es fs eof h [] = refl
places_second n es fs eof h (d ∷ l) = ap₂ ◌∷◌
    (in_second d.msg es (map (λ e. n + e) fs) 0 (n + eof) d.pos ∙ ap (λ s. place d.msg (map (λ e. n + e) fs) s (n + eof) d.pos) (h ∙ sym (add-zero n)) ∙ shifted d.msg n fs 0 eof d.pos)
    (places_second n es fs eof h l)

-- An empty file has no diagnostic.
no_diags : (limit : ℕ) → diags limit [] ≡ []
unfolding diags parse items_in items ◌>>=◌ peek pure eof
no_diags limit = refl

-- n is A's length in bytes, es and fs are the ends of A's and B's tokens; the anchors are A's, B's and the join's. The join's is B's moved
-- on, unless B is empty: then the join is A.
module _ (limit n : ℕ) (es fs : List ℕ) (anchor_b anchor : ℕ) (k : last 0 es ≡ n) where
  second_part : (b : List Sym) → ((b ≡ [] → ⊥) → anchor ≡ n + anchor_b) → places (es ++ map (λ e. n + e) fs) anchor (map (move (length es)) (diags limit b)) ≡ map (shift n) (places fs anchor_b (diags limit b))
  second_part [] h = rw (no_diags limit)
  second_part (s ∷ b) h = rw (h (λ e. grind (arith, e))) (places_second n es fs anchor_b k (diags limit (s ∷ b)))

  pub joined_bytes : (a b : List Sym) → Joins limit a b → (anchor_a : ℕ) → length es ≡ length a → ((b ≡ [] → ⊥) → anchor ≡ n + anchor_b) →
      places (es ++ map (λ e. n + e) fs) anchor (diags limit (a ++ b)) ≡ places es anchor_a (diags limit a) ++ map (shift n) (places fs anchor_b (diags limit b))
  joined_bytes a b j anchor_a h z =
      ap (places (es ++ map (λ e. n + e) fs) anchor) (joined limit a b j).diags_are
      ∙ map-append _ (diags limit a) (map (move (length a)) (diags limit b))
      ∙ ap₂ ◌++◌ (places_first es (map (λ e. n + e) fs) anchor_a anchor (diags limit a) (rw h (early limit a b j)))
      (ap (λ t. places (es ++ map (λ e. n + e) fs) anchor (map (move t) (diags limit b))) (sym h) ∙ second_part b z)
