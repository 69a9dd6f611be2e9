-- The first character of a well-formed text, by its first byte.
use Rattle.std.specs.Prelude.{◌≡◌, refl, List, ◌∷◌, ℕ, zero, suc, ◌+◌, ◌≤◌, ◌<◌, length, get_or, take, drop}
use Rattle.std.proofs.Common.{sym, ◌∙◌, subst, arith, length-take-le, get_or-take}
use Rattle.utf8.specs.Table.{table_3_7, char_length}
use Rattle.utf8.specs.TableLaws.{char_of_length}
use Rattle.utf8.specs.FirstByte.{char_width, tail_bytes}
use Rattle.utf8.specs.Width.{width}
use Rattle.utf8.specs.WellFormed.{Character, WellFormed}
use Rattle.utf8.specs.Laws.{steps, stops, accepts, valid_from, not_both}

-- the text b ∷ bs starts with a character of `width b` bytes, and goes on well formed
pub record Starts (b : ℕ) (bs : List ℕ) : Type 0 where
  pub length_is : char_length (b ∷ bs) ≡ width b
  pub within : width b ≤ suc (length bs)
  pub character : Character table_3_7 (take (width b) (b ∷ bs))
  pub rest : WellFormed (drop (width b) (b ∷ bs))

pub character_starts : (b : ℕ) (bs : List ℕ) → WellFormed (b ∷ bs) → Starts b bs
character_starts b bs w = by_length (char_length (b ∷ bs)) refl
  where
    by_length : (l : ℕ) → char_length (b ∷ bs) ≡ l → Starts b bs
    by_length zero e = absurd (not_both _ (accepts (b ∷ bs) w) (stops 0 (b ∷ bs) (omega arith) e))
    by_length (suc k) e =
        let c = char_of_length (b ∷ bs) k e in
        let i : suc k ≡ width b = omega (arith, char_width c.1, length-take-le k bs (omega arith)) in
        record {
          length_is = e ∙ i;
          within = omega arith;
          character = subst (λ (m : ℕ). Character table_3_7 (take m (b ∷ bs))) i c.1;
          rest =
              subst (λ (m : ℕ). WellFormed (drop m (b ∷ bs))) i
              (valid_from (0 + suc k) (drop (suc k) (b ∷ bs)) (sym (steps 0 (b ∷ bs) k e) ∙ accepts (b ∷ bs) w));
        }

-- its bytes after the first are continuation bytes
pub continuation : (b : ℕ) (bs : List ℕ) → WellFormed (b ∷ bs) → (k : ℕ) → suc k < width b → (0x80 ≤ get_or bs k 0) × (get_or bs k 0 ≤ 0xBF)
continuation b bs w k i = by_width (width b) (character_starts b bs w).within (character_starts b bs w).character i
  where
    by_width : (m : ℕ) → m ≤ suc (length bs) → Character table_3_7 (take m (b ∷ bs)) → suc k < m → (0x80 ≤ get_or bs k 0) × (get_or bs k 0 ≤ 0xBF)
    by_width zero l c i = absurd (omega arith)
    by_width (suc j) l c i =
        let t = tail_bytes c k (omega (arith, length-take-le j bs (omega arith))) in
        let e = get_or-take j bs k 0 (omega arith) in
        omega arith

-- so where the first byte is 0x80 or more, all of them are
pub high_bytes : (b : ℕ) (bs : List ℕ) → WellFormed (b ∷ bs) → 0x80 ≤ b → (k : ℕ) → k < width b → 0x80 ≤ get_or (b ∷ bs) k 0
high_bytes b bs w h zero i = h
high_bytes b bs w h (suc k) i = (continuation b bs w k i).0
