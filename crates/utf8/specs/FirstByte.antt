-- What the first byte of a character says: its length; and which bytes follow it.
use Rattle.std.specs.Prelude.{◌≡◌, refl, List, [], ◌∷◌, Bool, true, ◌&&◌, ℕ, zero, suc, ◌≤◌, ◌<◌, leb, length, get_or}
use Rattle.std.proofs.Common.{sym, ap, ◌∙◌, arith, leb-true}
use Rattle.std.proofs.lemmas.Bool.{and_parts}
use Rattle.utf8.specs.Table.{◌⋯◌, Row, table_3_7}
use Rattle.utf8.specs.TableLaws.{sequence_length}
use Rattle.utf8.specs.WellFormed.{Sequence, done, byte, Character, here, there}
use Rattle.utf8.specs.Width.{width, width_one, width_two, width_three, width_four}

-- `width` gives the length of each row's sequences
abbrev Widths : List Row → Type 0
Widths [] = Unit {0}
Widths ([] ∷ rows) = ⊥
Widths ((low ⋯ high ∷ row) ∷ rows) = ((b : ℕ) → low ≤ b → b ≤ high → width b ≡ suc (length row)) × Widths rows

widths : Widths table_3_7
unfolding table_3_7
widths = (
  λ b l h. width_one b (omega arith),
  (
    λ b l h. width_two b (omega arith) (omega arith),
    (
      λ b l h. width_three b (omega arith) (omega arith),
      (
        λ b l h. width_three b (omega arith) (omega arith),
        (
          λ b l h. width_three b (omega arith) (omega arith),
          (
            λ b l h. width_three b (omega arith) (omega arith),
            (
              λ b l h. width_four b (omega arith),
              (
                λ b l h. width_four b (omega arith),
                (
                  λ b l h. width_four b (omega arith),
                  tt,
                ),
              ),
            ),
          ),
        ),
      ),
    ),
  ),
)

width_in : {rows : List Row} {b : ℕ} {bs : List ℕ} → Widths rows → Character rows (b ∷ bs) → suc (length bs) ≡ width b
width_in w (here (byte {b = b} l h q)) = ap suc (sequence_length q) ∙ sym (w.0 b l h)
width_in w (there {row = []} k) = absurd w
width_in w (there {row = low ⋯ high ∷ row} k) = width_in w.1 k

-- a character is as long as its first byte says
pub char_width : {b : ℕ} {bs : List ℕ} → Character table_3_7 (b ∷ bs) → suc (length bs) ≡ width b
char_width k = width_in widths k

-- every range after a row's first lies in 0x80 to 0xBF
abbrev continues : Row → Bool
continues [] = true
continues (low ⋯ high ∷ row) = leb 0x80 low && leb high 0xBF && continues row

abbrev all_continue : List Row → Bool
all_continue [] = true
all_continue ([] ∷ rows) = all_continue rows
all_continue ((r ∷ row) ∷ rows) = continues row && all_continue rows

abbrev pub Continuation : ℕ → Type 0
Continuation b = (0x80 ≤ b) × (b ≤ 0xBF)

tail_byte : {row : Row} {bs : List ℕ} → continues row ≡ true → Sequence row bs → (k : ℕ) → k < length bs → Continuation (get_or bs k 0)
tail_byte t done k h = absurd (omega arith)
tail_byte t (byte {low} {high} {row = row} l h q) zero i =
    let w = and_parts (leb 0x80 low && leb high 0xBF) (continues row) t in
    let v = and_parts (leb 0x80 low) (leb high 0xBF) w.0 in
    omega (arith, leb-true 0x80 low v.0, leb-true high 0xBF v.1)
tail_byte t (byte {low} {high} {row = row} l h q) (suc k) i =
    tail_byte (and_parts (leb 0x80 low && leb high 0xBF) (continues row) t).1 q k (omega arith)

tail_in : {rows : List Row} {b : ℕ} {bs : List ℕ} → all_continue rows ≡ true → Character rows (b ∷ bs) → (k : ℕ) → k < length bs → Continuation (get_or bs k 0)
tail_in {rows = (r ∷ row) ∷ rows} t (here (byte l h q)) k i = tail_byte (and_parts (continues row) (all_continue rows) t).0 q k i
tail_in {rows = _ ∷ _} t (here {row = []} none) k i = elim none [ ]
tail_in t (there {row = []} c) k i = tail_in t c k i
tail_in t (there {row = r ∷ row} {rows = rows} c) k i = tail_in (and_parts (continues row) (all_continue rows) t).1 c k i

-- the bytes after a character's first are continuation bytes
pub tail_bytes : {b : ℕ} {bs : List ℕ} → Character table_3_7 (b ∷ bs) → (k : ℕ) → k < length bs → Continuation (get_or bs k 0)
unfolding table_3_7
tail_bytes c k i = tail_in refl c k i
