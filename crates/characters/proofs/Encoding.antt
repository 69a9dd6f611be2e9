-- The encodings of scalar values are the sequences of table 3-7, each that of one scalar value.
-- Assumes nothing.
use Rattle.std.specs.Prelude.{ℕ, zero, suc, ◌+◌, ◌/◌, ◌%◌, ◌≤◌, ◌<◌, ◌≡◌, refl, Bool, true, false, List, [], ◌∷◌, ltb}
use Rattle.std.proofs.Common.{◌∙◌, arith}
use borrow.Author.Tests.{ltb-true, ltb-false, lt-ltb, le-ltb}
use Rattle.utf8.specs.Table.{◌⋯◌, Row, table_3_7}
use Rattle.utf8.specs.Last.{Continuation}
use Rattle.utf8.specs.WellFormed.{Sequence, done, byte, Character, here, there}
use Rattle.utf8.specs.Scalar.{Scalar, below, above, encode}
use Rattle.characters.specs.Encoding.{scalar_of, Decoded}

-- encode's four cases
module _ (c : ℕ) where
  pub encode_one : c < 0x80 → encode c ≡ c ∷ []
  unfolding encode
  encode_one h = rw (lt-ltb c 0x80 h)

  pub encode_two : 0x80 ≤ c → c < 0x800 → encode c ≡ (0xC0 + c / 64) ∷ (0x80 + c % 64) ∷ []
  unfolding encode
  encode_two l h = rw (le-ltb c 0x80 l, lt-ltb c 0x800 h)

  pub encode_three : 0x800 ≤ c → c < 0x10000 → encode c ≡ (0xE0 + c / 4096) ∷ (0x80 + c / 64 % 64) ∷ (0x80 + c % 64) ∷ []
  unfolding encode
  encode_three l h = rw (le-ltb c 0x80 (omega arith), le-ltb c 0x800 l, lt-ltb c 0x10000 h)

  pub encode_four : 0x10000 ≤ c → encode c ≡ (0xF0 + c / 262144) ∷ (0x80 + c / 4096 % 64) ∷ (0x80 + c / 64 % 64) ∷ (0x80 + c % 64) ∷ []
  unfolding encode
  encode_four l = rw (le-ltb c 0x80 (omega arith), le-ltb c 0x800 (omega arith), le-ltb c 0x10000 l)

-- a byte in each range of a row, as facts on numbers
abbrev Within : Row → List ℕ → Type 0
Within [] [] = Unit {0}
Within [] (b ∷ bs) = ⊥
Within (r ∷ row) [] = ⊥
Within (low ⋯ high ∷ row) (b ∷ bs) = (low ≤ b) × (b ≤ high) × Within row bs

sequence : (row : Row) (bs : List ℕ) → Within row bs → Sequence row bs
sequence [] [] w = done
sequence [] (b ∷ bs) w = absurd w
sequence (low ⋯ high ∷ row) [] w = absurd w
sequence (low ⋯ high ∷ row) (b ∷ bs) w = byte w.0 w.1 (sequence row bs w.2)

-- and in those of row i
abbrev WithinRow : ℕ → List Row → List ℕ → Type 0
WithinRow i [] bs = ⊥
WithinRow zero (row ∷ rows) bs = Within row bs
WithinRow (suc i) (row ∷ rows) bs = WithinRow i rows bs

of_row : (i : ℕ) (rows : List Row) (bs : List ℕ) → WithinRow i rows bs → Character rows bs
of_row i [] bs w = absurd w
of_row zero (row ∷ rows) bs w = here (sequence row bs w)
of_row (suc i) (row ∷ rows) bs w = there (of_row i rows bs w)

-- c is below n, or not
pub below_or_from : (c n : ℕ) (P : Type 0) → (c < n → P) → (n ≤ c → P) → P
below_or_from c n P f g = go (ltb c n) refl
  where
    go : (t : Bool) → ltb c n ≡ t → P
    go true e = f (ltb-true c n e)
    go false e = g (ltb-false c n e)

-- every scalar value's encoding is a sequence of the table
pub encode_character : {c : ℕ} → Scalar c → Character table_3_7 (encode c)
unfolding table_3_7
encode_character (below {c} h) =
    below_or_from c 0x80 (Character table_3_7 (encode c)) (λ a. rw (encode_one c a) (of_row 0 table_3_7 _ (omega arith))) (λ a.
    below_or_from c 0x800 (Character table_3_7 (encode c)) (λ b. rw (encode_two c a b) (of_row 1 table_3_7 _ (omega arith))) (λ b.
    rw (encode_three c b (omega arith))
    (below_or_from c 0x1000 _ (λ d. of_row 2 table_3_7 _ (omega arith)) (λ d.
    below_or_from c 0xD000 _ (λ e. of_row 3 table_3_7 _ (omega arith)) (λ e. of_row 4 table_3_7 _ (omega arith))))))
encode_character (above {c} l h) =
    below_or_from c 0x10000 (Character table_3_7 (encode c)) (λ a. rw (encode_three c (omega arith) a) (of_row 5 table_3_7 _ (omega arith))) (λ a.
    rw (encode_four c a)
    (below_or_from c 0x40000 _ (λ d. of_row 6 table_3_7 _ (omega arith)) (λ d.
    below_or_from c 0x100000 _ (λ e. of_row 7 table_3_7 _ (omega arith)) (λ e. of_row 8 table_3_7 _ (omega arith)))))

-- a statement on each sequence of a row, and of some rows
abbrev EachSequence : Row → (List ℕ → Type 0) → Type 0
EachSequence [] P = P []
EachSequence (low ⋯ high ∷ row) P = (b : ℕ) → low ≤ b → b ≤ high → EachSequence row (λ bs. P (b ∷ bs))

abbrev EachRow : List Row → (List ℕ → Type 0) → Type 0
EachRow [] P = Unit {0}
EachRow (row ∷ rows) P = EachSequence row P × EachRow rows P

by_bytes : (P : List ℕ → Type 0) {row : Row} {bs : List ℕ} → EachSequence row P → Sequence row bs → P bs
by_bytes P a done = a
by_bytes P a (byte {b = b} l h q) = by_bytes (λ bs. P (b ∷ bs)) (a b l h) q

by_rows : (P : List ℕ → Type 0) {rows : List Row} {bs : List ℕ} → EachRow rows P → Character rows bs → P bs
by_rows P a (here q) = by_bytes P a.0 q
by_rows P a (there k) = by_rows P a.1 k

two : (a b : ℕ) → (0xC2 ≤ a) × (a ≤ 0xDF) × Continuation b → Decoded (a ∷ b ∷ [])
unfolding scalar_of
two a b w =
    let n = scalar_of (a ∷ b ∷ []) in
    let p : 0xC0 + n / 64 ≡ a = omega arith in
    let q : 0x80 + n % 64 ≡ b = omega arith in
    record { scalar = below {c = n} (omega arith); encodes = encode_two n (omega arith) (omega arith) ∙ cc }

three : (a b c : ℕ) → let n = scalar_of (a ∷ b ∷ c ∷ []) in
    (0xE0 ≤ a) × (a ≤ 0xEF) × Continuation b × Continuation c × (0x800 ≤ n) → Scalar n → Decoded (a ∷ b ∷ c ∷ [])
unfolding scalar_of
three a b c w s =
    let n = scalar_of (a ∷ b ∷ c ∷ []) in
    let p : 0xE0 + n / 4096 ≡ a = omega arith in
    let q : 0x80 + n / 64 % 64 ≡ b = omega arith in
    let r : 0x80 + n % 64 ≡ c = omega arith in
    record { scalar = s; encodes = encode_three n (omega arith) (omega arith) ∙ cc }

four : (a b c d : ℕ) → let n = scalar_of (a ∷ b ∷ c ∷ d ∷ []) in
    (0xF0 ≤ a) × Continuation b × Continuation c × Continuation d × (0x10000 ≤ n) → Scalar n → Decoded (a ∷ b ∷ c ∷ d ∷ [])
unfolding scalar_of
four a b c d w s =
    let n = scalar_of (a ∷ b ∷ c ∷ d ∷ []) in
    let p : 0xF0 + n / 262144 ≡ a = omega arith in
    let q : 0x80 + n / 4096 % 64 ≡ b = omega arith in
    let r : 0x80 + n / 64 % 64 ≡ c = omega arith in
    let t : 0x80 + n % 64 ≡ d = omega arith in
    record { scalar = s; encodes = encode_four n (omega arith) ∙ cc }

all_decoded : EachRow table_3_7 Decoded
unfolding table_3_7 scalar_of
all_decoded = (
  λ a l h. record { scalar = below {c = a} (omega arith); encodes = encode_one a (omega arith) },
  (
    λ a l h b i j. two a b (omega arith),
    (
      λ a l h b i j c k m. three a b c (omega arith) (below (omega arith)),
      (
        λ a l h b i j c k m. three a b c (omega arith) (below (omega arith)),
        (
          λ a l h b i j c k m. three a b c (omega arith) (below (omega arith)),
          (
            λ a l h b i j c k m. three a b c (omega arith) (above (omega arith) (omega arith)),
            (
              λ a l h b i j c k m d x y. four a b c d (omega arith) (above (omega arith) (omega arith)),
              (
                λ a l h b i j c k m d x y. four a b c d (omega arith) (above (omega arith) (omega arith)),
                (
                  λ a l h b i j c k m d x y. four a b c d (omega arith) (above (omega arith) (omega arith)),
                  tt,
                ),
              ),
            ),
          ),
        ),
      ),
    ),
  ),
)

-- every sequence of the table is the encoding of a scalar value
pub decoded : {bs : List ℕ} → Character table_3_7 bs → Decoded bs
decoded k = by_rows Decoded all_decoded k

-- what is read off an encoding is what was encoded: no two characters have one encoding
pub scalar_of_encode : (c : ℕ) → scalar_of (encode c) ≡ c
unfolding scalar_of
scalar_of_encode c =
    below_or_from c 0x80 _ (λ a. rw (encode_one c a)) (λ a.
    below_or_from c 0x800 _ (λ b. rw (encode_two c a b) (omega arith)) (λ b.
    below_or_from c 0x10000 _ (λ d. rw (encode_three c b d) (omega arith)) (λ d.
    let e : c / 64 / 64 ≡ c / 4096 = omega arith in
    let f : c / 4096 / 64 ≡ c / 262144 = omega arith in
    rw (encode_four c d) (omega arith))))
