-- The well-formed sources are the encodings of texts, each of one text.
-- Assumes nothing.
use Rattle.std.specs.Prelude.{ℕ, ◌≡◌, refl, List, [], ◌∷◌, ◌++◌, length}
use Rattle.std.proofs.Common.{sym, ap, ◌∙◌, arith, length-append}
use Rattle.std.proofs.Math.Seq.{take-append_seam, drop-append_seam}
use Rattle.utf8.specs.Table.{char_length}
use Rattle.utf8.specs.TableLaws.{char_length_lem, char_some}
use Rattle.utf8.specs.WellFormed.{WellFormed, empty, more}
use Rattle.utf8.specs.Scalar.{Scalar, encode}
use Rattle.characters.specs.Encoding.{scalar_of}
use Rattle.characters.proofs.Encoding.{encode_character, decoded, scalar_of_encode}
use Rattle.characters.specs.Text.{Scalars, encode_all}

-- a text's bytes are well formed
pub encoded_well_formed : (cs : List ℕ) → Scalars cs → WellFormed (encode_all cs)
unfolding encode_all
encoded_well_formed [] p = empty
encoded_well_formed (c ∷ cs) p = more (encode_character p.0) (encoded_well_formed cs p.1)

-- well-formed bytes are those of a text
pub decodes : {s : List ℕ} → WellFormed s → (cs : List ℕ) × Scalars cs × (encode_all cs ≡ s)
unfolding encode_all
decodes empty = ([], tt, refl)
decodes (more {c} {s} k w) =
    let d = decodes w in
    (scalar_of c ∷ d.0, ((decoded k).scalar, d.1), rw ((decoded k).encodes, d.2))

-- where two texts have the same bytes, their first characters have the same, as many as table 3-7 tells, and so has what follows
module _ {c d : ℕ} (p : Scalar c) (q : Scalar d) (s t : List ℕ) (e : encode c ++ s ≡ encode d ++ t) where
  same_length : length (encode c) ≡ length (encode d)
  same_length = sym (char_length_lem (encode_character p) s) ∙ ap char_length e ∙ char_length_lem (encode_character q) t

  same_first : encode c ≡ encode d
  same_first = sym (take-append_seam (encode c) s) ∙ rw (e, same_length) (take-append_seam (encode d) t)

  same_rest : s ≡ t
  same_rest = sym (drop-append_seam (encode c) s) ∙ rw (e, same_length) (drop-append_seam (encode d) t)

none_and_some : {c : ℕ} → Scalar c → (s : List ℕ) → [] ≡ encode c ++ s → ⊥
none_and_some {c} p s e = omega (arith, char_some (encode_character p), length-append (encode c) s, ap length e)

-- no two texts have the same bytes
pub encode_once : (cs ds : List ℕ) → Scalars cs → Scalars ds → encode_all cs ≡ encode_all ds → cs ≡ ds
unfolding encode_all
encode_once [] [] p q e = refl
encode_once [] (d ∷ ds) p q e = absurd (none_and_some q.0 (encode_all ds) e)
encode_once (c ∷ cs) [] p q e = absurd (none_and_some p.0 (encode_all cs) (sym e))
encode_once (c ∷ cs) (d ∷ ds) p q e =
    let f = same_first p.0 q.0 (encode_all cs) (encode_all ds) e in
    let i : c ≡ d = sym (scalar_of_encode c) ∙ ap scalar_of f ∙ scalar_of_encode d in
    rw i (ap (λ (l : List ℕ). d ∷ l) (encode_once cs ds p.1 q.1 (same_rest p.0 q.0 (encode_all cs) (encode_all ds) e)))
