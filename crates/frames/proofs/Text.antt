-- What is written piece by piece. Assumes nothing.
use Rattle.std.specs.Prelude.{ℕ, ◌≡◌, ◌+◌, ◌-◌, ◌≤◌, ◌<◌, List, ◌∷◌, ◌++◌, length, take, drop, replicate, Option, None, Some}
use Rattle.std.proofs.Common.{sym, ap, ◌∙◌, arith, get_or, append_assoc}
use Rattle.std.proofs.lemmas.List.{drop_more, get_or-take, get_or-replicate}
use Rattle.std.specs.Io.KnownBytes.{Appends}

-- one piece behind another
pub appends_both : (a b c : Option (List ℕ)) (xs ys : List ℕ) → Appends a b xs → Appends b c ys → Appends a c (xs ++ ys)
appends_both None b c xs ys p q = search
appends_both (Some u) None c xs ys p q = absurd p
appends_both (Some u) (Some v) None xs ys p q = absurd q
appends_both (Some u) (Some v) (Some w) xs ys p q = q ∙ ap (λ t. t ++ ys) p ∙ append_assoc u xs ys

-- the digits at d, and the space before them
pub behind_space : (new : List ℕ) (d : ℕ) (digits : List ℕ) → 0 < d → d ≤ 21 → d ≤ length new
    → take d new ≡ take d (replicate 21 32) → drop d new ≡ digits → drop (d - 1) new ≡ 32 ∷ digits
behind_space new d digits h k l t e =
    let n = d - 1 in
    let same : n + 1 ≡ d = omega arith in
    let space : get_or new n 0 ≡ 32 =
    sym (get_or-take d new n 0 (omega arith)) ∙ ap (λ xs. get_or xs n 0) t
    ∙ get_or-take d (replicate 21 32) n 0 (omega arith) ∙ get_or-replicate 21 n 32 0 (omega arith) in
    drop_more new n 0 (omega arith) ∙ ap (λ b. b ∷ drop (n + 1) new) space ∙ ap (λ m. 32 ∷ drop m new) same ∙ ap (λ xs. 32 ∷ xs) e
