-- A file without the depth diagnostic at some limit has the same forest, so the same events and diagnostics, at any higher one.
-- Assumes nothing.
use Rattle.std.specs.Prelude.{ℕ, suc, ◌+◌, ◌≤◌, ◌≡◌, refl, Bool, true, not, ◌&&◌, ◌||◌, List, [], ◌∷◌, ◌++◌, map, eqb, length}
use Rattle.std.proofs.Common.{sym, ◌∙◌, arith}
use Rattle.std.proofs.Math.Bool.{and_assoc}
use Rattle.lexer.specs.Syntax
use Rattle.grammar.specs.Words.{Sym, is}
use Rattle.grammar.specs.Run.{Forest, nil, leaf, node, say, leaves}
use Rattle.grammar.specs.Message.{number}
use Rattle.grammar.specs.Item.{items_in, parse}
use Rattle.grammar.specs.Out.{Diag, noted, dg, events, diags}
use Rattle.std.proofs.lemmas.Bool.{and_parts, not-true}
use Rattle.grammar.specs.Laws.Good.{Calm}
use Rattle.grammar.specs.Laws.StableBlock.{m_depth}
use Rattle.grammar.proofs.Laws.StableBlock.{higher}
use Rattle.grammar.specs.Laws.Numbers.{no_message}
use Rattle.grammar.proofs.Laws.LiveItem.{live_items}
use Rattle.grammar.proofs.Laws.Join.{same_run}
use Rattle.grammar.specs.Theorems.HigherLimit.{without_depth}

abbrev calmly : List Diag → Bool
calmly l = without_depth (map (λ d. d.msg) l)

calmly_app : (l m : List Diag) → calmly (l ++ m) ≡ (calmly l && calmly m)
calmly_app [] m = refl
calmly_app (d ∷ l) m = rw (calmly_app l m) (sym (and_assoc (not (eqb m_depth d.msg)) (calmly l) (calmly m)))

abbrev is_bad : ℕ → Bool
is_bad m = no_message m || eqb m_depth m

noted_calm : (u : Bool) (i : ℕ) (l : List Diag) → calmly (noted u i l) ≡ true → calmly l ≡ true
unfolding number
noted_calm u i l e = grind (arith, e)

calm_both : (i : ℕ) (x : Forest) → Calm no_message x → calmly (dg i x) ≡ true → Calm is_bad x
calm_both i nil k e = tt
calm_both i (leaf s x) k e = calm_both (suc i) x k (noted_calm (is Syntax.Error s) i (dg (suc i) x) e)
calm_both i (node n c x) k e =
    let p = sym (calmly_app (dg i c) (dg (i + length (leaves c)) x)) ∙ e in
    let h = and_parts (calmly (dg i c)) _ p in
    (calm_both i c k.0 h.0, calm_both (i + length (leaves c)) x k.1 h.1)
calm_both i (say m x) k e = let h = and_parts (not (eqb m_depth m)) _ e in (rw k.0 (not-true (eqb m_depth m) h.0), calm_both i x k.1 h.1)

-- The forest is the same.
pub higher_limit_forest : (limit limit' : ℕ) (a : List Sym) → limit ≤ limit'
    → without_depth (map (λ d. d.msg) (diags limit a)) ≡ true → parse limit' a ≡ parse limit a
unfolding diags parse items_in number
higher_limit_forest limit limit' a le e =
    let n : ℕ = suc (length a) in
    same_run is_bad refl limit limit' (higher refl le) n n (omega arith) a (calm_both 0 (parse limit a) ((live_items n limit).calm a refl (omega arith)) e)

-- So are events and diagnostics.
pub higher_limit : (limit limit' : ℕ) (a : List Sym) → limit ≤ limit'
    → without_depth (map (λ d. d.msg) (diags limit a)) ≡ true → (events limit' a ≡ events limit a) × (diags limit' a ≡ diags limit a)
unfolding events diags
higher_limit limit limit' a le e = let q = higher_limit_forest limit limit' a le e in (rw q, rw q)
