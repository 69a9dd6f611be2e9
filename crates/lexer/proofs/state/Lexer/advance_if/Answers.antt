-- `Lexer::advance_if` meets its contract. Assumes nothing.
use Prim.Native.Nat.{ℕ}
use mathlib.Core.Path.{◌≡◌, refl, ap, ◌∙◌}
use mathlib.Core.Bool.{Bool, cond}
use mathlib.Core.List.{List}
use native.Mathlib.Omega.{arith}
use borrow.Author.Rules.{rules}
use denote.Bor.{Bor}
use lib.Dec.{eqb, ltb}
use lib.ListN.{length, get_or, drop}
use Rattle.std.proofs.Common.{Option, Some, None}
use Rattle.std.specs.Option.{option_eq, is_some, unwrap_or, option_map}
use Rattle.lexer.specs.Code.{starts_with}
use Rattle.lexer.proofs.Laws.{got_some, got_none}
use Rattle.lexer.proofs.state.Lexer.advance_if.Goals as goal

-- a byte that may be there, compared with x
is_there : (s : List ℕ) (at : ℕ) (r : Option (Bor ℕ)) (x : Bor ℕ) → is_some r ≡ ltb at (length s) → unwrap_or (option_map (λ v. v.now) r) 0 ≡ get_or s at 0
    → option_eq (λ v w. eqb v.now w.now) r (Some x) ≡ starts_with x.now (drop at s)
unfolding starts_with
is_there s at None x p q = rw (got_none s at None p refl)
is_there s at (Some v) x p q = rw (got_some s at (Some v) v p q refl)

pub returns-then-found : goal.returns-then-found
returns-then-found c =
    let l = c.args.self.now in
    let g = c.get.ensures.lookup in
    record {
      found_is = c.eq-found.ensures ∙ is_there l.source.now l.offset c.get.result _ g.0 (g.4 (search rules) 0);
      source_is = refl;
      offset_is = omega (arith, ap {B = ℕ} (λ (t : Bool). cond t 1 0) c.if-found.true);
    }

pub returns-else-found : goal.returns-else-found
returns-else-found c =
    let l = c.args.self.now in
    let g = c.get.ensures.lookup in
    record {
      found_is = c.eq-found.ensures ∙ is_there l.source.now l.offset c.get.result _ g.0 (g.4 (search rules) 0);
      source_is = refl;
      offset_is = omega (arith, ap {B = ℕ} (λ (t : Bool). cond t 1 0) c.if-found.false);
    }
