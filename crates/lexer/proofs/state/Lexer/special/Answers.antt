-- `Lexer::special` meets its contract. Assumes nothing.
use Prim.Native.Nat.{ℕ, ◌+◌, ◌-◌}
use mathlib.Core.Path.{◌≡◌, ap, ap₂, ◌∙◌}
use mathlib.Core.List.{List}
use native.Mathlib.Omega.{arith}
use lib.ListN.{take, drop}
use Rattle.lexer.specs.Chars.{word}
use Rattle.lexer.specs.Lexer.{advance_while, special}
use Rattle.lexer.specs.Code.{Placed, placed, special_kind}
use Rattle.lexer.proofs.state.Lexer.special.Goals as goal

-- the token, by the kind of its text
named : (from end : ℕ) (r : List ℕ) → end ≡ from + advance_while word r
    → ◌≡◌ {A = Placed} (record { kind = special_kind (take (end - from) r); end = end }) (placed from (special r))
unfolding special special_kind
named from end r e =
    let n : end - from ≡ advance_while word r = omega arith in
    ap₂ {C = Placed} (λ (k n : ℕ). record { kind = k; end = n }) (ap (λ (m : ℕ). special_kind (take m r)) n) e

pub slice_bounds-special_kind-count : goal.slice_bounds-special_kind-count
slice_bounds-special_kind-count c = let a = (c.advance_while.ensures word (λ b r e. e)).offset_is in omega arith

pub slice_bounds-special_kind-start : goal.slice_bounds-special_kind-start
slice_bounds-special_kind-start c = let a = (c.advance_while.ensures word (λ b r e. e)).offset_is in omega arith

pub returns : goal.returns
returns c =
    let s = c.args.self.now in
    let m = c.advance_while.new.self in
    let a = c.advance_while.ensures word (λ b r e. e) in
    let text = c.special_kind.ensures ∙ ap (λ (l : List ℕ). special_kind (take (m.offset - s.offset) (drop s.offset l))) a.source_is in
    record { source_is = a.source_is; token_is = ap (λ (k : ℕ). record { kind = k; end = m.offset }) text ∙ named s.offset m.offset (drop s.offset s.source.now) a.offset_is }
