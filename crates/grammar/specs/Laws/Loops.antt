-- loop { .. }: where a round that goes on takes a token, the loop is the round and then, where it says so, the loop.
-- Assumes nothing.
use Prim.Native.Nat.{ℕ, zero, suc, ◌<◌}
use Rattle.std.specs.Prelude.{◌≡◌, Bool, List, length}
use Rattle.std.proofs.Math.Path.{refl, ap}
use Rattle.std.proofs.Math.Bool.{true, false}
use Rattle.std.proofs.Common.{arith}
use Rattle.grammar.specs.Words.{Sym}
use Rattle.grammar.specs.Run.{◌<>◌, Res, P, pure, pick, ◌>>=◌, repeat, loop}

module _ (f : P Bool) (more : (r : List Sym) → (f r).val ≡ true → length (f r).rest < length r) where
  repeat_same : (n m : ℕ) (r : List Sym) → length r < n → length r < m → repeat n f r ≡ repeat m f r
  unfolding repeat ◌>>=◌
  repeat_same zero m r h k = absurd (omega arith)
  repeat_same (suc n) zero r h k = absurd (omega arith)
  repeat_same (suc n) (suc m) r h k =
      ap (λ (y : Res Bool). record { rest = y.rest; out = (f r).out <> y.out; val = y.val })
      (next (λ e. repeat_same n m (f r).rest (omega (arith, more r e)) (omega (arith, more r e))) (f r).val refl)
    where
      next : ((f r).val ≡ true → repeat n f (f r).rest ≡ repeat m f (f r).rest) → (u : Bool) → (f r).val ≡ u → pick u (repeat n f) (pure false) (f r).rest ≡ pick u (repeat m f) (pure false) (f r).rest
      next i true e = i e
      next i false e = refl

  pub loop_eq : (r : List Sym) → loop f r ≡ (f >>= λ c. pick c (loop f) (pure false)) r
  unfolding loop repeat ◌>>=◌
  loop_eq r = ap (λ (y : Res Bool). record { rest = y.rest; out = (f r).out <> y.out; val = y.val }) (next (f r).val refl)
    where
      next : (u : Bool) → (f r).val ≡ u → pick u (repeat (length r) f) (pure false) (f r).rest ≡ pick u (loop f) (pure false) (f r).rest
      next true e = repeat_same (length r) (suc (length (f r).rest)) (f r).rest (more r e) (omega arith)
      next false e = refl
