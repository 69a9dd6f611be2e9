-- `cst::masm_parse_text` meets its contract: short counts change nothing, else the numbers of the answer stand in them. Assumes nothing.
use Prim.Native.Nat.{ℕ, ◌≤◌, ◌<◌}
use mathlib.Core.Path.{◌≡◌, refl, sym, ap, ◌∙◌}
use mathlib.Core.List.{List, [], ◌∷◌, ◌++◌}
use native.Mathlib.Omega.{arith}
use Rattle.std.proofs.Common.{rules}
use borrow.Author.Tests.{lt-ltb, le-ltb}
use lib.ListN.{length, drop}
use Rattle.answer.specs.declared.Answer.{Answer}
use Rattle.answer.specs.declared.FourNumbers.{FourNumbers}
use Rattle.answer.specs.Numbers.{numbers}
use Rattle.answer.specs.Answer.{Slices, outcome, parse_text}
use Rattle.answer.specs.Call.{call, MasmParseText}
use Rattle.cst.proofs.masm_parse_text.Goals as goal

module _ (limit : ℕ) (source : List ℕ) (s : Slices) (counts : List ℕ) where
  too_short : {status : ℕ} → length counts < 3 → status ≡ 6 → MasmParseText limit source s counts status s counts
  unfolding call
  too_short h six =
      let e = lt-ltb (length counts) 3 h in
      record { status_is = six ∙ rw e refl; slices_are = rw e; counts_are = rw e }

  replies : (a : Answer) (s' : Slices) (n : FourNumbers) (words : List ℕ) → 3 ≤ length counts → outcome a s' ≡ parse_text limit source s
      → n ≡ numbers a → words ≡ n.first ∷ n.second ∷ n.third ∷ [] → MasmParseText limit source s counts n.status s' (words ++ drop 3 counts)
  unfolding call
  replies a s' n words h o e w =
      let k = le-ltb (length counts) 3 h in
      record {
        status_is = ap (λ (x : FourNumbers). x.status) e ∙ rw (k, sym o) refl;
        slices_are = rw (k, sym o) refl;
        counts_are = ap (λ (ws : List ℕ). ws ++ drop 3 counts) w ∙ rw (k, sym o, e) refl;
      }

pub returns-then-counts-lt3 : goal.returns-then-counts-lt3
returns-then-counts-lt3 c = too_short _ _ _ _ (omega arith) c.into.ensures

pub returns : goal.returns
returns c =
    replies _ _ _ _ _ _ _ _ (omega arith) (rw (sym c.parse_text-answer.ensures.answer) (search rules)) c.from-n.ensures c.copy_from_slice.ensures.after
