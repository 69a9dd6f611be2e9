-- `lexer::runs::blocks_in_line` meets its contract: a block with no line end is passed whole. Assumes nothing.
use Prim.Native.Nat.{ℕ, ◌+◌, ◌≤◌, ◌<◌}
use native.Mathlib.Nat.{zero-add}
use mathlib.Core.Path.{◌≡◌, sym, ap, ◌∙◌}
use mathlib.Core.Bool.{Bool}
use mathlib.Core.List.{List, ◌++◌}
use native.Mathlib.Omega.{arith}
use borrow.Author.Rules.{rules}
use lib.ListN.{length, get_or, drop, length-drop, get_or-append}
use lib.Seq.{drop-drop, get_or-drop}
use Rattle.std.proofs.Common.{length-append}
use Rattle.std.proofs.Math.Seq.{drop-append_seam}
use Rattle.lexer.specs.Lexer.{in_line}
use Rattle.lexer.specs.Code.{AllHold}
use Rattle.lexer.proofs.Laws.{reaches_over}
use Rattle.lexer.proofs.runs.blocks_in_line.Goals as goal

-- a block that the source has at an offset
module _ (s : List ℕ) (at n : ℕ) (block rest : List ℕ) (e : drop at s ≡ block ++ rest) (size : length block ≡ n) where
  block_within : at ≤ length s → at + n ≤ length s
  block_within h = omega (arith, length-drop at s, ap length e, length-append block rest)

  block_holds : (p : ℕ → Bool) → AllHold p block 0 (length block) → AllHold p s at n
  block_holds p all = λ k l.
      let m : k < length block = omega arith in
      ap p (sym (get_or-drop at s k 0) ∙ ap (λ (l : List ℕ). get_or l k 0) e ∙ get_or-append block rest 0 k m) ∙ rw zero-add at (all k m)

  behind_block : rest ≡ drop (at + n) s
  behind_block = sym (drop-append_seam block rest) ∙ ap (λ (m : ℕ). drop m (block ++ rest)) size ∙ ap (drop n) (sym e) ∙ drop-drop n at s

pub loop-block-preserved : goal.loop-block-preserved
loop-block-preserved c =
    let l = c.loop-block in
    let i = l.invariant in
    let step = c.in-Some.ensures.steps in
    let e = sym i.3 ∙ step.1.0 in
    let size = step.1.1 ∙ i.2 in (
      omega (arith, step.0, i.2),
      search rules,
      step.0 ∙ i.2,
      behind_block c.args.rest.now l.at 16 _ _ e size,
      reaches_over i.4 16 (block_within c.args.rest.now l.at 16 _ _ e size i.4.within)
          (block_holds c.args.rest.now l.at 16 _ _ e size in_line (c.all_in_line.ensures (search rules))),
    )
