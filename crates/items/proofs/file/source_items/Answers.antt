-- `items::file::source_items`: the items' loop without fuel; each round takes a token. Assumes nothing.
use mathlib.Core.Bool.{Bool, true, false, false≢true}
use mathlib.Core.List.{List, [], ◌∷◌}
use mathlib.Core.Path.{◌≡◌, refl, sym, ap, ◌∙◌}
use Prim.Native.Nat.{ℕ, ◌<◌}
use native.Mathlib.Omega.{arith}
use lib.ListN.{length}
use Rattle.grammar.specs.Block.{parse_block}
use Rattle.grammar.specs.Item.{parse_source_item, items_in}
use Rattle.lexer.specs.Syntax.{DocComment}
use Rattle.grammar.specs.Bump.{bump_while, while_round}
use Rattle.grammar.specs.Laws.Here.{is_not}
use Rattle.grammar.specs.Look.{one_of, at, eof, regular_trivia}
use Rattle.grammar.specs.Run.{leaf, pure, peek, take_token, scan, ◌>>=◌, ◌>>◌, when◌then◌else◌, P}
use Rattle.grammar.proofs.Theorems.NoFuel.{items_eq}
use Rattle.grammar.proofs.Theorems.Rounds.{round_takes}
use Rattle.grammar.specs.Words.{Sym, is}
use Rattle.parser.specs.Rep.{World, remaining, Ran, RanTo}
use Rattle.parser.proofs.Kit.{like_to, yes_to, no_to, done_to, ◌then◌, ◌then_to◌, goes_on}
use Rattle.parser.proofs.Laws.{past_here}
use Rattle.items.proofs.file.source_items.Goals as goal

module _ (limit : ℕ) where
  abbrev one : P Bool
  one = parse_source_item (parse_block limit)

  abbrev round : P Bool
  round = when eof then pure true else (one >> items_in limit)

  last : {w : World} → eof (remaining w) ≡ true → RanTo (items_in limit) w w true
  last e = like_to round (items_eq limit _) (yes_to eof _ refl e (done_to true))

  next : {w v w' : World} {r : Bool} → eof (remaining w) ≡ false → Ran one w v → RanTo (items_in limit) v w' r → RanTo (items_in limit) w w' r
  next e h k = like_to round (items_eq limit _) (no_to eof _ refl e (h then_to k))

  takes : (r : List Sym) → eof r ≡ false → length (one r).rest < length r
  unfolding eof
  takes [] e = absurd (false≢true (sym e))
  takes (s ∷ r) e = round_takes limit s r

  not_doc : (s : Sym) → regular_trivia s ≡ true → is DocComment s ≡ false
  unfolding one_of
  not_doc s e = is_not regular_trivia DocComment s refl e

  -- trivia is an item by itself
  trivia_round : (s : Sym) (r : List Sym) → regular_trivia s ≡ true → round (s ∷ r) ≡ record { rest = (items_in limit r).rest; out = leaf s (items_in limit r).out; val = (items_in limit r).val }
  unfolding parse_source_item ◌>>=◌ peek at eof take_token
  trivia_round s r e = rw (not_doc s e, e)

  trivia_first : (r : List Sym) → items_in limit r ≡ (bump_while regular_trivia >> items_in limit) r
  unfolding bump_while while_round scan ◌>>=◌ at
  trivia_first [] = refl
  trivia_first (s ∷ r) = by_test (regular_trivia s) refl (trivia_first r)
    where
      by_test : (u : Bool) → regular_trivia s ≡ u → items_in limit r ≡ (bump_while regular_trivia >> items_in limit) r
          → items_in limit (s ∷ r) ≡ (bump_while regular_trivia >> items_in limit) (s ∷ r)
      by_test true e h =
          rw e (items_eq limit (s ∷ r) ∙ trivia_round s r e ∙ ap (λ x. record { rest = x.rest; out = leaf s x.out; val = x.val }) h)
      by_test false e h = rw e refl

  absorbs : {w v w' : World} {r : Bool} → Ran (bump_while regular_trivia) w v → RanTo (items_in limit) v w' r → RanTo (items_in limit) w w' r
  absorbs h k = like_to (bump_while regular_trivia >> items_in limit) (trivia_first _) (h then_to k)

pub loop-limit-smaller : goal.loop-limit-smaller
loop-limit-smaller c =
    let m = past_here c.parse_source_item-d.ensures (takes c.args.limit.forms _ (sym c.eof.ensures ∙ c.loop-limit-test.true)) in
    omega (arith, m, c.bump_regular_trivia-c.ensures.onward)

pub loop-limit-preserved : goal.loop-limit-preserved
loop-limit-preserved c =
    let z = sym c.eof.ensures ∙ c.loop-limit-test.true in
    goes_on c.loop-limit.invariant (λ w' r k. next _ z c.parse_source_item-d.ensures (absorbs _ c.bump_regular_trivia-c.ensures k))

pub returns : goal.returns
returns c =
    (c.loop-limit.invariant.on _ _ (last _ (sym c.eof.ensures ∙ c.loop-limit-test.false))).ran
