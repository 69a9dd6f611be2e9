-- Only the innermost block that meets the end of the file reports its missing closer; where the depth diagnostic stands none does.
-- Assumes nothing.
use Rattle.std.specs.Prelude.{ℕ, suc, ◌+◌, ◌≡◌, refl, Bool, true, false, List, [], ◌∷◌, ◌++◌, length}
use Rattle.std.proofs.Common.{◌∙◌, append-nil, length-append, arith}
use Rattle.std.proofs.Math.Nat.{add-zero, zero-add}
use Rattle.lexer.specs.Syntax
use Rattle.grammar.specs.Words.{Sym, is}
use Rattle.grammar.specs.Run.{Kind, Error, Block, Forest, nil, leaf, node, say, ◌<>◌, leaves, Res}
use Rattle.grammar.specs.Message.{number, missing_end_number, plain_number, NestingTooDeep}
use Rattle.grammar.specs.Block.{BlockOwner}
use Rattle.grammar.specs.Item.{items_in, parse}
use Rattle.grammar.specs.Out.{Diag, noted, dg, diags}
use Rattle.grammar.specs.Endings.{ending, endings, Endings, holder, Unclosed, FileEnd}
use Rattle.grammar.specs.Laws.Good.{leaves_app, Calm}
use Rattle.grammar.specs.Laws.Out.{dg_app}
use Rattle.grammar.specs.Laws.Finish.{Final, silent, met_end}
use Rattle.grammar.proofs.Laws.FinishItem.{finishes_items}
use Rattle.grammar.proofs.Theorems.AllTokens.{all_tokens}

-- In the forest: which block reports.
pub innermost_reports : (limit : ℕ) (a : List Sym) → FileEnd (parse limit a)
unfolding parse items_in
innermost_reports limit a = c (finishes_items (suc (length a)) limit a (omega arith))
  where
    c : {x : Res Bool} → Final Unclosed true x → FileEnd x.out
    c {x} (silent k) = FileEnd.none_reports x.out k
    c (met_end y z k q e l v) = rw e (FileEnd.unclosed y z k q)

-- ---- In the diagnostics.
endings_app : (l m : List Diag) → endings (l ++ m) ≡ endings l ++ endings m
endings_app [] m = refl
endings_app (d ∷ l) m = grind (arith, endings_app l m)

-- An unrecognized token is no ending.
endings_noted : (u : Bool) (i : ℕ) (l : List Diag) → endings (noted u i l) ≡ endings l
unfolding number
endings_noted true i l = refl
endings_noted false i l = refl

calm_endings : (i : ℕ) (x : Forest) → Calm ending x → endings (dg i x) ≡ []
calm_endings i nil k = refl
calm_endings i (leaf s x) k = endings_noted (is Syntax.Error s) i (dg (suc i) x) ∙ calm_endings (suc i) x k
calm_endings i (node n c x) k = endings_app (dg i c) (dg (i + length (leaves c)) x) ∙ rw (calm_endings i c k.0) (calm_endings (i + length (leaves c)) x k.1)
calm_endings i (say m x) k = rw k.0 (calm_endings i x k.1)

-- x and then y, by what holds of y wherever it stands.
behind : (i : ℕ) (x y : Forest) → Calm ending x → ((j : ℕ) → Endings (j + length (leaves y)) (endings (dg j y))) → Endings (i + length (leaves (x <> y))) (endings (dg i (x <> y)))
behind i x y k e = rw (dg_app i x y, endings_app (dg i x) (dg (i + length (leaves x)) y), calm_endings i x k, count) (e (i + length (leaves x)))
  where
    count : i + length (leaves (x <> y)) ≡ i + length (leaves x) + length (leaves y)
    count = rw leaves_app (omega (arith, length-append (leaves x) (leaves y)))

in_node_lem : (i : ℕ) (k : Kind) (x : Forest) → Endings (i + length (leaves x)) (endings (dg i x)) → Endings (i + length (leaves (node k x nil))) (endings (dg i (node k x nil)))
in_node_lem i k x e = rw (append-nil (dg i x), append-nil (leaves x)) e

tree : (i : ℕ) (k : Kind) (x y : Forest) → Calm ending x → ((j : ℕ) → Endings (j + length (leaves y)) (endings (dg j y))) → Endings (i + length (leaves (node k (x <> y) nil))) (endings (dg i (node k (x <> y) nil)))
tree i k x y c e = in_node_lem i k (x <> y) (behind i x y c e)

owner_ending : (w : BlockOwner) → ending (missing_end_number w) ≡ true
owner_ending BlockOwner.Begin = refl
owner_ending BlockOwner.Procedure = refl
owner_ending BlockOwner.If = refl
owner_ending BlockOwner.While = refl
owner_ending BlockOwner.DoWhileBody = refl
owner_ending BlockOwner.DoWhile = refl
owner_ending BlockOwner.Repeat = refl

report : (w : BlockOwner) (i : ℕ) → Endings (i + 0) (endings (dg i (say (missing_end_number w) nil)))
report w i = rw (owner_ending w, add-zero i) (Endings.missing_closer w)

unclosed_endings : {x : Forest} → Unclosed x → (i : ℕ) → Endings (i + length (leaves x)) (endings (dg i x))
unclosed_endings (Unclosed.reports w x y c d) i =
    let m = say (missing_end_number w) nil in
    tree i (holder w) x (node Block (y <> m) nil) c (λ j. tree j Block y m d (report w))
unclosed_endings (Unclosed.rest_of_file x c) i = in_node_lem i Error (say (plain_number NestingTooDeep) x) (rw (calm_endings i x c) (Endings.past_limit i))
unclosed_endings (Unclosed.in_last k x y c u) i = tree i k x y c (λ j. unclosed_endings u j)

file_endings : {x : Forest} → FileEnd x → Endings (0 + length (leaves x)) (endings (dg 0 x))
file_endings (FileEnd.none_reports x k) = rw (calm_endings 0 x k) Endings.no_ending
file_endings (FileEnd.unclosed x y k u) = behind 0 x y k (unclosed_endings u)

-- At most one diagnostic has a number from 1 to 7 or 49; one from 1 to 7 stands at the end of the file.
pub one_missing_end : (limit : ℕ) (a : List Sym) → Endings (length a) (endings (diags limit a))
unfolding diags
one_missing_end limit a = rw (all_tokens limit a, zero-add (length a)) at (file_endings (innermost_reports limit a))
