-- `lexer::class::class_of` meets its contract: computed tests over all 256 entries. Assumes nothing.
use mathlib.Core.Path.{◌≡◌, refl, ap, ◌∙◌}
use mathlib.Core.Bool.{Bool, true, ◌&&◌}
use mathlib.Core.List.{List, [], ◌∷◌, map}
use Prim.Native.Nat.{ℕ, zero, suc, ◌<◌}
use native.Mathlib.Nat.{le_of_suc-le-suc, not-suc-le-zero}
use borrow.Author.Rules.{rules}
use lib.ListN.{length, get_or}
use Rattle.std.proofs.lemmas.Bool.{and_parts}
use Rattle.lexer.specs.declared.class.Class.{Class}
use Rattle.lexer.specs.declared.class.Class.TheVariants.{Letter}
use Rattle.lexer.specs.declared.class.TheConstants.{CLASS}
use Rattle.lexer.specs.Chars.{class, punctuation, class_table}
use Rattle.lexer.specs.Code.{class_number, is_alone}
use Rattle.lexer.proofs.Laws.{entry}
use Rattle.lexer.proofs.class.class_of.Goals as goal

numbered : (t : List Class) (b : ℕ) (d : Class) → b < length t → class_number (get_or t b d) ≡ get_or (map class_number t) b 0
numbered [] b d h = absurd (not-suc-le-zero h)
numbered (c ∷ t) zero d h = refl
numbered (c ∷ t) (suc b) d h = numbered t b d (le_of_suc-le-suc h)

by_table : (t : List Class) (b : ℕ) (d : Class) → length t ≡ 256 → map class_number t ≡ class_table → b < 256 → class_number (get_or t b d) ≡ class b
unfolding class_table
by_table t b d n e h = numbered t b d (rw n h) ∙ ap (λ (l : List ℕ). get_or l b 0) e ∙ entry class 256 b h

every : List Class → Bool
every [] = true
every (c ∷ t) = is_alone c && every t

each : (t : List Class) (b : ℕ) (d : Class) → is_alone d ≡ true → every t ≡ true → is_alone (get_or t b d) ≡ true
unfolding every
each [] b d h e = h
each (c ∷ t) zero d h e = (and_parts (is_alone c) (every t) e).0
each (c ∷ t) (suc b) d h e = each t b d h (and_parts (is_alone c) (every t) e).1

pub returns-clause-number : goal.returns-clause-number
unfolding class_table class punctuation
returns-clause-number c = by_table CLASS c.args.b Letter refl refl (search rules)

pub returns-clause-alone : goal.returns-clause-alone
unfolding every
returns-clause-alone c = each CLASS c.args.b Letter refl refl
