-- `items::arm::item_arm_here`: by the token here and the declaration that it starts. Assumes nothing.
use mathlib.Core.List.{List}
use mathlib.Core.Path.{◌≡◌, refl, sym, ap₂, ◌∙◌}
use borrow.Author.Tests.{eq-eqb, ne_eqb, lt-ltb, le-ltb}
use Rattle.grammar.specs.Look.{current}
use Rattle.grammar.specs.Words.{Sym}
use Rattle.items.specs.Arms.{item_arm, arm_by}
use Rattle.items.specs.declared.arm.ItemArm.{ItemArm}
use Rattle.parser.specs.Ahead.{declared}
use Rattle.items.proofs.Arms.{arm_is}
use Rattle.items.proofs.arm.item_arm_here.Goals as goal

-- the arm by these tokens, where they are the ones here
found : {a : ItemArm} {k d : Sym} (r : List Sym) → a ≡ arm_by k d → k ≡ current r → d ≡ declared r → a ≡ item_arm r
found r e p q = e ∙ ap₂ arm_by p q ∙ arm_is r

pub returns-then-k-lt-MARK : goal.returns-then-k-lt-MARK
unfolding arm_by
returns-then-k-lt-MARK c = found _ (rw (lt-ltb _ _ c.if-k-lt-MARK.true) c.plain_arm.ensures) c.current-k.ensures refl

pub returns-then-k-eq-PUB : goal.returns-then-k-eq-PUB
unfolding arm_by
returns-then-k-eq-PUB c =
    found _ (rw (le-ltb _ _ c.if-k-lt-MARK.false, eq-eqb _ _ (sym c.if-k-eq-PUB.true)) c.declaration_arm.ensures) c.current-k.ensures c.declared.ensures

pub returns : goal.returns
unfolding arm_by
returns c =
    found _ (rw (le-ltb _ _ c.if-k-lt-MARK.false, ne_eqb _ _ (λ e. c.if-k-eq-PUB.false (sym e))) c.word_arm.ensures) c.current-k.ensures refl
