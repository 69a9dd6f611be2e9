-- Functions of the code that do several steps of a definition. Assumes nothing.
use mathlib.Core.List.{List}
use mathlib.Core.Path.{◌≡◌, sym, ap, ◌∙◌}
use Rattle.grammar.specs.Words.{Sym}
use Rattle.grammar.specs.Run.{Forest, ◌<>◌, Res, P, ◌>>=◌, ◌>>◌}
use Rattle.grammar.specs.Laws.Good.{app_assoc}
use Rattle.parser.specs.declared.cursor.Cursor.{Cursor}
use Rattle.parser.specs.declared.state.Parser.{Parser}
use Rattle.parser.specs.Rep.{World, world, Ran}
use Rattle.parser.proofs.Kit.{like}

-- ---- steps and then what comes behind them, as the definition puts them: one step and then the others
pub two : {A B C : Type 0} (f : P A) (g : P B) (k : B → P C) (r : List Sym) → ((f >> g) >>= k) r ≡ (f >> (g >>= k)) r
unfolding ◌>>=◌
two f g k r =
    let x = f r in
    let y = g x.rest in
    let z = k y.val y.rest in
    ap (λ (o : Forest). record { rest = z.rest; out = o; val = z.val }) (app_assoc x.out y.out z.out)

-- behind f
later : {A B : Type 0} (f : P A) {g g' : P B} → ((r : List Sym) → g r ≡ g' r) → (r : List Sym) → (f >> g) r ≡ (f >> g') r
unfolding ◌>>=◌
later {B} f e r = ap (λ (u : Res B). record { rest = u.rest; out = (f r).out <> u.out; val = u.val }) (e (f r).rest)

pub three : {A B C D : Type 0} (f : P A) (g : P B) (h : P C) (k : C → P D) (r : List Sym) → ((f >> g >> h) >>= k) r ≡ (f >> g >> (h >>= k)) r
three f g h k r = two f (g >> h) k r ∙ later f (two g h k) r

pub five : {A B C D E G : Type 0} (f : P A) (g : P B) (h : P C) (i : P D) (j : P E) (k : E → P G) (r : List Sym)
    → ((f >> g >> h >> i >> j) >>= k) r ≡ (f >> g >> h >> i >> (j >>= k)) r
five f g h i j k r = three f g (h >> i >> j) k r ∙ later f (later g (three h i j k)) r

-- the definition h is these steps f
pub steps : {A : Type 0} {f h : P A} {w w' : World} → ((r : List Sym) → f r ≡ h r) → Ran f w w' → Ran h w w'
steps {f} e s = like f (sym (e _)) s

-- where two ways come together
pub reaches : {A : Type 0} {f : P A} {w : World} {p p' : Parser} {c c' : Cursor} → p' ≡ p → c' ≡ c → Ran f w (world p c) → Ran f w (world p' c')
reaches e q h = rw (e, q) h
