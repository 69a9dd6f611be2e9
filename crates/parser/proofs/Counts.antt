-- Loops that count delimiters: a round reports what bump_nesting reports, takes the token, and goes on with its counts. Assumes nothing.
use mathlib.Core.Bool.{Bool, false, true, cond}
use mathlib.Core.List.{List}
use mathlib.Core.Path.{◌≡◌, refl, sym, ap, subst, ◌∙◌}
use Prim.Native.Nat.{ℕ, pred, ◌+◌, ◌≤◌}
use native.Mathlib.Nat.{pred-le}
use native.Mathlib.Omega.{arith}
use lib.Dec.{eqb}
use Rattle.std.specs.Prelude.{Result, Ok, Err}
use Rattle.lexer.specs.Syntax.{LBrace, LBracket, LParen, RBrace, RBracket, RParen}
use Rattle.grammar.specs.Words.{Sym, is}
use Rattle.grammar.specs.Look
use Rattle.grammar.specs.Run
use Rattle.grammar.specs.Run.{P, pure, ◌>>=◌, ◌>>◌, take_token, Round, scan}
use Rattle.grammar.specs.declared.message.Message.{Message}
use Rattle.grammar.specs.Message.{number}
use Rattle.grammar.specs.declared.nesting.Closer.{Closer}
use Rattle.grammar.specs.declared.nesting.Nesting.{Nesting}
use Rattle.grammar.specs.Nesting.{default, counted, bump_nesting, bump_by, NestingBelow, open_paren, open_bracket, open_brace}
use Rattle.parser.specs.Rep.{World, file, remaining, Ran, RanTo, ErrorHere, Bump}
use Rattle.parser.specs.Counts.{reported, counts, BumpNesting, BumpNested}
use Rattle.parser.proofs.Kit.{Leads, begins_as, goes_on, scan_go_eq, scan_warn_eq, like_to, done, ◌then◌, ◌then_to◌}
use Rattle.parser.proofs.Laws.{eof_within}

-- ---- a token adds at most 1 to a count
module _ (b : ℕ) (n : Nesting) (h : NestingBelow b n) where
  record Grown (x : Result Nesting Closer) : Type 0 where
    below : NestingBelow (b + 1) (counts n x)

  either : (t : Bool) {x y : Result Nesting Closer} → Grown x → Grown y → Grown (cond t x y)
  either true p q = p
  either false p q = q

  abbrev Within : Nesting → Type 0
  Within m = (m.parens ≤ n.parens + 1) × (m.brackets ≤ n.brackets + 1) × (m.braces ≤ n.braces + 1)

  grown : (m : Nesting) → Within m → Grown (Ok m)
  unfolding counts
  grown m w = record { below = record { parens = omega (arith, h, w); brackets = omega (arith, h, w); braces = omega (arith, h, w) } }

  refused : (c : Closer) → Grown (Err c)
  unfolding counts
  refused c = record { below = record { parens = omega (arith, h); brackets = omega (arith, h); braces = omega (arith, h) } }

  pub bump_below : (k : Sym) → NestingBelow (b + 1) (counts n (bump_by n k))
  unfolding bump_by
  bump_below k =
      let p : Nesting = record { parens = pred n.parens; brackets = n.brackets; braces = n.braces } in
      let q : Nesting = record { parens = n.parens; brackets = pred n.brackets; braces = n.braces } in
      let r : Nesting = record { parens = n.parens; brackets = n.brackets; braces = pred n.braces } in
      (either (is LParen k) (grown (open_paren n) (omega arith, omega arith, omega arith))
      (either (is LBracket k) (grown (open_bracket n) (omega arith, omega arith, omega arith))
      (either (is LBrace k) (grown (open_brace n) (omega arith, omega arith, omega arith))
      (either (is RParen k) (either (eqb 0 n.parens) (refused Closer.Paren) (grown p (omega (arith, pred-le n.parens), omega arith, omega arith)))
      (either (is RBracket k) (either (eqb 0 n.brackets) (refused Closer.Bracket) (grown q (omega arith, omega (arith, pred-le n.brackets), omega arith)))
      (either (is RBrace k) (either (eqb 0 n.braces) (refused Closer.Brace) (grown r (omega arith, omega arith, omega (arith, pred-le n.braces))))
      (grown n (omega arith, omega arith, omega arith)))))))).below

pub below_le : {b b' : ℕ} {n : Nesting} → b ≤ b' → NestingBelow b n → NestingBelow b' n
below_le h l = record { parens = omega (arith, l); brackets = omega (arith, l); braces = omega (arith, l) }

-- the counts of Nesting::default, which says them one by one
all_closed : (n : Nesting) → (n.parens ≡ 0) × ((n.brackets ≡ 0) × (n.braces ≡ 0)) → n ≡ default
all_closed n h = rw (h.0, h.1.0, h.1.1)

pub none_open : {n : Nesting} (p : ℕ) → (n.parens ≡ 0) × ((n.brackets ≡ 0) × (n.braces ≡ 0)) → NestingBelow (p + 1) n
none_open p h = record { parens = omega (arith, h); brackets = omega (arith, h); braces = omega (arith, h) }

-- ---- scan
module _ {L : Type 0} (step : L → List Sym → Round L) where
  counted_eq : (n : Nesting) (locals : Nesting → L) (x : Result Nesting Closer) (l : L) (r : List Sym) → Look.eof r ≡ false → step l r ≡ counted n locals x
      → scan step l r ≡ ((reported x >> take_token) >> scan step (locals (counts n x))) r
  unfolding counted reported counts pure ◌>>=◌ Run.err
  counted_eq n locals (Ok n') l r z e = scan_go_eq step l (locals n') r z e
  counted_eq n locals (Err c) l r z e = scan_warn_eq step l (locals n) _ r z e

  -- `locals` makes the loop's locals of the counts
  pub loop_begins : {w : World} {n : Nesting} (locals : Nesting → L) → (n.parens ≡ 0) × ((n.brackets ≡ 0) × (n.braces ≡ 0)) → Leads (scan step (locals default)) w (scan step (locals n)) w
  loop_begins locals h = begins_as (ap (λ n. scan step (locals n)) (sym (all_closed _ h)))

  pub loop_counts : {f₀ : P L} {w₀ w v : World} {n n' : Nesting} {l l' : L} {x : Bool} (locals : Nesting → L) → Leads f₀ w₀ (scan step l) w → x ≡ Look.eof (remaining w) → x ≡ false
      → step l (remaining w) ≡ bump_nesting n (Look.current (remaining w)) locals → BumpNested n w v n' → locals n' ≡ l' → Leads f₀ w₀ (scan step l') v
  unfolding bump_nesting
  loop_counts {w = w} {v = v} {n = n} {l = l} locals i q z e m j =
      let x = bump_by n (Look.current (remaining w)) in
      goes_on i (λ w' r h. like_to ((reported x >> take_token) >> scan step (locals (counts n x))) (counted_eq n locals x l _ (sym q ∙ z) e)
      (m.ran then_to subst (λ k. RanTo (scan step k) v w' r) (sym j ∙ ap locals m.is) h))

-- ---- bump_nesting
module _ {n : Nesting} {k : Sym} {w : World} (x : Result Nesting Closer) (b : x ≡ bump_by n k) where
  pub counted_go : {m : Nesting} → x ≡ Ok m → BumpNesting n k w w m
  unfolding reported counts
  counted_go {m} e =
      let q = sym b ∙ e in
      record {
        ran = subst (λ x. Ran (reported x) w w) (sym q) (done true);
        is = sym (ap (counts n) q);
        below = λ i h. subst (NestingBelow (i + 1)) (ap (counts n) q) (bump_below i n h k);
        pos = refl;
        events = refl;
      }

  pub counted_refused : {y : Closer} {w' : World} → x ≡ Err y → ErrorHere (number (Message.UnexpectedCloser y)) w w' → BumpNesting n k w w' n
  unfolding reported counts
  counted_refused {y} {w'} e s =
      let q = sym b ∙ e in
      record {
        ran = subst (λ x. Ran (reported x) w w') (sym q) s.ran;
        is = sym (ap (counts n) q);
        below = λ i h. subst (NestingBelow (i + 1)) (ap (counts n) q) (bump_below i n h k);
        pos = s.pos;
        events = s.events;
      }

-- ---- and bump behind it
pub counted_taken : {w v w' : World} {n n' : Nesting} {k : Sym} → k ≡ Look.current (remaining w) → Look.eof (remaining w) ≡ false → NestingBelow (w.c.pos + 1) n
    → BumpNesting n k w v n' → Bump v w' → BumpNested n w w' n'
counted_taken {w} {v} {w'} {n} q z b m t =
    let h = eof_within (file w) w.c.pos refl z in
    let on = t.moved (omega (arith, h, m.pos, m.ran.onward.tokens)) in
    record {
      ran = subst (λ j. Ran (reported (bump_by n j) >> take_token) w w') q (m.ran then t.ran);
      is = m.is ∙ ap (λ j. counts n (bump_by n j)) q;
      below = below_le (omega (arith, on, m.pos)) (m.below _ b);
      past = record { on = omega (arith, on, m.pos); within = h };
    }
