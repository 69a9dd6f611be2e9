-- A procedure or begin block whose `end` is the last token but a newline does the same in a file that goes on.
-- Assumes nothing.
use Rattle.std.specs.Prelude.{ℕ, ◌≡◌, Bool, cond, not, ◌&&◌}
use Rattle.std.proofs.Math.Path.{refl}
use Rattle.std.proofs.Common.{sym, ◌∙◌, ap, ap₂, subst, true≢false, arith}
use Rattle.std.proofs.Math.Bool.{true, false, and-false}
use Rattle.std.proofs.lemmas.Bool.{false≢true}
use mathlib.Core.List.{List, [], ◌∷◌, ◌++◌}
use Rattle.lexer.specs.Syntax.{Newline, DocComment, LParen, RParen}
use Rattle.grammar.specs.Words.{Sym, is, ADV_MAP, BEGIN, CONST, END, ENUM, MOD, NAMESPACE, PROC, TYPE}
use Rattle.grammar.specs.Look.{one_of, regular_trivia, at, next_relevant_top_level_token}
use Rattle.grammar.specs.Run.{Kind, Block, Procedure, BeginBlock, Doc, nil, leaf, leaves, Res, P, pure, peek, in_node, pick, ◌>>=◌, ◌>>◌, when◌then◌else◌, take_token, err, stop, go, turn, scan}
use Rattle.grammar.specs.Message.{Message, ExpectedProc, number}
use Rattle.grammar.specs.Bump.{nop, while_round, bump_while, bump_regular_trivia, expect_kind, error_token}
use Rattle.grammar.specs.Block.{BlockOwner, Terminators, BlockParseOutcome, closing, parse_block}
use Rattle.grammar.specs.Item.{procedure_body, parse_procedure, parse_begin_block, parse_namespace, parse_submodule, parse_constant, parse_type_decl, parse_advice_map, at_declaration, at_procedure, parse_source_item}
use Rattle.grammar.specs.Laws.Ahead.{Tail, here, Cond, more}
use Rattle.grammar.specs.Laws.Good.{goes_bind, goes_node, Calm, calm_app, ext, Good, good_pure, good_take, good_node, good_bind, good_if}
use Rattle.grammar.specs.Laws.Stable.{test_at, good_while, good_expect, good_name, good_error_token, good_tail}
use Rattle.grammar.proofs.Laws.StableBlock.{good_closing, equal, good_in}
use Rattle.grammar.proofs.Laws.StableItem.{good_visibility, good_attributes, good_signature, good_namespace, good_submodule, test_declaration, test_procedure, good_constant, good_type, good_advice_map}
use Rattle.grammar.specs.Laws.Numbers.{no_message}
use Rattle.grammar.specs.Laws.Shut.{empty, ends_end, ends_leaf, top_block, shuts, shuts_leaf, empty_app, ends_app, leaf_app, ends_tail, shuts_tail}
use Rattle.std.proofs.lemmas.Bool.{eqb-true}

-- The last newline only is left.
abbrev LeftNl : {A : Type 0} → Res A → Type 0
LeftNl x = x.rest ≡ Newline ∷ []

-- As Good, where the newline only is left, and the function's last tree is the `end` before it. If it is a token, it is that `end`.
record Ends (b : List Sym) {A : Type 0} (f f' : P A) : Type 0 where
  good : Good b no_message f f'
  word : (r : List Sym) → LeftNl (f r) → ends_leaf (f r).out ≡ true → ends_end (f r).out ≡ true
  full : (r : List Sym) → LeftNl (f r) → empty (f r).out ≡ false
  goes : (r : List Sym) → LeftNl (f r) → ends_end (f r).out ≡ true → Calm no_message (f r).out → f' (r ++ b) ≡ ext b (f r)

-- And where its last tree is a node that this `end` closes.
pub record Closes (b : List Sym) {A : Type 0} (f f' : P A) : Type 0 where
  pub good : Good b no_message f f'
  pub word : (r : List Sym) → LeftNl (f r) → shuts_leaf (f r).out ≡ true → shuts (f r).out ≡ true
  pub goes : (r : List Sym) → LeftNl (f r) → shuts (f r).out ≡ true → Calm no_message (f r).out → f' (r ++ b) ≡ ext b (f r)

-- What f goes on with, at the value a: it ends so, or it never leaves the newline.
data Then (b : List Sym) {A B : Type 0} (f : P A) (a : A) (g g' : P B) : Type 0 where
  ends : Ends b g g' → Then b f a g g'
  never : Good b no_message g g' → ((r : List Sym) → (f r).val ≡ a → LeftNl (g (f r).rest) → ⊥) → Then b f a g g'

then_good : {b : List Sym} {A B : Type 0} {f : P A} {a : A} {g g' : P B} → Then b f a g g' → Good b no_message g g'
then_good (ends e) = e.good
then_good (never h n) = h

-- bump_regular_trivia stops at no trivia.
trivia_stop : (r : List Sym) → at regular_trivia (bump_regular_trivia r).rest ≡ false
unfolding at bump_while scan while_round
trivia_stop [] = refl
trivia_stop (s ∷ r) = c (regular_trivia s) refl (trivia_stop r)
  where
    c : (u : Bool) → regular_trivia s ≡ u → at regular_trivia (scan (while_round regular_trivia) true r).rest ≡ false → at regular_trivia (turn (cond u (go true) stop) true s r (λ l. scan (while_round regular_trivia) l r)).rest ≡ false
    c true e h = h
    c false e h = e

module _ {b : List Sym} where
  ends_bind : {A B : Type 0} {f f' : P A} {g g' : A → P B} → Good b no_message f f' → ((a : A) → Then b f a (g a) (g' a)) → Ends b (f >>= g) (f' >>= g')
  unfolding ◌>>=◌
  ends_bind {A} {B} {f} {f'} {g} {g'} F G = record { good = good_bind F (λ a. then_good (G a)); word = λ r. w r (G (f r).val); full = λ r. u r (G (f r).val); goes = λ r. h r (G (f r).val) }
    where
      w : (r : List Sym) → Then b f (f r).val (g (f r).val) (g' (f r).val) → LeftNl ((f >>= g) r) → ends_leaf ((f >>= g) r).out ≡ true → ends_end ((f >>= g) r).out ≡ true
      w r (never H n) e l = absurd (n r refl e)
      w r (ends E) e l =
          let y : Res B = g (f r).val (f r).rest in
          let full : empty y.out ≡ false = E.full (f r).rest e in
          ends_app (f r).out y.out full ∙ E.word (f r).rest e (sym (leaf_app (f r).out y.out full) ∙ l)

      u : (r : List Sym) → Then b f (f r).val (g (f r).val) (g' (f r).val) → LeftNl ((f >>= g) r) → empty ((f >>= g) r).out ≡ false
      u r (ends E) e = rw (empty_app, E.full (f r).rest e) (and-false (empty (f r).out))
      u r (never H n) e = absurd (n r refl e)

      h : (r : List Sym) → Then b f (f r).val (g (f r).val) (g' (f r).val) → LeftNl ((f >>= g) r) → ends_end ((f >>= g) r).out ≡ true → Calm no_message ((f >>= g) r).out → (f' >>= g') (r ++ b) ≡ ext b ((f >>= g) r)
      h r (never H n) e m k = absurd (n r refl e)
      h r (ends E) e m k =
          let y : Res B = g (f r).val (f r).rest in
          let p = calm_app no_message (f r).out y.out k in
          let q : ends_end y.out ≡ true = sym (ends_app (f r).out y.out (E.full (f r).rest e)) ∙ m in
          let t : Tail (f r).rest = subst Tail (ap (λ l. leaves y.out ++ l) (sym e) ∙ E.good.split (f r).rest) (ends_tail y.out q) in
          goes_bind b f f' g g' r (F.goes r (more t) p.0) (E.goes (f r).rest e q p.1)

nil_nl : {s : Sym} {l : List Sym} → ◌≡◌ {A = List Sym} [] (s ∷ l) → ⊥
nil_nl e = grind (arith, e)

-- What expect does behind the trivia.
abbrev key : Sym → Message → P Bool
key k m l = pick (at (is k) l) (take_token >> pure true) (err (number m) >> pure false) l

-- Where expect leaves the newline, it takes what it asks for: only that and the newline stand behind the trivia.
expect_left : (k : Sym) (m : Message) (r : List Sym) → LeftNl (expect_kind k m r) → (bump_regular_trivia r).rest ≡ k ∷ Newline ∷ []
unfolding expect_kind ◌>>=◌ peek take_token err pure at one_of
expect_left k m r e = c (bump_regular_trivia r).rest (trivia_stop r) e
  where
    c : (l : List Sym) → at regular_trivia l ≡ false → LeftNl (key k m l) → l ≡ k ∷ Newline ∷ []
    c [] h e = absurd (nil_nl e)
    c (s ∷ l) h e = d (is k s) refl e
      where
        d : (u : Bool) → is k s ≡ u → LeftNl (pick u (take_token >> pure true) (err (number m) >> pure false) (s ∷ l)) → ◌≡◌ {A = List Sym} (s ∷ l) (k ∷ Newline ∷ [])
        d true q e = ap₂ ◌∷◌ (sym (eqb-true k s q)) e
        d false q e = absurd (false≢true (sym h ∙ ap (at regular_trivia) e))

-- expect_keyword("end", ..) then ends in that `end`, and does the same in a file that goes on.
expect_word : (m : Message) (r : List Sym) → LeftNl (expect_kind END m r) → ends_end (expect_kind END m r).out ≡ true
unfolding expect_kind ◌>>=◌ peek take_token err pure at
expect_word m r e = rw (expect_left END m r e) (ends_app (bump_regular_trivia r).out (leaf END nil) refl)

expect_end : (b : List Sym) (m : Message) (r : List Sym) → LeftNl (expect_kind END m r) → Calm no_message (expect_kind END m r).out → expect_kind END m (r ++ b) ≡ ext b (expect_kind END m r)
unfolding expect_kind ◌>>=◌ peek take_token err pure at
expect_end b m r e calm =
    let z : Res Bool = bump_regular_trivia r in
    let q : z.rest ≡ END ∷ Newline ∷ [] = expect_left END m r e in
    rw ((good_while regular_trivia).goes r (more (rw q here)) (calm_app no_message z.out (key END m z.rest).out calm).0, q)

-- A block and its `end`.
ends_block : {b : List Sym} (j : Kind) (w : BlockOwner) {f f' : P BlockParseOutcome} → Good b no_message f f' → Ends b (in_node j f >>= closing w) (in_node j f' >>= closing w)
unfolding ◌>>=◌ in_node closing pure
ends_block {b} j w {f} {f'} F = record { good = good_bind (good_node j F) (λ o. good_closing w o); word = λ r. v (f r).val (f r).rest; full = λ r e. refl; goes = h }
  where
    v : (o : BlockParseOutcome) (l : List Sym) → LeftNl (closing w o l) → ends_leaf (closing w o l).out ≡ true → ends_end (closing w o l).out ≡ true
    v BlockParseOutcome.FoundTerminator l e n = expect_word (Message.MissingEnd w) l e
    v BlockParseOutcome.RecoveredImplicitEnd l e n = absurd (false≢true n)
    v BlockParseOutcome.ReachedEof l e n = absurd (false≢true n)

    c : (o : BlockParseOutcome) (l : List Sym) → LeftNl (closing w o l) → ends_end (closing w o l).out ≡ true → Calm no_message (closing w o l).out → Tail l × (closing w o (l ++ b) ≡ ext b (closing w o l))
    c BlockParseOutcome.FoundTerminator l e n k =
        let x : Res Bool = expect_kind END (Message.MissingEnd w) l in (
          subst Tail (ap (λ i. leaves x.out ++ i) (sym e) ∙ (good_expect {b = b} {bad = no_message} END (Message.MissingEnd w)).split l) (ends_tail x.out n),
          expect_end b (Message.MissingEnd w) l e k,
        )
    c BlockParseOutcome.RecoveredImplicitEnd l e n k = absurd (false≢true n)
    c BlockParseOutcome.ReachedEof l e n k = absurd (false≢true n)

    h : (r : List Sym) → LeftNl ((in_node j f >>= closing w) r) → ends_end ((in_node j f >>= closing w) r).out ≡ true → Calm no_message ((in_node j f >>= closing w) r).out → (in_node j f' >>= closing w) (r ++ b) ≡ ext b ((in_node j f >>= closing w) r)
    h r e n k = let q = c (f r).val (f r).rest e n k.1 in goes_bind b (in_node j f) (in_node j f') (closing w) (closing w) r (goes_node b j f f' r (F.goes r (more q.0) k.0)) q.1

-- expect that fails leaves something else.
expect_fails : (k : Sym) (m : Message) (r : List Sym) → is k k ≡ true → (expect_kind k m r).val ≡ false → LeftNl (expect_kind k m r) → ⊥
unfolding expect_kind ◌>>=◌ peek take_token err pure at
expect_fails k m r h e n = true≢false (rw (expect_left k m r n, h) at e)

closes_node : {b : List Sym} (j : Kind) {A : Type 0} {f f' : P A} → top_block j ≡ true → Ends b f f' → Closes b (in_node j f) (in_node j f')
unfolding in_node
closes_node {b} j {A} {f} {f'} t E = record { good = good_node j E.good; word = λ r e n. rw t (E.word r e (rw t at n)); goes = λ r e n k. goes_node b j f f' r (E.goes r e (rw (← (ap (λ u. u && ends_end (f r).out) t)) n) k.0) }

closes_never : {b : List Sym} {A : Type 0} {f f' : P A} → Good b no_message f f' → ((r : List Sym) → (shuts (f r).out ≡ false) × (shuts_leaf (f r).out ≡ false)) → Closes b f f'
closes_never G h = record { good = G; word = λ r e n. absurd (false≢true (sym (h r).1 ∙ n)); goes = λ r e n k. absurd (false≢true (sym (h r).0 ∙ n)) }

closes_if : {b : List Sym} {A : Type 0} (t : List Sym → Bool) {f f' g g' : P A} → ((r : List Sym) → Cond b r → t (r ++ b) ≡ t r) → Closes b f f' → Closes b g g' → Closes b (when t then f else g) (when t then f' else g')
unfolding ◌>>=◌ peek
closes_if {b} {A} t {f} {f'} {g} {g'} h F G = record { good = good_if t h F.good G.good; word = λ r. (at_branch (t r)).word r; goes = λ r e n k. c r e n k }
  where
    at_branch : (u : Bool) → Closes b (pick u f g) (pick u f' g')
    at_branch true = F
    at_branch false = G

    c : (r : List Sym) → LeftNl ((when t then f else g) r) → shuts ((when t then f else g) r).out ≡ true → Calm no_message ((when t then f else g) r).out → (when t then f' else g') (r ++ b) ≡ ext b ((when t then f else g) r)
    c r e n k =
        let C : Closes b (pick (t r) f g) (pick (t r) f' g') = at_branch (t r) in
        let q : Tail r = subst Tail (ap (λ l. leaves (pick (t r) f g r).out ++ l) (sym e) ∙ C.good.split r) (shuts_tail (pick (t r) f g r).out n) in
        rw (h r (more q)) (C.goes r e n k)

module _ (b : List Sym) (side : at (is RParen) (next_relevant_top_level_token b) ≡ false) (lim : ℕ) where
  ends_blk : (w : BlockOwner) (t : Terminators) (d : ℕ) → Ends b (parse_block lim w t d >>= closing w) (parse_block lim w t d >>= closing w)
  unfolding parse_block
  ends_blk w t d = ends_block Block w (good_in b side no_message refl lim lim (equal refl) w t d)

  closes_begin : Closes b (parse_begin_block (parse_block lim)) (parse_begin_block (parse_block lim))
  unfolding parse_begin_block
  closes_begin = closes_node BeginBlock refl (ends_bind (good_expect _ _) (λ a. ends (ends_bind good_tail (λ a. ends (ends_blk BlockOwner.Begin Terminators.End 0)))))

  ends_body : Ends b (procedure_body (parse_block lim)) (procedure_body (parse_block lim))
  unfolding procedure_body
  ends_body =
      ends_bind (good_while _) (λ a. ends
      (ends_bind (good_name _) (λ a. ends
      (ends_bind (good_while _) (λ a. ends
      (ends_bind (good_if (at (is LParen)) (test_at (is LParen)) good_signature (good_pure true)) (λ a. ends
      (ends_bind good_tail (λ a. ends (ends_blk BlockOwner.Procedure Terminators.End 0))))))))))

  closes_procedure : Closes b (parse_procedure (parse_block lim)) (parse_procedure (parse_block lim))
  unfolding parse_procedure pure
  closes_procedure = closes_node Procedure refl
      (ends_bind (good_attributes refl) (λ a. ends
      (ends_bind (good_while _) (λ a. ends
      (ends_bind good_visibility (λ a. ends
      (ends_bind (good_while _) (λ a. ends
      (ends_bind (good_expect _ _) (λ declared. behind declared))))))))))
    where
      behind : (u : Bool) → Then b (expect_kind PROC (Message.Plain ExpectedProc)) u (pick (not u) nop (procedure_body (parse_block lim))) (pick (not u) nop (procedure_body (parse_block lim)))
      behind true = ends ends_body
      behind false = never (good_pure true) (λ r e q. expect_fails _ _ r refl e q)

  pub closes_item : Closes b (parse_source_item (parse_block lim)) (parse_source_item (parse_block lim))
  unfolding parse_source_item parse_namespace parse_submodule parse_constant parse_type_decl parse_advice_map error_token in_node take_token
  closes_item =
      closes_if (at (is DocComment)) (test_at (is DocComment)) (closes_never (good_node Doc good_take) (λ r. (refl, refl)))
      (closes_if (at regular_trivia) (test_at regular_trivia) (closes_never good_take take_never)
      (closes_if (at (is NAMESPACE)) (test_at (is NAMESPACE)) (closes_never (good_namespace refl) (λ r. (refl, refl)))
      (closes_if (at_declaration (MOD ∷ [])) (test_declaration b side (MOD ∷ [])) (closes_never good_submodule (λ r. (refl, refl)))
      (closes_if at_procedure (test_procedure b side) closes_procedure
      (closes_if (at (is BEGIN)) (test_at (is BEGIN)) closes_begin
      (closes_if (at_declaration (CONST ∷ [])) (test_declaration b side (CONST ∷ [])) (closes_never (good_constant b side) (λ r. (refl, refl)))
      (closes_if (at_declaration (TYPE ∷ ENUM ∷ [])) (test_declaration b side (TYPE ∷ ENUM ∷ [])) (closes_never (good_type b side) (λ r. (refl, refl)))
      (closes_if (at (is ADV_MAP)) (test_at (is ADV_MAP)) (closes_never (good_advice_map b side) (λ r. (refl, refl)))
      (closes_never (good_error_token _) (λ r. (refl, refl)))))))))))
    where
      take_never : (r : List Sym) → (shuts (take_token r).out ≡ false) × (shuts_leaf (take_token r).out ≡ false)
      take_never [] = (refl, refl)
      take_never (s ∷ r) = (refl, refl)
