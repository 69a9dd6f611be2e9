-- What an arm says of the token here, and how the parts of a form are put together. Assumes nothing.
use mathlib.Core.Bool.{Bool, true, false, cond, not, ◌&&◌, ◌||◌, and-false, and-true, false≢true}
use mathlib.Core.List.{List, [], ◌∷◌}
use mathlib.Core.Path.{◌≡◌, refl, sym, ap, subst, ◌∙◌}
use Prim.Native.Nat.{ℕ, suc, ◌+◌, ◌<◌}
use native.Mathlib.Omega.{arith}
use lib.ListN.{length}
use Rattle.lexer.specs.Syntax
use Rattle.grammar.specs.Words.{Sym, File, is, DO, ELSE, END, IF, REPEAT, WHILE}
use Rattle.grammar.specs.Look.{one_of, at, eof, current, name_like, regular_trivia, at_prefixed_keyword, at_bare_while, control_flow, starts_instruction, at_terminator, at_stray_else, at_regular_trivia, is_top_level_starter, at_top_level_form_starter_in_block}
use Rattle.grammar.specs.Run.{Kind, num, P, Block, leaf, pure, in_node, take_token, scan, ◌>>=◌, ◌>>◌, when◌then◌else◌}
use Rattle.grammar.specs.State.{run}
use Rattle.grammar.specs.declared.message.Message.{Message}
use Rattle.grammar.specs.declared.block.BlockOwner.{BlockOwner}
use Rattle.grammar.specs.declared.block.Terminators.{Terminators}
use Rattle.grammar.specs.declared.block.BlockParseOutcome.{BlockParseOutcome}
use Rattle.grammar.specs.Block.{block_in, parse_block, parse_control_flow, found_terminator, reached_eof, closing, ended, do_condition}
use Rattle.grammar.specs.Bump.{nop, bump_while, while_round}
use Rattle.grammar.specs.Laws.Here.{is_not, none, one_of_not}
use Rattle.grammar.specs.Laws.Live.{some, eats_take}
use Rattle.grammar.specs.Laws.LiveLine.{eats_error_token, eats_instruction}
use Rattle.grammar.proofs.Laws.LiveBlock.{bare_while, repeat_left}
use Rattle.grammar.specs.Laws.Stops.{stops_block}
use Rattle.parser.specs.declared.state.Parser.{Parser}
use Rattle.parser.specs.declared.cursor.Cursor.{Cursor}
use Rattle.blocks.specs.declared.close.BlockEnd.{BlockEnd}
use Rattle.parser.specs.Rep.{World, world, file, remaining, Onward, Past, Wrote, Ran, RanTo}
use Rattle.parser.proofs.Kit.{Leads, ◌farther◌, answers, like_to, yes_to, no_to, done_to, bind_to, node_to, ◌then_to◌}
use Rattle.parser.proofs.Expect.{take_expected}
use Rattle.parser.proofs.Laws.{at_by, at_some}
use Rattle.blocks.specs.declared.arm.Taken.{Taken}
use Rattle.blocks.specs.declared.arm.Closing.{Closing}
use Rattle.blocks.specs.declared.arm.BlockArm.{BlockArm}
use Rattle.blocks.specs.declared.close.Form.{Form}
use Rattle.blocks.specs.declared.any_depth.AnyDepth.{AnyDepth}
use Rattle.blocks.specs.declared.any_depth.AnyPlace.{AnyPlace}
use Rattle.blocks.specs.declared.rounds.Stopped.{Stopped}
use Rattle.grammar.specs.declared.limit.NestingLimit.{NestingLimit}
use Rattle.blocks.specs.Arms.{block_arm, inner_arm, by_block_arm, block_by, silent, taking}
use Rattle.blocks.specs.Shapes.{else_line, else_part, KeywordLine, FormHeader, ItemAt, Finish, rest_at_any, stop, AnyBlockRounds, ParseForm}

-- ---- tests of the token here
-- at an Ident that is no word
ident_here : (terminators : Terminators) (r : List Sym) → block_arm terminators (Syntax.Ident ∷ r) ≡ BlockArm.Takes Taken.Instruction
unfolding block_arm inner_arm one_of at eof name_like starts_instruction is_top_level_starter at_prefixed_keyword at_top_level_form_starter_in_block at_bare_while at_terminator at_stray_else
ident_here Terminators.End r = refl
ident_here Terminators.ElseEnd r = refl
ident_here Terminators.While r = refl

pub ident_arm : (terminators : Terminators) (r : List Sym) {k : Sym} → k ≡ current r → k ≡ Syntax.Ident → BlockArm.Takes Taken.Instruction ≡ block_arm terminators r
unfolding current
ident_arm terminators [] c e = absurd (omega (arith, c, e))
ident_arm terminators (s ∷ r) c e = sym (ident_here terminators r) ∙ ap (λ i. block_arm terminators (i ∷ r)) (sym e ∙ c)

at_or : (s t : Sym → Bool) (r : List Sym) → at (λ k. s k || t k) r ≡ (at s r || at t r)
unfolding at
at_or s t [] = refl
at_or s t (x ∷ r) = refl

-- at the operand of a suffix
pub operand_here : {x : Bool} {k : Sym} (r : List Sym) → x ≡ (name_like k || one_of (Syntax.Number ∷ Syntax.QuotedString ∷ []) k) → k ≡ current r
    → x ≡ (at name_like r || at (one_of (Syntax.Number ∷ Syntax.QuotedString ∷ [])) r)
unfolding one_of name_like
operand_here r e c =
    at_by (λ k. name_like k || one_of (Syntax.Number ∷ Syntax.QuotedString ∷ []) k) r refl e c ∙ at_or name_like (one_of (Syntax.Number ∷ Syntax.QuotedString ∷ [])) r

-- two tests with the same answer, which the code asks together
module _ {A : Type 0} {w w' : World} {a : A} (s t : List Sym → Bool) {x : Bool} (e : x ≡ (s (remaining w) || t (remaining w))) where
  pub either : {f : P A} (g : P A) → x ≡ true → RanTo f w w' a → RanTo (when s then f else when t then f else g) w w' a
  either {f} g k h = by_test (s (remaining w)) refl (sym e ∙ k)
    where
      by_test : (u : Bool) → s (remaining w) ≡ u → (u || t (remaining w)) ≡ true → RanTo (when s then f else when t then f else g) w w' a
      by_test true p q = yes_to s _ refl p h
      by_test false p q = no_to s _ refl p (yes_to t _ refl q h)

  pub neither : (f : P A) {g : P A} → x ≡ false → RanTo g w w' a → RanTo (when s then f else when t then f else g) w w' a
  neither f {g} k h = by_test (s (remaining w)) refl (sym e ∙ k)
    where
      by_test : (u : Bool) → s (remaining w) ≡ u → (u || t (remaining w)) ≡ false → RanTo (when s then f else when t then f else g) w w' a
      by_test true p q = absurd (false≢true (sym q))
      by_test false p q = no_to s _ refl p (no_to t _ refl q h)

-- trivia closes no block
pub trivia_no_end : (t : Terminators) (r : List Sym) → at regular_trivia r ≡ true → at_terminator t r ≡ false
unfolding at at_terminator at_bare_while one_of none
trivia_no_end t [] e = absurd (false≢true e)
trivia_no_end Terminators.End (s ∷ r) e = is_not regular_trivia END s refl e
trivia_no_end Terminators.ElseEnd (s ∷ r) e = one_of_not regular_trivia (ELSE ∷ END ∷ []) refl s e
trivia_no_end Terminators.While (s ∷ r) e = rw (is_not regular_trivia WHILE s refl e)

pub plain_starter : (r : List Sym) → at (is Syntax.DocComment) r ≡ false → at_top_level_form_starter_in_block r ≡ is_top_level_starter r
unfolding at_top_level_form_starter_in_block
plain_starter r e = rw (at_top_level_form_starter_in_block, e)

-- ---- arms
-- what the tests before an arm have shown
abbrev pub Meant : BlockArm → List Sym → Type 0
Meant (BlockArm.Takes Taken.Trivia) r = eof r ≡ false
Meant (BlockArm.Takes Taken.Doc) r = eof r ≡ false
Meant (BlockArm.Takes Taken.Instruction) r = at starts_instruction r ≡ true
Meant (BlockArm.Takes Taken.Bad) r = eof r ≡ false
Meant (BlockArm.Closes Closing.Eof) r = Unit {0}
Meant (BlockArm.Closes Closing.Terminator) r = Unit {0}
Meant (BlockArm.Closes Closing.StrayElse) r = Unit {0}
Meant (BlockArm.Closes Closing.Item) r = at_top_level_form_starter_in_block r ≡ true
Meant BlockArm.Control r = at control_flow r ≡ true

meant_inner : (r : List Sym) → eof r ≡ false → Meant (inner_arm r) r
unfolding inner_arm
meant_inner r p = go (at_top_level_form_starter_in_block r) refl (at (is Syntax.DocComment) r) (at control_flow r) refl (at starts_instruction r) refl
  where
    go : (i : Bool) → at_top_level_form_starter_in_block r ≡ i → (d c : Bool) → at control_flow r ≡ c → (n : Bool) → at starts_instruction r ≡ n
        → Meant (cond i (BlockArm.Closes Closing.Item) (cond d (BlockArm.Takes Taken.Doc) (cond c BlockArm.Control (cond n (BlockArm.Takes Taken.Instruction) (BlockArm.Takes Taken.Bad))))) r
    go true q d c w n x = q
    go false q true c w n x = p
    go false q false true w n x = w
    go false q false false w true x = x
    go false q false false w false x = p

meant_of : (t : Terminators) (r : List Sym) → Meant (block_arm t r) r
unfolding block_arm
meant_of t r = go (eof r) refl (at_terminator t r) (at_regular_trivia r) (at_stray_else t r)
  where
    go : (e : Bool) → eof r ≡ e → (m v s : Bool)
        → Meant (cond e (BlockArm.Closes Closing.Eof) (cond m (BlockArm.Closes Closing.Terminator) (cond v (BlockArm.Takes Taken.Trivia) (cond s (BlockArm.Closes Closing.StrayElse) (inner_arm r))))) r
    go true p m v s = tt
    go false p true v s = tt
    go false p false true s = p
    go false p false false true = tt
    go false p false false false = meant_inner r p

pub meant : (t : Terminators) (r : List Sym) {a : BlockArm} (b : BlockArm) → a ≡ block_arm t r → a ≡ b → Meant b r
meant t r b e f = subst (λ a. Meant a r) (sym e ∙ f) (meant_of t r)

some_of : (r : List Sym) → eof r ≡ false → some r ≡ true
unfolding eof some
some_of [] e = absurd (false≢true (sym e))
some_of (s ∷ r) e = refl

pub takes : (k : Taken) (r : List Sym) → Meant (BlockArm.Takes k) r → length (taking k r).rest < length r
unfolding taking silent
takes Taken.Trivia r h = eats_take.eats r (some_of r h)
takes Taken.Doc r h = (eats_error_token _).eats r (some_of r h)
takes Taken.Instruction r h = eats_instruction.eats r h
takes Taken.Bad r h = (eats_error_token _).eats r (some_of r h)

-- ---- trivia before the rest of a block
trivia_arm : (t : Terminators) (r : List Sym) → at regular_trivia r ≡ true → BlockArm.Takes Taken.Trivia ≡ block_arm t r
unfolding block_arm
trivia_arm t r e = rw (at_some regular_trivia r e, trivia_no_end t r e, e)

module _ (limit : ℕ) (owner : BlockOwner) (t : Terminators) (depth : ℕ) where
  trivia_first : (r : List Sym) → block_in limit owner t depth r ≡ (bump_while regular_trivia >> block_in limit owner t depth) r
  unfolding bump_while while_round scan ◌>>=◌ at by_block_arm taking take_token
  trivia_first [] = refl
  trivia_first (s ∷ r) = by_test (regular_trivia s) refl (trivia_first r)
    where
      by_test : (u : Bool) → regular_trivia s ≡ u → block_in limit owner t depth r ≡ (bump_while regular_trivia >> block_in limit owner t depth) r
          → block_in limit owner t depth (s ∷ r) ≡ (bump_while regular_trivia >> block_in limit owner t depth) (s ∷ r)
      by_test true e h =
          rw e (block_by limit owner t depth (s ∷ r) (BlockArm.Takes Taken.Trivia) (trivia_arm t (s ∷ r) e)
          ∙ ap (λ x. record { rest = x.rest; out = leaf s x.out; val = x.val }) h)
      by_test false e h = rw e refl

  pub absorbs : {w v w' : World} {r : BlockParseOutcome} → Ran (bump_while regular_trivia) w v → RanTo (block_in limit owner t depth) v w' r → RanTo (block_in limit owner t depth) w w' r
  absorbs h k = like_to (bump_while regular_trivia >> block_in limit owner t depth) (trivia_first _) (h then_to k)

-- nothing is said of an item
pub no_item : {F : File} {p : ℕ} → ItemAt F p false
no_item = record { starts = λ h. absurd (false≢true h) }

pub said_no_item : {F : File} {p : ℕ} {i : Bool} → i ≡ false → ItemAt F p i
said_no_item e = record { starts = λ h. absurd (false≢true (sym e ∙ h)) }

done_as : {w w' : World} → Ran nop w w' → RanTo (pure true) w w' true
unfolding pure
done_as h = record { ran = h; val = refl }

-- where nothing is taken, an item starts as before
still : {w w' : World} {i : Bool} → ItemAt (file w) w.c.pos i → Ran nop w w' → ItemAt (file w') w'.c.pos i
unfolding pure
still a h = record { starts = λ e. ap at_top_level_form_starter_in_block (sym h.rest) ∙ a.starts e }

-- a form's end goes by its last block's outcome
ends_by : {w w' : World} (owner : BlockOwner) (o : BlockParseOutcome) → Ran (closing owner o) w w' → RanTo (ended owner o) w w' (reached_eof o)
unfolding ended closing
ends_by owner BlockParseOutcome.ReachedEof h = like_to (pure true) refl (done_as h)
ends_by owner BlockParseOutcome.FoundTerminator h = h then_to done_to false
ends_by owner BlockParseOutcome.RecoveredImplicitEnd h = h then_to done_to false

-- an item that starts behind a block starts behind its form, where the form takes no `end`
item_behind : {w w' : World} (owner : BlockOwner) (i : Bool) (o : BlockParseOutcome) → ItemAt (file w) w.c.pos i → Ran (closing owner o) w w'
    → ItemAt (file w') w'.c.pos (i && not (found_terminator o))
unfolding closing
item_behind owner i BlockParseOutcome.ReachedEof a h = rw and-true (still a h)
item_behind owner i BlockParseOutcome.FoundTerminator a h = said_no_item (and-false i)
item_behind owner i BlockParseOutcome.RecoveredImplicitEnd a h = rw and-true (still a h)

-- ---- simulation
module _ {w w' : World} where
  pub silently : {A : Type 0} {f : P A} → Ran f w w' → Ran (silent f) w w'
  unfolding run silent
  silently h = record { sim = h.sim; rest = h.rest; onward = h.onward }

  pub took : {k k' : Taken} → k ≡ k' → Ran (taking k') w w' → Ran (taking k) w w'
  took e h = subst (λ k. Ran (taking k) w w') (sym e) h

  -- a form of a block below the limit
  pub deeper : {r : Bool} (d e : AnyDepth) → (e.forms ≡ d.forms + 1) × (e.limit ≡ d.limit)
      → RanTo (parse_control_flow (parse_block e.limit.forms) e.forms) w w' r
      → RanTo (parse_control_flow (λ o t e. in_node Block (block_in d.limit.forms o t e)) (suc d.forms)) w w' r
  unfolding parse_block
  deeper {r} d e q h =
      let z : e.forms ≡ suc d.forms = omega (arith, q.0) in
      let m = ap (λ (l : NestingLimit). l.forms) q.1 in
      subst (λ (n : ℕ). RanTo (parse_control_flow (parse_block d.limit.forms) n) w w' r) z
      (subst (λ (l : ℕ). RanTo (parse_control_flow (parse_block l) e.forms) w w' r) m h)

  -- a round of parse_block's loop, by its arm
  pub round : (p : AnyPlace) {o : BlockParseOutcome} {a : BlockArm} (b : BlockArm) → a ≡ block_arm p.terminators (remaining w) → a ≡ b
      → RanTo (by_block_arm b (block_in p.depth.limit.forms) p.depth.limit.forms p.owner p.terminators p.depth.forms) w w' o → RanTo (rest_at_any p) w w' o
  round p b e f h =
      let l = p.depth.limit.forms in
      like_to (by_block_arm b (block_in l) l p.owner p.terminators p.depth.forms) (block_by l p.owner p.terminators p.depth.forms _ b (sym f ∙ e)) h

  -- ---- the parts of a form
  pub opened : {v : ℕ} {lead : P Bool → P Bool} {u : World} → Wrote v w u → ((next : P Bool) (z : World) (r : Bool) → RanTo next w' z r → RanTo (lead next) u z r)
      → Onward u w' → Past u w' → FormHeader v lead w w'
  opened {u} p h n q = record {
    mid = u;
    wrote = p;
    on = h;
    onward = p.onward farther n;
    past = record { on = omega (arith, q, p.pos); within = omega (arith, q, p.pos) };
  }

  pub finished : {owner : BlockOwner} (o : BlockParseOutcome) {u : World} {i : Bool} {f : Form} → ItemAt (file w) w.c.pos i → Ran (closing owner o) w u → Wrote 0 u w'
      → f.eof ≡ reached_eof o → f.item ≡ (i && not (found_terminator o)) → Finish owner o w w' f
  finished {owner} o {u} {i} a h p e j = record {
    mid = u;
    ran = answers (ends_by owner o h) (sym e);
    wrote = p;
    onward = h.onward farther p.onward;
    here = record { starts = λ e. ap at_top_level_form_starter_in_block p.rest ∙ (item_behind owner i o a h).starts (sym j ∙ e) };
  }

  -- a form: its header, its first block, and what stands behind that up to the form's end
  pub formed : (k : Kind) {lead : P Bool → P Bool} {block : P BlockParseOutcome} {o p : BlockParseOutcome} {owner : BlockOwner} {m v u : World} {f : Form} (rest : BlockParseOutcome → P Bool)
      → FormHeader (num k) lead w m → RanTo block m v o → (end : Finish owner p u w' f) → RanTo (rest o) v end.mid f.eof → ParseForm (in_node k (lead (block >>= rest))) w w' f
  formed k rest head first end h = record {
    ran = node_to k head.wrote (head.on _ _ _ (bind_to rest first h)) end.wrote;
    past = record { on = omega (arith, head.past, first.ran.onward, h.ran.onward, end.wrote.pos); within = head.past.within };
    here = end.here;
  }

-- the end of a form, where its last block is the one or the other
pub finish_at : {P Q : Parser} {b d : BlockEnd} {owner : BlockOwner} {w' : World} {f : Form} → P ≡ Q → b ≡ d → Finish owner b.outcome (world P b.c) w' f → Finish owner d.outcome (world Q d.c) w' f
finish_at {Q} {b} {owner} {w'} {f} p q h = subst (λ b. Finish owner b.outcome (world Q b.c) w' f) q (subst (λ P. Finish owner b.outcome (world P b.c) w' f) p h)

-- an outcome that the code has made
pub gives : {w : World} {a b : BlockParseOutcome} → b ≡ a → RanTo (pure a) w w b
gives {a} e = answers (done_to a) (sym e)

found_is : (o : BlockParseOutcome) → found_terminator o ≡ true → o ≡ BlockParseOutcome.FoundTerminator
found_is BlockParseOutcome.FoundTerminator e = refl
found_is BlockParseOutcome.RecoveredImplicitEnd e = absurd (false≢true e)
found_is BlockParseOutcome.ReachedEof e = absurd (false≢true e)

-- the body of a `do` that was closed stands before a `while`
pub at_while : {w w' : World} {o : BlockParseOutcome} (limit d : ℕ) → RanTo (parse_block limit BlockOwner.DoWhileBody Terminators.While d) w w' o → found_terminator o ≡ true → at (is WHILE) (remaining w') ≡ true
at_while {w} {w'} {o} limit d h e =
    bare_while _ (ap (at_terminator Terminators.While) (sym h.ran.rest) ∙ (stops_block limit BlockOwner.DoWhileBody Terminators.While d).stops _ (h.val ∙ found_is o e))

-- ---- parse_if behind its first block, and parse_do_while behind its body
-- the line of an `else`, and the block behind it
behind_else : {w l v : World} {block : P BlockParseOutcome} {o : BlockParseOutcome} → at (is ELSE) (remaining w) ≡ true
    → KeywordLine ELSE w l → RanTo block l v o → RanTo (else_line block) w v o
unfolding one_of
behind_else here l h = take_expected ELSE Message.Unreached refl here l.key then_to l.line then_to h

module _ {w u : World} (limit d : ℕ) {x b : Bool} where
  pub no_else : (o : BlockParseOutcome) → x ≡ (not (reached_eof o) && at (is ELSE) (remaining w)) → x ≡ false
      → RanTo (ended BlockOwner.If o) w u b → RanTo (else_part (parse_block limit) d o) w u b
  unfolding ended
  no_else BlockParseOutcome.ReachedEof e k h = h
  no_else BlockParseOutcome.FoundTerminator e k h = bind_to (λ last. ended BlockOwner.If last) (no_to _ _ e k (done_to BlockParseOutcome.FoundTerminator)) h
  no_else BlockParseOutcome.RecoveredImplicitEnd e k h = bind_to (λ last. ended BlockOwner.If last) (no_to _ _ e k (done_to BlockParseOutcome.RecoveredImplicitEnd)) h

  pub with_else : {l v : World} {p : BlockParseOutcome} (o : BlockParseOutcome) → x ≡ (not (reached_eof o) && at (is ELSE) (remaining w)) → x ≡ true
      → KeywordLine ELSE w l → RanTo (parse_block limit BlockOwner.If Terminators.End d) l v p → RanTo (ended BlockOwner.If p) v u b
      → RanTo (else_part (parse_block limit) d o) w u b
  with_else BlockParseOutcome.ReachedEof e k l g h = absurd (false≢true (sym e ∙ k))
  with_else BlockParseOutcome.FoundTerminator e k l g h = bind_to (λ last. ended BlockOwner.If last) (yes_to _ _ e k (behind_else (sym e ∙ k) l g)) h
  with_else BlockParseOutcome.RecoveredImplicitEnd e k l g h = bind_to (λ last. ended BlockOwner.If last) (yes_to _ _ e k (behind_else (sym e ∙ k) l g)) h

  pub no_condition : (o : BlockParseOutcome) → x ≡ found_terminator o → x ≡ false → RanTo (ended BlockOwner.DoWhile o) w u b → RanTo (do_condition (parse_block limit) d o) w u b
  unfolding ended closing do_condition pure ◌>>=◌
  no_condition BlockParseOutcome.ReachedEof e k h = h
  no_condition BlockParseOutcome.FoundTerminator e k h = absurd (false≢true (sym k ∙ e))
  no_condition BlockParseOutcome.RecoveredImplicitEnd e k h = like_to (nop >> pure false) refl h

  pub condition : {l v : World} {p : BlockParseOutcome} (o : BlockParseOutcome) → x ≡ found_terminator o → x ≡ true
      → KeywordLine WHILE w l → RanTo (parse_block limit BlockOwner.DoWhile Terminators.End d) l v p → RanTo (ended BlockOwner.DoWhile p) v u b
      → RanTo (do_condition (parse_block limit) d o) w u b
  unfolding do_condition
  condition BlockParseOutcome.ReachedEof e k l g h = absurd (false≢true (sym e ∙ k))
  condition BlockParseOutcome.FoundTerminator e k l g h = l.key then_to l.line then_to bind_to (λ last. ended BlockOwner.DoWhile last) g h
  condition BlockParseOutcome.RecoveredImplicitEnd e k l g h = absurd (false≢true (sym e ∙ k))

-- the last of the four forms
pub repeat_here : (r : List Sym) → at control_flow r ≡ true → at (is IF) r ≡ false → at (is DO) r ≡ false → at (is WHILE) r ≡ false → at (is REPEAT) r ≡ true
repeat_here r a b c d = repeat_left r (rw (a, b, c, d))

-- ---- the rounds of a block
-- where they stop is at a form, or behind the block
module _ {p : AnyPlace} {m : World} (P : Parser) {s : Stopped} where
  pub at_form : {c : Cursor} → s ≡ Stopped.Form c → AnyBlockRounds p m (world P (stop s)) s → AnyBlockRounds p m (world P c) (Stopped.Form c)
  at_form e r = subst (λ s. AnyBlockRounds p m (world P (stop s)) s) e r

  pub at_end : {b : BlockEnd} → s ≡ Stopped.Closed b → AnyBlockRounds p m (world P (stop s)) s → AnyBlockRounds p m (world P b.c) (Stopped.Closed b)
  at_end e r = subst (λ s. AnyBlockRounds p m (world P (stop s)) s) e r

-- the rounds behind what leads to them
module _ {p : AnyPlace} {m w w' : World} where
  pub from_here : (s : Stopped) → Leads (rest_at_any p) m (rest_at_any p) w → Onward m w → AnyBlockRounds p w w' s → AnyBlockRounds p m w' s
  from_here (Stopped.Form c) l o r = record {
    onward = o farther r.onward;
    there = record { on = λ u x h. l.on u x (r.there.on u x h); arm = r.there.arm; below = r.there.below };
  }
  from_here (Stopped.Closed e) l o r = record {
    onward = o farther r.onward;
    there = record { mid = r.there.mid; ran = l.on _ _ r.there.ran; wrote = r.there.wrote; here = r.there.here };
  }

  -- the same behind a form, which goes from v to w
  pub from_form : {v : World} {c : Cursor} (s : Stopped) → AnyBlockRounds p m v (Stopped.Form c) → ((u : World) (r : BlockParseOutcome) → RanTo (rest_at_any p) w u r → RanTo (rest_at_any p) v u r)
      → Onward v w → AnyBlockRounds p w w' s → AnyBlockRounds p m w' s
  from_form s r₀ f o r = from_here s (record { on = λ u x h. r₀.there.on u x (f u x h) }) (r₀.onward farther o) r

-- what block_from's loop holds: rounds up to where it began are rounds up to where it is
pub record Going (p : AnyPlace) (w₀ : World) (s₀ : Stopped) (w : World) (s : Stopped) : Type 0 where
  pub on : (m : World) → AnyBlockRounds p m w₀ s₀ → AnyBlockRounds p m w s
