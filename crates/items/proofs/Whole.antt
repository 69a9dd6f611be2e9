-- From the cursor at the start, which stands for the definition's first state, to what the parser leaves: a file's numbers are small.
-- Assumes nothing.
use mathlib.Core.Bool.{Bool}
use mathlib.Core.List.{List, [], append-nil, map}
use mathlib.Core.Path.{◌≡◌, refl, sym, ap, subst, ◌∙◌}
use Prim.Native.Nat.{ℕ, ◌+◌, ◌≤◌}
use native.Mathlib.Omega.{arith}
use lib.ListN.{length}
use Rattle.room.specs.Over.{over, length_over}
use Rattle.lexer.specs.Tokens.{MAX_SOURCE}
use Rattle.grammar.specs.Words.{File, from}
use Rattle.grammar.specs.Run.{SourceFile, P, leaves, in_node}
use Rattle.grammar.specs.Item.{items_in, parse}
use Rattle.grammar.specs.Out.{Diag, ev, dg, events, diags}
use Rattle.grammar.specs.State.{State, run}
use Rattle.grammar.proofs.Theorems.AllTokens.{all_tokens}
use Rattle.grammar.proofs.Theorems.FewEvents.{few_events}
use Rattle.grammar.proofs.Theorems.FewDiagnostics.{few_diagnostics}
use Rattle.parser.specs.declared.cursor.Cursor.{Cursor}
use Rattle.parser.specs.declared.state.Parser.{Parser}
use Rattle.parser.specs.Rep.{World, world, Rep, Small, Ran}
use Rattle.items.specs.Entry.{start, ParserSlices, parser_slices, Parse}

-- before the first token
abbrev begun : File → State
begun F = record { rest = from F 0; pos = 0; evs = []; dgs = [] }

starts : (p : Parser) → Rep (world p start) (world p start) (begun p.kinds.now)
starts p = record { rest = refl; pos = refl; evs = refl; dgs = refl; events = refl; messages = refl; starts = refl }

module _ (limit : ℕ) where
  -- the file in its root node
  abbrev pub root : P Bool
  root = in_node SourceFile (items_in limit)

  root_leaves : (F : File) → leaves (root F).out ≡ F
  unfolding in_node parse
  root_leaves F = append-nil _ ∙ all_tokens limit F

  root_events : (F : File) → ev (root F).out ≡ events limit F
  unfolding in_node events parse
  root_events F = refl

  root_diags : (F : File) → dg 0 (root F).out ≡ diags limit F
  unfolding in_node diags parse
  root_diags F = append-nil _

  small : (F : File) → length F ≤ MAX_SOURCE → Small (run root (begun F))
  unfolding run
  small F h = record {
    pos = omega (arith, ap length (root_leaves F));
    events = omega (arith, ap length (root_events F), few_events limit F);
    diags = omega (arith, ap length (root_diags F), few_diagnostics limit F);
  }

  -- Cursor::default, which says its numbers one by one, is where the parser starts.
  pub from_start : {p : Parser} {c : Cursor} {w : World} → (c.pos ≡ 0) × ((c.events ≡ 0) × (c.diags ≡ 0)) → Ran root (world p c) w → Ran root (world p start) w
  from_start {p} {c} {w} z h = subst (λ (d : Cursor). Ran root (world p d) w) (rw (z.0, z.1.0, z.1.1) refl) h

  -- e, m and t are what the parser left
  pub whole : (p : Parser) → length p.kinds.now ≤ MAX_SOURCE → {w : World} {e m t : List ℕ} → e ≡ w.p.events.now → m ≡ w.p.messages.now → t ≡ w.p.starts.now → Ran root (world p start) w
      → Parse limit p.kinds.now (parser_slices p.events.now p.messages.now p.starts.now start) (parser_slices e m t w.c)
  unfolding run
  whole p few e-is m-is t-is h =
      let F = p.kinds.now in
      let r = h.sim (world p start) (begun F) (starts p) (small F few) in
      record {
        pos = sym r.pos ∙ ap (λ (t : File). 0 + length t) (root_leaves F) ∙ omega arith;
        event_count = sym r.evs ∙ ap length (root_events F);
        diagnostic_count = sym r.dgs ∙ ap length (root_diags F);
        events_are = e-is ∙ r.events ∙ ap (over p.events.now 0) (root_events F);
        messages_are = m-is ∙ r.messages ∙ ap (λ (l : List Diag). over p.messages.now 0 (map (λ d. d.msg) l)) (root_diags F);
        starts_are = t-is ∙ r.starts ∙ ap (λ (l : List Diag). over p.starts.now 0 (map (λ d. d.pos) l)) (root_diags F);
      }

-- the slices keep their lengths
pub kept : {limit : ℕ} {F : File} {b w : ParserSlices} → Parse limit F b w → (length w.events ≡ length b.events) × (length w.messages ≡ length b.messages) × (length w.starts ≡ length b.starts)
kept p = (ap length p.events_are ∙ simp length_over, ap length p.messages_are ∙ simp length_over, ap length p.starts_are ∙ simp length_over)
