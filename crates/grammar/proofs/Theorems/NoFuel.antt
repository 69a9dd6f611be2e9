-- The equations without fuel, of all five loops: each is what the Rust has, a round and then the loop.
-- Assumes nothing.
use Prim.Native.Nat.{ℕ, suc, ◌≤◌}
use Rattle.std.specs.Prelude.{◌≡◌, refl, true, false, length}
use Rattle.std.proofs.Math.Path.{sym}
use Rattle.std.proofs.Common.{◌∙◌, arith}
use mathlib.Core.List.{List, [], append-nil}
use Rattle.std.proofs.Math.Decide.{dec_le}
use Rattle.lexer.specs.Syntax.{RParen}
use Rattle.grammar.specs.Words.{Sym, is}
use Rattle.grammar.specs.Look.{at, skip, eof, next_relevant_top_level_token}
use Rattle.grammar.specs.Run.{Res, P, pure, pick, ◌>>=◌, ◌>>◌, when◌then◌else◌, loop}
use Rattle.grammar.specs.Path.{path_round}
use Rattle.grammar.specs.Block.{BlockOwner, Terminators, suffix_round, parse_structured_header_suffixes, block_round, block_loop, block_in, parse_block}
use Rattle.grammar.specs.Item.{attribute_round, parse_source_item, items, items_in}
use Rattle.grammar.specs.Laws.Ahead.{same}
use Rattle.grammar.specs.Laws.Good.{Calm, ext, Good, good_if, good_bind, good_pure}
use Rattle.grammar.specs.Laws.Stable.{test_eof}
use Rattle.grammar.proofs.Laws.StableBlock.{equal, good_blocks, good_round}
use Rattle.grammar.proofs.Laws.StableItem.{good_item, good_items}
use Rattle.grammar.specs.Laws.Numbers.{no_message}
use Rattle.grammar.specs.Laws.Loops.{loop_eq}
use Rattle.grammar.specs.Laws.LiveLine.{truly_path_round, truly_suffix_round}
use Rattle.grammar.proofs.Laws.LiveBlock.{live_blocks}
use Rattle.grammar.proofs.Laws.LiveItem.{truly_attribute_round, live_items}

ext_nil : {A : Type 0} (x : Res A) → ext [] x ≡ x
ext_nil x = rw append-nil

-- One file: no side condition.
no_paren : at (is RParen) (next_relevant_top_level_token []) ≡ false
unfolding at skip
no_paren = refl

-- f by fuel and f without: the same where the fuel did not run out, if more fuel makes no difference and enough is enough.
module _ {A : Type 0} (f : ℕ → P A) (mono : (n m : ℕ) → n ≤ m → Good [] no_message (f n) (f m)) (calm : (r : List Sym) → Calm no_message (f (suc (length r)) r).out) where
  free : P A
  free r = f (suc (length r)) r

  more_fuel : (n m : ℕ) → n ≤ m → (r : List Sym) → Calm no_message (f n r).out → f m r ≡ f n r
  more_fuel n m h r k = (rw (append-nil r) at ((mono n m h).goes r (same refl) k)) ∙ ext_nil (f n r)

  good_free : (n : ℕ) → Good [] no_message (f n) free
  unfolding free
  good_free n = record { split = (mono n n (omega arith)).split; goes = λ r c k. rw (append-nil r) (g r (dec_le n (suc (length r))) k ∙ sym (ext_nil (f n r))) }
    where
      g : (r : List Sym) → Dec (n ≤ suc (length r)) → Calm no_message (f n r).out → f (suc (length r)) r ≡ f n r
      g r (yes h) k = more_fuel n (suc (length r)) h r k
      g r (no h) k = sym (more_fuel (suc (length r)) n (omega arith) r (calm r))

-- parse_block's loop
pub block_eq : (limit : ℕ) (w : BlockOwner) (t : Terminators) (d : ℕ) (r : List Sym) → block_in limit w t d r ≡ block_round (block_in limit) limit w t d r
unfolding block_in block_loop free
block_eq limit w t d r =
    let G = good_round [] no_paren no_message refl limit limit (equal refl) (λ w t d. good_free (λ n. block_loop n limit w t d) (λ n m h. good_blocks [] no_paren no_message refl limit limit (equal refl) n m h w t d) (λ r. (live_blocks (suc (length r)) limit w t d).calm r refl (omega arith)) (length r)) w t d in
    sym ((rw (append-nil r) at (G.goes r (same refl) ((live_blocks (suc (length r)) limit w t d).calm r refl (omega arith)))) ∙ ext_nil _)

-- parse's loop
pub items_eq : (limit : ℕ) (r : List Sym) → items_in limit r ≡ (when eof then pure true else (parse_source_item (parse_block limit) >> items_in limit)) r
unfolding items_in items free
items_eq limit r =
    let F = good_free (λ n. items n limit) (good_items [] no_paren no_message refl limit limit (equal refl)) (λ r. (live_items (suc (length r)) limit).calm r refl (omega arith)) (length r) in
    let G = good_if eof test_eof (good_pure true) (good_bind (good_item [] no_paren no_message refl limit limit (equal refl)) (λ a. F)) in
    sym ((rw (append-nil r) at (G.goes r (same refl) ((live_items (suc (length r)) limit).calm r refl (omega arith)))) ∙ ext_nil _)

-- parse_path_with_message's loop over the segments
pub path_eq : (r : List Sym) → loop path_round r ≡ (path_round >>= λ more. pick more (loop path_round) (pure false)) r
path_eq = loop_eq path_round truly_path_round.truly

-- parse_structured_header_suffixes' loop
pub suffixes_eq : (r : List Sym) → parse_structured_header_suffixes r ≡ (suffix_round >>= λ more. pick more parse_structured_header_suffixes (pure false)) r
unfolding parse_structured_header_suffixes
suffixes_eq = loop_eq suffix_round truly_suffix_round.truly

-- parse_procedure's loop over the attributes
pub attributes_eq : (r : List Sym) → loop attribute_round r ≡ (attribute_round >>= λ more. pick more (loop attribute_round) (pure false)) r
attributes_eq = loop_eq attribute_round truly_attribute_round.truly
