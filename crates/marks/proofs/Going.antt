-- What the loop over the tokens keeps: the lexer's, with marks, and the first refusal. Assumes nothing.
use Prim.Native.Nat.{ℕ, ◌+◌, ◌-◌, ◌≤◌, ◌<◌}
use mathlib.Core.Path.{◌≡◌, refl, sym, ap, ap₂, ◌∙◌}
use mathlib.Core.Bool.{Bool, true, false, cond}
use mathlib.Core.List.{List}
use borrow.Author.Tests.{lt-ltb, le-ltb}
use native.Mathlib.Omega.{arith}
use Rattle.std.specs.Prelude.{Option, None, Some}
use Rattle.std.specs.Option.{option_or}
use lib.ListN.{length, get_or, take, drop}
use Rattle.lexer.specs.declared.slices.TokenSlices.{TokenSlices}
use Rattle.lexer.specs.Code.{Placed}
use Rattle.lexer.specs.Slices.{Push}
use Rattle.lexer.specs.Lexer.{Token, tokenize}
use Rattle.lexer.specs.Tokens.{MAX_SOURCE}
use Rattle.grammar.specs.Words.{key}
use Rattle.lexer.proofs.Rest.{rest, rest_none, rest_more, end_is}
use Rattle.lexer.proofs.Going.{here, token_here, text_here, Writing, begins_writing, writes_on, all_written}
use Rattle.marks.specs.Marks.{is_refused, first_refused}
use Rattle.marks.specs.Code.{marked, mark, symbol_mark, refused, refused_at, MarkSource}
use Rattle.lexer.specs.Kinds.{low_next}

pub record Going (s kinds₀ ends₀ : List ℕ) (w : TokenSlices) (refusal : Option ℕ) (at : ℕ) : Type 0 where
  pub writing : Writing mark s kinds₀ ends₀ w at
  pub refusal_is : first_refused 0 (tokenize s) ≡ option_or refusal (first_refused at (rest s at))

option_or_assoc : (p q r : Option ℕ) → option_or p (option_or q r) ≡ option_or (option_or p q) r
option_or_assoc None q r = refl
option_or_assoc (Some m) q r = refl

option_or_none : (p : Option ℕ) → p ≡ option_or p None
option_or_none None = refl
option_or_none (Some m) = refl

module _ (s : List ℕ) (at : ℕ) (h : at < length s) where
  abbrev t : Token
  t = token_here s at

  -- a token further: it is the first that is refused, or the first is behind it
  step : first_refused at (rest s at) ≡ option_or (refused_at (mark t) at) (first_refused (here s at).end (rest s (here s at).end))
  unfolding first_refused
  step = ap (first_refused at) (rest_more s at h) ∙ by_test (is_refused t) refl
    where
      by_test : (u : Bool) → is_refused t ≡ u
          → cond u (Some at) (first_refused (at + length t.text) (rest s (here s at).end))
          ≡ option_or (refused_at (mark t) at) (first_refused (here s at).end (rest s (here s at).end))
      by_test true e = rw (lt-ltb (key 16) (mark t) (omega (arith, refused t.kind t.text e))) refl
      by_test false e =
          rw (le-ltb (key 16) (mark t) ((symbol_mark t.kind t.text e).bounded (low_next (get_or s at 0) (drop (at + 1) s))))
          (ap (λ (n : ℕ). first_refused n (rest s (here s at).end)) (end_is s at h))

pub begins : (s : List ℕ) (w : TokenSlices) → length s ≤ MAX_SOURCE → w.count ≡ 0 → Going s w.kinds.now w.ends.now w None 0
begins s w h e = record { writing = begins_writing s w h e refl; refusal_is = refl }

pub goes_on : {s kinds₀ ends₀ : List ℕ} {w : TokenSlices} {refusal : Option ℕ} {at : ℕ} → Going s kinds₀ ends₀ w refusal at → at < length s
    → (t : Placed) → t ≡ here s at → (v : ℕ) → v ≡ marked t.kind (take (t.end - at) (drop at s)) → (r : Option ℕ) → r ≡ option_or refusal (refused_at v at)
    → (w' : TokenSlices) → Push v t.end w w' → Going s kinds₀ ends₀ w' r t.end
goes_on {s} {refusal = refusal} {at = at} g h t e v f r q w' p =
    let m : v ≡ mark (token_here s at) = f ∙ ap₂ marked (ap (λ (x : Placed). x.kind) e) (text_here s at h t e) in
    record {
      writing = writes_on g.writing h t e v m w' p;
      refusal_is =
          g.refusal_is
          ∙ ap (option_or refusal) (step s at h)
          ∙ option_or_assoc refusal (refused_at (mark (token_here s at)) at) _
          ∙ ap₂ (λ (p : Option ℕ) (i : ℕ). option_or p (first_refused i (rest s i)))
          (ap (λ (i : ℕ). option_or refusal (refused_at i at)) (sym m) ∙ sym q) (ap (λ (x : Placed). x.end) (sym e));
    }

pub ended : {s kinds₀ ends₀ : List ℕ} {w : TokenSlices} {refusal : Option ℕ} {at : ℕ} → Going s kinds₀ ends₀ w refusal at → length s ≤ at
    → (kinds ends' : List ℕ) → kinds ≡ w.kinds.now → ends' ≡ w.ends.now
    → MarkSource s kinds₀ ends₀ (record { count = w.count; refusal = refusal }) kinds ends'
unfolding first_refused
ended {s} {refusal = refusal} {at = at} g h kinds ends' ke ee = record {
  fit = all_written g.writing h kinds ends' ke ee;
  refusal_is = option_or_none refusal ∙ sym (g.refusal_is ∙ ap (λ (ts : List Token). option_or refusal (first_refused at ts)) (rest_none s at h));
}
