-- What the steps of a method come to. Assumes nothing.
use Prim.Native.Nat.{ℕ, ◌+◌}
use mathlib.Core.Path.{◌≡◌, refl, sym, ap, ap₂, ◌∙◌}
use mathlib.Core.Bool.{Bool, true, false, cond}
use mathlib.Core.List.{List}
use native.Mathlib.Nat.{add-zero}
use lib.ListN.{drop}
use Rattle.lexer.specs.declared.state.Lexer.{Lexer}
use Rattle.lexer.specs.declared.syntax.SyntaxKind.{SyntaxKind}
use Rattle.lexer.specs.Syntax.{kind_number}
use Rattle.lexer.specs.Lexer.{LexRule, lex_one, follow, advance_while, lex_while}
use Rattle.lexer.specs.Code.{placed, Lexed, Advanced, AdvanceIf}
use Rattle.lexer.proofs.Laws.{placed_yes, placed_no, one_here}

-- a rule that is the same
pub by_rule : {f g : LexRule} {s t : Lexer} {k : SyntaxKind} → ((r : List ℕ) → f r ≡ g r) → Lexed f s k t → Lexed g s k t
by_rule {s = s} e l = record { source_is = l.source_is; token_is = l.token_is ∙ ap (placed s.offset) (e _) }

-- nothing more
pub nothing : (s : Lexer) (k : SyntaxKind) → Lexed (lex_one (kind_number k)) s k s
nothing s k = record { source_is = refl; token_is = one_here (kind_number k) s.offset }

-- a run, of a token of this kind
pub run : (p : ℕ → Bool) {s t : Lexer} (k : SyntaxKind) → Advanced (advance_while p) s t → Lexed (lex_while (kind_number k) p) s k t
unfolding lex_while
run p k a = record { source_is = a.source_is; token_is = ap (λ (n : ℕ). record { kind = kind_number k; end = n }) a.offset_is }

-- a rule from the offset n of a source that is the same
moved : (f : LexRule) (m s : Lexer) (n : ℕ) → m.offset ≡ n → m.source.now ≡ s.source.now → placed m.offset (f (drop m.offset m.source.now)) ≡ placed n (f (drop n s.source.now))
moved f m s n e q = ap₂ (λ (i : ℕ) (l : List ℕ). placed i (f (drop i l))) e q

-- the byte x was passed, or was not there, and a rule for the rest
module _ {x : ℕ} (f g : LexRule) {s m t : Lexer} {r : Bool} {k : SyntaxKind} (a : AdvanceIf x s r m) where
  pub followed : r ≡ true → Lexed f m k t → Lexed (follow x f g) s k t
  followed e l = record {
    source_is = l.source_is ∙ a.source_is;
    token_is =
        l.token_is
        ∙ moved f m s (s.offset + 1) (a.offset_is ∙ ap (λ (u : Bool). s.offset + cond u 1 0) e) a.source_is
        ∙ placed_yes x f g s.source.now s.offset (sym a.found_is ∙ e);
  }

  pub not_followed : r ≡ false → Lexed g m k t → Lexed (follow x f g) s k t
  not_followed e l = record {
    source_is = l.source_is ∙ a.source_is;
    token_is =
        l.token_is
        ∙ moved g m s s.offset (a.offset_is ∙ ap (λ (u : Bool). s.offset + cond u 1 0) e ∙ add-zero s.offset) a.source_is
        ∙ placed_no x f g s.offset _ (sym a.found_is ∙ e);
  }

-- the same rule whether x was passed or not
pub passed : {x : ℕ} (f : LexRule) {s t : Lexer} {r : Bool} {k : SyntaxKind} → AdvanceIf x s r t → Lexed f t k t → Lexed (follow x f f) s k t
passed f {r = true} a l = followed f f a refl l
passed f {r = false} a l = not_followed f f a refl l

-- the end of a run, in a source that is the same
pub same_end : (p : ℕ → Bool) (a : ℕ) {l m : List ℕ} → l ≡ m → a + advance_while p (drop a l) ≡ a + advance_while p (drop a m)
same_end p a q = ap (λ (s : List ℕ). a + advance_while p (drop a s)) q
