-- The starts of a source's diagnostics lie within it.
-- Assumes nothing.
use Rattle.std.specs.Prelude.{ℕ, zero, suc, pred, ◌+◌, ◌≤◌, List, [], ◌∷◌, map, length}
use Rattle.std.proofs.Common.{ap, arith, length-append}
use Rattle.utf8.specs.Width.{width}
use Rattle.utf8.specs.Last.{last_from, last_char}
use Rattle.lexer.specs.Lexer.{Token, tokenize}
use Rattle.lexer.specs.Tokens.{ends, token_ends}
use Rattle.lexer.specs.Laws.{token_bytes, lossless}
use Rattle.lines.specs.JoinedLines.{NoneAbove}
use Rattle.grammar.specs.Out.{Diag, place, places, diags}
use Rattle.grammar.specs.Source.{symbols, source_places}

last_below : (k m n : ℕ) (s : List ℕ) → m ≤ n → last_from k m n s ≤ n + length s
unfolding last_from
last_below k m n [] h = omega arith
last_below (suc k) m n (b ∷ s) h = omega (arith, last_below k m (n + 1) s (omega arith))
last_below zero m n (b ∷ s) h = omega (arith, last_below (pred (width b)) n (n + 1) s (omega arith))

pub last_within : (s : List ℕ) → last_char s ≤ length s
last_within s = omega (arith, last_below 0 0 0 s (omega arith))

-- the ends of tokens that stand from n on
ends_within : (n top : ℕ) (ts : List Token) → n + length (token_bytes ts) ≤ top → NoneAbove top (ends n ts)
unfolding ends
ends_within n top [] h = tt
ends_within n top (t ∷ ts) h =
    let k = length-append t.text (token_bytes ts) in
    (omega arith, ends_within (n + length t.text) top ts (omega arith))

start_within_ends : (m top : ℕ) (es : List ℕ) (s anchor i : ℕ) → s ≤ top → NoneAbove top es → anchor ≤ top → (place m es s anchor i).start ≤ top
start_within_ends m top [] s anchor i h k a = a
start_within_ends m top (e ∷ es) s anchor zero h k a = h
start_within_ends m top (e ∷ es) s anchor (suc i) h k a = start_within_ends m top es e anchor i k.0 k.1 a

pub starts_within : (limit : ℕ) (source : List ℕ) → NoneAbove (length source) (map (λ p. p.start) (source_places limit source))
starts_within limit source = of_each (diags limit (symbols source))
  where
    all : NoneAbove (length source) (token_ends source)
    all = ends_within 0 (length source) (tokenize source) (omega (arith, ap length (lossless source)))

    of_each : (l : List Diag) → NoneAbove (length source) (map (λ p. p.start) (places (token_ends source) (last_char source) l))
    of_each [] = tt
    of_each (d ∷ l) = (start_within_ends d.msg (length source) (token_ends source) 0 (last_char source) d.pos (omega arith) all (last_within source), of_each l)
