-- The starts of a source's diagnostics never fall. One at the end of the file starts at the last character, and no token starts behind that.
-- Assumes nothing.
use Rattle.std.specs.Prelude.{ℕ, ◌+◌, ◌<◌, ◌≡◌, List, [], ◌∷◌, map, length}
use Rattle.std.proofs.Common.{sym, ap, arith, length-append}
use Rattle.utf8.specs.WellFormed.{WellFormed}
use Rattle.utf8.specs.Last.{last_char, last_append}
use Rattle.lexer.specs.Lexer.{Token, tokenize}
use Rattle.lexer.specs.Tokens.{ends, token_ends}
use Rattle.lexer.specs.Laws.{Every, Filled, every_filled, token_bytes, lossless}
use Rattle.characters.specs.ByCharacters.{WholeCharacters}
use Rattle.characters.proofs.ByCharacters.{every_whole}
use Rattle.grammar.specs.Out.{diags, place}
use Rattle.grammar.specs.Source.{symbols, source_places}
use Rattle.grammar.specs.Theorems.InOrder.{NeverFalling, from_below, diagnostics_in_order, StartsInOrder, places_in_order}

-- tokens of whole characters that stand from n on
tokens_in_order : (n : ℕ) (ts : List Token) → Every Filled ts → Every WholeCharacters ts → (anchor : ℕ)
    → anchor ≡ n + last_char (token_bytes ts) → StartsInOrder n (ends n ts) anchor
unfolding ends
tokens_in_order n [] f w anchor h = tt
tokens_in_order n (t ∷ []) f w anchor h = (omega arith, tt)
tokens_in_order n (t ∷ u ∷ ts) f w anchor h =
    let behind = token_bytes (u ∷ ts) in
    let some : 0 < length behind = omega (arith, length-append u.text (token_bytes ts), f.1.0) in
    let later = last_append w.0 behind some in
    (omega arith, tokens_in_order (n + length t.text) (u ∷ ts) f.1 w.1 anchor (omega (arith, h, later)))

pub starts_in_order : (limit : ℕ) (source : List ℕ) → WellFormed source → NeverFalling 0 (map (λ p. p.start) (source_places limit source))
starts_in_order limit source w =
    let anchor_is = ap last_char (sym (lossless source)) in
    let tokens = tokens_in_order 0 (tokenize source) (every_filled source) (every_whole source w) (last_char source) (omega (arith, anchor_is)) in
    from_below 0 (place 0 (token_ends source) 0 (last_char source) 0).start (map (λ p. p.start) (source_places limit source)) (omega arith)
    (places_in_order (token_ends source) (last_char source) tokens 0 (diags limit (symbols source)) (diagnostics_in_order limit (symbols source)))
