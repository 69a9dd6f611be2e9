-- The tokens of a text's bytes are the tokens of its characters, each text encoded; so every token is whole characters.
-- Assumes nothing.
use Rattle.std.specs.Prelude.{ℕ, zero, suc, ◌≤◌, ◌<◌, ◌≡◌, List, [], ◌∷◌, ◌++◌, map, length, take, drop}
use Rattle.std.proofs.Common.{sym, ap, ◌∙◌, append-nil}
use Rattle.std.proofs.Math.Seq.{take-append_seam, drop-append_seam}
use Rattle.utf8.specs.Width.{width}
use Rattle.utf8.specs.Scalar.{encode}
use Rattle.lexer.specs.Lexer.{Lexeme, Token, tokenize}
use Rattle.lexer.specs.Laws.{tokenize_nil, tokenize_cons, Every}
use Rattle.utf8.specs.WellFormed.{WellFormed}
use Rattle.characters.specs.Text.{Scalars, encode_all}
use Rattle.characters.specs.ByCharacters.{ByCharacters, WholeCharacters}
use Rattle.characters.proofs.Decode.{encoded_well_formed, decodes, encode_once}
use Rattle.characters.specs.CharLexer.{char_next, char_tokens, char_tokenize, encoded}
use Rattle.characters.proofs.Spelling.{HighBytes, Spelling, ascii, wide, spelling}
use Rattle.characters.proofs.Agree.{take_encoded, drop_encoded}
use Rattle.characters.proofs.AgreeNext.{next_ascii, next_wide, char_next_wide}

-- the token that a character starts, before r
abbrev char_token : ℕ → List ℕ → Token
char_token c r = record { kind = (char_next c r).kind; text = c ∷ take (char_next c r).more r }

-- a token of bytes by its lexeme, and the tokens behind it
abbrev by_lexeme : ℕ → List ℕ → Lexeme → List Token
by_lexeme b s t = record { kind = t.kind; text = b ∷ take t.more s } ∷ tokenize (drop t.more s)

-- the first token over the bytes is that over the characters, encoded, and the bytes of the characters behind it are left
abbrev First : ℕ → List ℕ → Type 0
First c r = tokenize (encode c ++ encode_all r) ≡ encoded (char_token c r) ∷ tokenize (encode_all (drop (char_next c r).more r))

first_ascii : (c : ℕ) (r : List ℕ) → c < 0x80 → encode c ≡ c ∷ [] → First c r
unfolding encode_all
first_ascii c r h e =
    let m = (char_next c r).more in
    rw e
    (tokenize_cons c (encode_all r) ∙ ap (by_lexeme c (encode_all r)) (next_ascii c h r)
    ∙ rw (take_encoded m r, drop_encoded m r))

first_wide : (c : ℕ) (r : List ℕ) (b : ℕ) (bs : List ℕ) → 0x80 ≤ c → encode c ≡ b ∷ bs → HighBytes (b ∷ bs) → width b ≡ suc (length bs)
    → First c r
unfolding encode_all
first_wide c r b bs h e w n =
    rw (e, char_next_wide c r h, append-nil bs)
    (tokenize_cons b (bs ++ encode_all r) ∙ ap (by_lexeme b (bs ++ encode_all r)) (next_wide b bs (encode_all r) w.0 n)
    ∙ rw (take-append_seam bs (encode_all r), drop-append_seam bs (encode_all r)))

first : (c : ℕ) (r : List ℕ) → First c r
first c r = by_spelling (spelling c)
  where
    by_spelling : Spelling c → First c r
    by_spelling (ascii h e) = first_ascii c r h e
    by_spelling (wide b bs h e w n) = first_wide c r b bs h e w n

-- the tokens behind k characters
behind : (k : ℕ) (cs : List ℕ) → tokenize (encode_all (drop k cs)) ≡ map encoded (char_tokens k cs)
unfolding char_tokens encode_all
behind zero [] = tokenize_nil
behind (suc k) [] = tokenize_nil
behind zero (c ∷ r) = first c r ∙ ap (λ (ts : List Token). encoded (char_token c r) ∷ ts) (behind (char_next c r).more r)
behind (suc k) (c ∷ r) = behind k r

-- the tokens of a text's bytes are the tokens of its characters, encoded
pub encoded_tokens : (cs : List ℕ) → tokenize (encode_all cs) ≡ map encoded (char_tokenize cs)
unfolding char_tokenize
encoded_tokens cs = behind 0 cs

-- every well-formed source is lexed by bytes as by characters
pub by_characters : (s : List ℕ) → WellFormed s → ByCharacters s
by_characters s w =
    let d = decodes w in
    record {
      characters = d.0;
      scalars = d.1;
      bytes = d.2;
      only = λ cs p e. encode_once cs d.0 p d.1 (e ∙ sym d.2);
      tokens = ap tokenize (sym d.2) ∙ encoded_tokens d.0;
    }

scalars_take : (n : ℕ) (cs : List ℕ) → Scalars cs → Scalars (take n cs)
scalars_take zero cs p = tt
scalars_take (suc n) [] p = tt
scalars_take (suc n) (c ∷ cs) p = (p.0, scalars_take n cs p.1)

-- every token is whole characters, of those that are left behind k
whole : (k : ℕ) (cs : List ℕ) → Scalars cs → Every WholeCharacters (map encoded (char_tokens k cs))
unfolding char_tokens
whole k [] p = tt
whole zero (c ∷ r) p =
    let m = (char_next c r).more in
    (encoded_well_formed (c ∷ take m r) (p.0, scalars_take m r p.1), whole m r p.1)
whole (suc k) (c ∷ r) p = whole k r p.1

-- every token of a well-formed source is a well-formed text
pub every_whole : (s : List ℕ) → WellFormed s → Every WholeCharacters (tokenize s)
unfolding char_tokenize
every_whole s w =
    let b = by_characters s w in
    rw b.tokens (whole 0 b.characters b.scalars)
