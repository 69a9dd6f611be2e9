-- What a call that returned 0 gave; and demand 3 in terms of calls: when A and B join, and what the call on the join then gives.
-- Assumes nothing: these are definitions.
use Rattle.std.specs.Prelude.{ℕ, ◌+◌, ◌-◌, ◌≤◌, ◌≡◌, Bool, true, false, ◌&&◌, eqb, length, get_or, take, drop}
use mathlib.Core.List.{List, [], ◌∷◌, ◌++◌, map, tail, drop_last}
use Rattle.lexer.specs.Syntax.{Ident, Newline, RParen}
use Rattle.lexer.specs.Lexer.{Token, same}
use Rattle.lexer.specs.Laws.{last}
use Rattle.grammar.specs.Words.{is}
use Rattle.grammar.specs.Look.{at, next_relevant_block_token}
use Rattle.grammar.specs.Joins.{shut_by}
use Rattle.answer.specs.Answer.{Slices, token_room, diagnostic_room}

-- The counts of tokens, events and diagnostics, as the call leaves them.
abbrev pub token_count : List ℕ → ℕ
token_count counts = get_or counts 0 0

abbrev pub event_count : List ℕ → ℕ
event_count counts = get_or counts 1 0

abbrev pub diagnostic_count : List ℕ → ℕ
diagnostic_count counts = get_or counts 2 0

-- The first T tokens, E events and D diagnostics in the slices.
abbrev pub given : Slices → List ℕ → Slices
given s counts = record {
  kinds = take (token_count counts) s.kinds;
  ends = take (token_count counts) s.ends;
  events = take (event_count counts) s.events;
  messages = take (diagnostic_count counts) s.messages;
  starts = take (diagnostic_count counts) s.starts;
  stops = take (diagnostic_count counts) s.stops;
}

-- The tokens of these kinds and ends, each with its text, cut from the bytes from offset n on.
abbrev pub cut : ℕ → List ℕ → List ℕ → List ℕ → List Token
cut n [] es bs = []
cut n (k ∷ ks) [] bs = []
cut n (k ∷ ks) (e ∷ es) bs = record { kind = k; text = take (e - n) bs } ∷ cut e ks es (drop (e - n) bs)

abbrev pub end_text : List ℕ
end_text = 101 ∷ 110 ∷ 100 ∷ []

abbrev pub is_end : Token → Bool
is_end t = eqb Ident t.kind && same end_text t.text

-- The last token but one is an Ident `end`.
abbrev pub end_before_last : List Token → Bool
end_before_last [] = false
end_before_last (t ∷ []) = false
end_before_last (t ∷ u ∷ []) = is_end t
end_before_last (t ∷ u ∷ v ∷ ts) = end_before_last (u ∷ v ∷ ts)

-- A, the source a, and B may be joined: A's last token is a newline ending in LF, and the token before it is the `end` that closes a
-- procedure or `begin` block under the root; B's first token that is no whitespace, newline or comment isn't `)`, or B has none.
pub record CallsJoin (a : List ℕ) (A B : Slices) : Type 0 where
  pub newline : last 0 A.kinds ≡ Newline
  pub line_feed : last 0 a ≡ 10
  pub word : end_before_last (cut 0 A.kinds A.ends a) ≡ true
  pub closes : shut_by [] A.events ≡ true
  pub starts : at (is RParen) (next_relevant_block_token B.kinds) ≡ false

-- The join fits the slices s and counts lent for it, by the counts of A and B.
pub record Fits (s : Slices) (counts ca cb : List ℕ) : Type 0 where
  pub tokens : token_count ca + token_count cb ≤ token_room s
  pub events : event_count ca + event_count cb ≤ length s.events + 2
  pub diagnostics : diagnostic_count ca + diagnostic_count cb ≤ diagnostic_room s
  pub words : 3 ≤ length counts

-- What the call on the join returns and gives: n is A's length.
pub record JoinReply (n : ℕ) (A B J : Slices) (ca cb cj : List ℕ) (r : ℕ) : Type 0 where
  pub returned : r ≡ 0
  pub t_is : token_count cj ≡ token_count ca + token_count cb
  pub e_is : event_count cj + 2 ≡ event_count ca + event_count cb
  pub d_is : diagnostic_count cj ≡ diagnostic_count ca + diagnostic_count cb
  pub kinds_are : J.kinds ≡ A.kinds ++ B.kinds
  pub ends_are : J.ends ≡ A.ends ++ map (λ e. n + e) B.ends
  pub events_are : J.events ≡ drop_last A.events ++ tail B.events
  pub messages_are : J.messages ≡ A.messages ++ B.messages
  pub starts_are : J.starts ≡ A.starts ++ map (λ e. n + e) B.starts
  pub stops_are : J.stops ≡ A.stops ++ map (λ e. n + e) B.stops
