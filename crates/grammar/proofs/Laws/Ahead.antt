-- The lookahead in a file that goes on, where it may go past parentheses: visibilities, the starters of items, and what stands before them.
-- Assumes nothing.
use Rattle.std.proofs.Math.Path.{◌≡◌, refl, ap₂}
use Rattle.std.specs.Prelude.{Bool}
use Rattle.std.proofs.Math.Bool.{true, false, ◌&&◌, ◌||◌}
use mathlib.Core.List.{List, [], ◌∷◌}
use Rattle.lexer.specs.Syntax.{Whitespace, Newline, DocComment, LParen, RParen}
use Rattle.grammar.specs.Words.{Sym, is, PUB}
use Rattle.grammar.specs.Look.{one_of, regular_trivia, is_trivia, at, eof, skip, past, anyone, next_relevant_top_level_token, next_relevant_block_token, next_token_after_visibility, at_prefixed_keyword, is_top_level_starter, at_top_level_form_starter_in_block, line_break_starts_new_top_level_item, space_before_top_level_item}
use Rattle.grammar.specs.Joins.{here, there}
use Rattle.grammar.specs.Laws.Ahead.{Alike, on, off, not_end_trivia, not_end_any_trivia, look_at, look_skip, look_past}

module _ (b : List Sym) where
  look_eof : {r r' : List Sym} → Alike b r r' → eof r' ≡ eof r
  unfolding eof
  look_eof (on here e) = rw e
  look_eof (on (there t) e) = rw e
  look_eof (off e e') = rw (e, e')

  past_no : (p : Sym → Bool) (r : List Sym) → at p r ≡ false → past p r ≡ []
  unfolding past at
  past_no p [] e = refl
  past_no p (s ∷ r) e = rw (e, past)

  -- The token inside the parentheses may be the `end` itself: then b's first token decides, and it is no `)`.
  module _ (side : at (is RParen) (next_relevant_top_level_token b) ≡ false) where
    look_inside : {r r' : List Sym} → Alike b r r' → Alike b (past (is RParen) (next_relevant_top_level_token (past anyone r))) (past (is RParen) (next_relevant_top_level_token (past anyone r')))
    unfolding past skip one_of
    look_inside (on here e) = off refl (rw e (past_no (is RParen) (next_relevant_top_level_token b) side))
    look_inside (on (there t) e) = rw e (look_past b (is RParen) refl (look_skip b regular_trivia not_end_trivia (on t refl)))
    look_inside (off e e') = off (rw e) (rw e')

    look_vis : {r r' : List Sym} → Alike b r r' → Alike b (next_token_after_visibility r) (next_token_after_visibility r')
    unfolding next_token_after_visibility
    look_vis {r} {r'} h =
        let g = look_skip b regular_trivia not_end_trivia h in
        rw (look_at b (is LParen) g, next_token_after_visibility)
        (elim (at (is LParen) (next_relevant_top_level_token r)) as (λ u. Alike b
        (elim u [ true ↦ next_relevant_top_level_token (past (is RParen) (next_relevant_top_level_token (past anyone (next_relevant_top_level_token (past (is LParen) (next_relevant_top_level_token r)))))) | false ↦ next_relevant_top_level_token r ])
        (elim u [ true ↦ next_relevant_top_level_token (past (is RParen) (next_relevant_top_level_token (past anyone (next_relevant_top_level_token (past (is LParen) (next_relevant_top_level_token r')))))) | false ↦ next_relevant_top_level_token r' ]))
        [ true ↦ look_skip b regular_trivia not_end_trivia (look_inside (look_skip b regular_trivia not_end_trivia (look_past b (is LParen) refl g))) | false ↦ g ])

    pub look_prefixed : (ks : List Sym) {r r' : List Sym} → Alike b r r' → at_prefixed_keyword ks r' ≡ at_prefixed_keyword ks r
    unfolding at_prefixed_keyword
    look_prefixed ks h = ap₂ ◌&&◌ (look_at b (is PUB) h) (look_at b (one_of ks) (look_vis (look_past b (is PUB) refl h)))

    pub look_starter : {r r' : List Sym} → Alike b r r' → is_top_level_starter r' ≡ is_top_level_starter r
    unfolding is_top_level_starter
    look_starter h = ap₂ ◌||◌ (look_at b _ h) (look_prefixed _ h)

    pub look_starter_in_block : {r r' : List Sym} → Alike b r r' → at_top_level_form_starter_in_block r' ≡ at_top_level_form_starter_in_block r
    unfolding at_top_level_form_starter_in_block
    look_starter_in_block {r} {r'} h = rw (look_at b (is DocComment) h, at_top_level_form_starter_in_block)
        (elim (at (is DocComment) r) as (λ u. ◌≡◌ {A = Bool} (elim u [ true ↦ is_top_level_starter (next_relevant_block_token (past (is DocComment) r')) | false ↦ is_top_level_starter r' ]) (elim u [ true ↦ is_top_level_starter (next_relevant_block_token (past (is DocComment) r)) | false ↦ is_top_level_starter r ]))
        [ true ↦ look_starter (look_skip b is_trivia not_end_any_trivia (look_past b (is DocComment) refl h)) | false ↦ look_starter h ])

    pub look_line_break : {r r' : List Sym} → Alike b r r' → line_break_starts_new_top_level_item r' ≡ line_break_starts_new_top_level_item r
    unfolding line_break_starts_new_top_level_item
    look_line_break h = let g = look_skip b regular_trivia not_end_trivia (look_past b (is Newline) refl h) in ap₂ ◌||◌ (look_eof g) (look_starter g)

    pub look_space : {r r' : List Sym} → Alike b r r' → space_before_top_level_item r' ≡ space_before_top_level_item r
    unfolding space_before_top_level_item
    look_space h = look_starter (look_skip b regular_trivia not_end_trivia (look_past b (is Whitespace) refl h))
