-- What a round of each loop decides, by the tests that the code makes. Assumes nothing.
use mathlib.Core.Bool.{Bool, true, false, cond, not, ◌&&◌, ◌||◌}
use mathlib.Core.List.{List, [], ◌∷◌}
use mathlib.Core.Path.{◌≡◌, refl, sym, ap, ◌∙◌}
use Rattle.std.specs.Prelude.{Some, is_some}
use Rattle.lexer.specs.Syntax.{Whitespace, Newline, Comment, DocComment}
use Rattle.grammar.specs.Words.{Sym}
use Rattle.grammar.specs.Look.{one_of, is_trivia, current, at, at_kind, space_before_top_level_item}
use Rattle.grammar.specs.Run.{Round, stop, go}
use Rattle.grammar.specs.Nesting.{is_root, bump_nesting}
use Rattle.grammar.specs.Line.{Expression, expr_round, ResultType, result_round}
use Rattle.grammar.specs.Instruction.{Inst, instruction_round, should_continue_instruction_after_whitespace, should_stop_instruction_before}
use Rattle.grammar.specs.declared.nesting.Nesting.{Nesting}
use Rattle.forms.specs.Line.{line_ends, expr_ends}
use Rattle.forms.specs.Instruction.{instruction_ends}

-- the kinds that end a line, as the rounds ask for them
line_kinds : (r : List Sym) → at (one_of (Newline ∷ Comment ∷ DocComment ∷ [])) r ≡ (at_kind Newline r || at (one_of (Comment ∷ DocComment ∷ [])) r)
unfolding one_of at
line_kinds [] = refl
line_kinds (s ∷ r) = refl

-- a test that is made in parts
module _ {A : Type 0} (x y : A) where
  in_two : (a b c : Bool) → cond (a && b) x (cond (a && c) x y) ≡ cond (a && (c || b)) x y
  in_two false b c = refl
  in_two true true true = refl
  in_two true true false = refl
  in_two true false true = refl
  in_two true false false = refl

  if_true : {u v : Bool} → v ≡ u → v ≡ true → cond u x y ≡ x
  if_true e k = ap (λ t. cond t x y) (sym e ∙ k)

  if_false : {u v : Bool} → v ≡ u → v ≡ false → cond u x y ≡ y
  if_false e k = ap (λ t. cond t x y) (sym e ∙ k)

  in_either : (a b : Bool) → cond a x (cond b x y) ≡ cond (a || b) x y
  in_either true b = refl
  in_either false b = refl

-- the locals behind a token, by the counts
abbrev pub expr_locals : Bool → List Sym → Nesting → Expression
expr_locals saw r n = record { nesting = n; saw_significant = saw || not (is_trivia (current r)) }

module _ {saw saw' : Bool} (r : List Sym) {n : Nesting} where
  pub expr_saw : saw' ≡ saw → saw ≡ true → expr_locals saw r n ≡ record { nesting = n; saw_significant = saw' }
  expr_saw e h = rw (e, h)

  pub expr_next : {x : Bool} {k : Sym} → saw' ≡ not x → saw ≡ false → x ≡ is_trivia k → k ≡ current r → expr_locals saw r n ≡ record { nesting = n; saw_significant = saw' }
  expr_next e h t c = rw (e, h, t, ← c)

module _ (l : Expression) (r : List Sym) where
  abbrev expr_goes : Round Expression
  expr_goes = bump_nesting l.nesting (current r) (expr_locals l.saw_significant r)

  expr_round_is : expr_round l r ≡ cond (expr_ends l.nesting l.saw_significant r) stop expr_goes
  unfolding expr_round expr_ends line_ends
  expr_round_is =
      let item = is_root l.nesting && (l.saw_significant && (at_kind Whitespace r && space_before_top_level_item r)) in
      in_two stop (cond item stop expr_goes) (is_root l.nesting) (at (one_of (Comment ∷ DocComment ∷ [])) r) (at_kind Newline r)
      ∙ ap (λ t. cond (is_root l.nesting && t) stop (cond item stop expr_goes)) (sym (line_kinds r))
      ∙ in_either stop expr_goes (line_ends l.nesting r) item

  pub expr_stops : {x : Bool} → x ≡ expr_ends l.nesting l.saw_significant r → x ≡ true → expr_round l r ≡ stop
  expr_stops e k = expr_round_is ∙ if_true stop expr_goes e k

  pub expr_counts : {x : Bool} → x ≡ expr_ends l.nesting l.saw_significant r → x ≡ false → expr_round l r ≡ expr_goes
  expr_counts e k = expr_round_is ∙ if_false stop expr_goes e k

abbrev pub result_locals : Nesting → ResultType
result_locals n = record { nesting = n; taken = true }

module _ (l : ResultType) (r : List Sym) where
  abbrev result_goes : Round ResultType
  result_goes = bump_nesting l.nesting (current r) result_locals

  result_round_is : result_round l r ≡ cond (line_ends l.nesting r) stop result_goes
  unfolding result_round line_ends
  result_round_is =
      in_two stop result_goes (is_root l.nesting) (at (one_of (Comment ∷ DocComment ∷ [])) r) (at_kind Newline r)
      ∙ ap (λ t. cond (is_root l.nesting && t) stop result_goes) (sym (line_kinds r))

  pub result_stops : {x : Bool} → x ≡ line_ends l.nesting r → x ≡ true → result_round l r ≡ stop
  result_stops e k = result_round_is ∙ if_true stop result_goes e k

  pub result_counts : {x : Bool} → x ≡ line_ends l.nesting r → x ≡ false → result_round l r ≡ result_goes
  result_counts e k = result_round_is ∙ if_false stop result_goes e k

-- ---- instructions
abbrev pub instruction_locals : List Sym → Nesting → Inst
instruction_locals r n = record { nesting = n; previous = Some (current r) }

pub instruction_next : (r : List Sym) {n : Nesting} {k : Sym} → k ≡ current r → instruction_locals r n ≡ record { nesting = n; previous = Some k }
instruction_next r c = rw (← c)

trivia_kinds : (r : List Sym) → at is_trivia r ≡ (at_kind Whitespace r || at (one_of (Newline ∷ Comment ∷ DocComment ∷ [])) r)
unfolding one_of at
trivia_kinds [] = refl
trivia_kinds (s ∷ r) = refl

module _ (l : Inst) (r : List Sym) where
  abbrev instruction_goes : Round Inst
  instruction_goes = bump_nesting l.nesting (current r) (instruction_locals r)

  -- white: at whitespace; line: at the end of a line
  in_order : {A : Type 0} (x y z : A) (white line on root next : Bool)
      → cond white (cond on y x) (cond line (cond root x y) (cond next x z)) ≡ cond (cond white (not on) (cond line root next)) x (cond (white || line) y z)
  in_order x y z true line true root next = refl
  in_order x y z true line false root next = refl
  in_order x y z false true on true next = refl
  in_order x y z false true on false next = refl
  in_order x y z false false on root true = refl
  in_order x y z false false on root false = refl

  instruction_round_is : instruction_round l r ≡ cond (instruction_ends l.previous l.nesting r) stop (cond (at is_trivia r) (go l) instruction_goes)
  unfolding instruction_round instruction_ends
  instruction_round_is =
      in_order stop (go l) instruction_goes (at_kind Whitespace r) (at (one_of (Newline ∷ Comment ∷ DocComment ∷ [])) r)
      (should_continue_instruction_after_whitespace l.previous l.nesting r) (is_root l.nesting) (is_some l.previous && should_stop_instruction_before l.previous l.nesting r)
      ∙ ap (λ t. cond (instruction_ends l.previous l.nesting r) stop (cond t (go l) instruction_goes)) (sym (trivia_kinds r))

  module _ {x : Bool} (e : x ≡ instruction_ends l.previous l.nesting r) where
    pub instruction_stops : x ≡ true → instruction_round l r ≡ stop
    instruction_stops k = instruction_round_is ∙ if_true stop _ e k

    pub instruction_takes : x ≡ false → at is_trivia r ≡ true → instruction_round l r ≡ go l
    instruction_takes k t = instruction_round_is ∙ if_false stop _ e k ∙ if_true (go l) instruction_goes refl t

    pub instruction_counts : x ≡ false → at is_trivia r ≡ false → instruction_round l r ≡ instruction_goes
    instruction_counts k t = instruction_round_is ∙ if_false stop _ e k ∙ if_false (go l) instruction_goes refl t
