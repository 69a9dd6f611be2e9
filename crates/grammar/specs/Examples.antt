-- Document 01's examples, computed from source bytes. Where it does not say the whole reading, the rest is the compiled reference's answer.
-- Assumes nothing.
use Rattle.std.specs.Prelude.{ℕ, zero, suc, ◌≡◌, refl, Bool, true, false, List, [], ◌∷◌, ◌++◌, map, length}
use Prim.Native.String.{String}
use Rattle.lexer.specs.Syntax.{Error, Whitespace, Newline, Comment, Ident, Number, QuotedIdent, QuotedString, Dot, Equal, RParen}
use Rattle.grammar.specs.Words.{words, word_of}
use Rattle.grammar.specs.Block.{MAX_CONTROL_FLOW_NESTING as limit}
use Rattle.grammar.specs.Joins.{shut_by}
use Rattle.grammar.specs.Source.{source_events, source_places, Reading}
use Rattle.grammar.specs.Compute.{bytes, ◌from◌to◌, again}
use Rattle.grammar.specs.Theorems.FewOpen.{peak}

-- Text as bytes: characters of one to four.
text_bytes : bytes "aé€😀" ≡ 0x61 ∷ 0xC3 ∷ 0xA9 ∷ 0xE2 ∷ 0x82 ∷ 0xAC ∷ 0xF0 ∷ 0x9F ∷ 0x98 ∷ 0x80 ∷ []
unfolding again
text_bytes = refl

-- ---- The table T1 to T10: sources and their readings.
pub worked_readings : List Reading
worked_readings =
    -- T1
    record {
      source = bytes "";
      kinds = [];
      ends = [];
      events = 2 ∷ 0 ∷ [];
      diagnostics = [];
    }
    -- T2
    ∷ record {
      source = bytes "begin";
      kinds = Ident ∷ [];
      ends = 5 ∷ [];
      events = 2 ∷ 13 ∷ 31 ∷ 18 ∷ 0 ∷ 0 ∷ 0 ∷ [];
      diagnostics = 1 from 4 to 4 ∷ [];
    }
    -- T3
    ∷ record {
      source = bytes "\r\r\n";
      kinds = Newline ∷ Newline ∷ [];
      ends = 1 ∷ 3 ∷ [];
      events = 2 ∷ 28 ∷ 28 ∷ 0 ∷ [];
      diagnostics = [];
    }
    -- T4
    ∷ record {
      source = bytes "\"\"";
      kinds = QuotedIdent ∷ [];
      ends = 2 ∷ [];
      events = 2 ∷ 1 ∷ 34 ∷ 0 ∷ 0 ∷ [];
      diagnostics = 22 from 0 to 2 ∷ [];
    }
    ∷ record {
      source = bytes "\"a b\"";
      kinds = QuotedString ∷ [];
      ends = 5 ∷ [];
      events = 2 ∷ 1 ∷ 35 ∷ 0 ∷ 0 ∷ [];
      diagnostics = 22 from 0 to 5 ∷ [];
    }
    -- T5: a backslash takes the line break; without one the quote ends there.
    ∷ record {
      source = bytes "\"a\\\nb\"";
      kinds = QuotedString ∷ [];
      ends = 6 ∷ [];
      events = 2 ∷ 1 ∷ 35 ∷ 0 ∷ 0 ∷ [];
      diagnostics = 22 from 0 to 6 ∷ [];
    }
    ∷ record {
      source = bytes "\"a\n";
      kinds = Error ∷ Newline ∷ [];
      ends = 2 ∷ 3 ∷ [];
      events = 2 ∷ 1 ∷ 60 ∷ 0 ∷ 28 ∷ 0 ∷ [];
      diagnostics = 22 from 0 to 2 ∷ 50 from 0 to 2 ∷ [];
    }
    -- T6
    ∷ record {
      source = bytes "0b12";
      kinds = Number ∷ Number ∷ [];
      ends = 3 ∷ 4 ∷ [];
      events = 2 ∷ 1 ∷ 33 ∷ 0 ∷ 1 ∷ 33 ∷ 0 ∷ 0 ∷ [];
      diagnostics = 22 from 0 to 3 ∷ 22 from 3 to 4 ∷ [];
    }
    -- T7
    ∷ record {
      source = bytes ")";
      kinds = RParen ∷ [];
      ends = 1 ∷ [];
      events = 2 ∷ 1 ∷ 55 ∷ 0 ∷ 0 ∷ [];
      diagnostics = 22 from 0 to 1 ∷ [];
    }
    -- T8
    ∷ record {
      source = bytes "proc a const X = 1";
      kinds = Ident ∷ Whitespace ∷ Ident ∷ Whitespace ∷ Ident ∷ Whitespace ∷ Ident ∷ Whitespace ∷ Equal ∷ Whitespace ∷ Number ∷ [];
      ends = 4 ∷ 5 ∷ 6 ∷ 7 ∷ 12 ∷ 13 ∷ 14 ∷ 15 ∷ 16 ∷ 17 ∷ 18 ∷ [];
      events = 2 ∷ 14 ∷ 31 ∷ 27 ∷ 31 ∷ 27 ∷ 18 ∷ 1 ∷ 0 ∷ 0 ∷ 0 ∷ 10 ∷ 31 ∷ 27 ∷ 31 ∷ 27 ∷ 44 ∷ 27 ∷ 25 ∷ 33 ∷ 0 ∷ 0 ∷ 0 ∷ [];
      diagnostics = 11 from 7 to 12 ∷ [];
    }
    -- T9
    ∷ record {
      source = bytes "begin do while.true end while end end";
      kinds = Ident ∷ Whitespace ∷ Ident ∷ Whitespace ∷ Ident ∷ Dot ∷ Ident ∷ Whitespace ∷ Ident ∷ Whitespace ∷ Ident ∷ Whitespace ∷ Ident ∷ Whitespace ∷ Ident ∷ [];
      ends = 5 ∷ 6 ∷ 8 ∷ 9 ∷ 14 ∷ 15 ∷ 19 ∷ 20 ∷ 23 ∷ 24 ∷ 29 ∷ 30 ∷ 33 ∷ 34 ∷ 37 ∷ [];
      events = 2 ∷ 13 ∷ 31 ∷ 27 ∷ 18 ∷ 21 ∷ 31 ∷ 27 ∷ 18 ∷ 20 ∷ 31 ∷ 41 ∷ 31 ∷ 27 ∷ 18 ∷ 0 ∷ 31 ∷ 0 ∷ 27 ∷ 0 ∷ 31 ∷ 27 ∷ 18 ∷ 0 ∷ 31 ∷ 0 ∷ 27 ∷ 0 ∷ 31 ∷ 0 ∷ 0 ∷ [];
      diagnostics = [];
    }
    -- T10: the type's body runs to the end, line break and Ident stand in it.
    ∷ record {
      source = bytes "type T = felt\nfoo";
      kinds = Ident ∷ Whitespace ∷ Ident ∷ Whitespace ∷ Equal ∷ Whitespace ∷ Ident ∷ Newline ∷ Ident ∷ [];
      ends = 4 ∷ 5 ∷ 6 ∷ 7 ∷ 8 ∷ 9 ∷ 13 ∷ 14 ∷ 17 ∷ [];
      events = 2 ∷ 11 ∷ 31 ∷ 27 ∷ 31 ∷ 27 ∷ 26 ∷ 44 ∷ 27 ∷ 31 ∷ 28 ∷ 31 ∷ 0 ∷ 0 ∷ 0 ∷ [];
      diagnostics = [];
    }
    ∷ []

pub shown : map again worked_readings ≡ worked_readings
unfolding again worked_readings
shown = refl

-- ---- Document 01's other sources, and its slips of the trade.
pub others : List Reading
others =
    -- The example of program `tree`.
    record {
      source = bytes "begin add end\n";
      kinds = Ident ∷ Whitespace ∷ Ident ∷ Whitespace ∷ Ident ∷ Newline ∷ [];
      ends = 5 ∷ 6 ∷ 9 ∷ 10 ∷ 13 ∷ 14 ∷ [];
      events = 2 ∷ 13 ∷ 31 ∷ 27 ∷ 18 ∷ 23 ∷ 31 ∷ 0 ∷ 27 ∷ 0 ∷ 31 ∷ 0 ∷ 28 ∷ 0 ∷ [];
      diagnostics = [];
    }
    -- The space between an instruction and its comment is the block's.
    ∷ record {
      source = bytes "begin add # c\nend";
      kinds = Ident ∷ Whitespace ∷ Ident ∷ Whitespace ∷ Comment ∷ Newline ∷ Ident ∷ [];
      ends = 5 ∷ 6 ∷ 9 ∷ 10 ∷ 13 ∷ 14 ∷ 17 ∷ [];
      events = 2 ∷ 13 ∷ 31 ∷ 27 ∷ 18 ∷ 23 ∷ 31 ∷ 0 ∷ 27 ∷ 29 ∷ 28 ∷ 0 ∷ 31 ∷ 0 ∷ 0 ∷ [];
      diagnostics = [];
    }
    -- The missing `end` is reported once.
    ∷ record {
      source = bytes "begin if.x while.y";
      kinds = Ident ∷ Whitespace ∷ Ident ∷ Dot ∷ Ident ∷ Whitespace ∷ Ident ∷ Dot ∷ Ident ∷ [];
      ends = 5 ∷ 6 ∷ 8 ∷ 9 ∷ 10 ∷ 11 ∷ 16 ∷ 17 ∷ 18 ∷ [];
      events = 2 ∷ 13 ∷ 31 ∷ 27 ∷ 18 ∷ 19 ∷ 31 ∷ 41 ∷ 31 ∷ 27 ∷ 18 ∷ 20 ∷ 31 ∷ 41 ∷ 31 ∷ 18 ∷ 0 ∷ 0 ∷ 0 ∷ 0 ∷ 0 ∷ 0 ∷ 0 ∷ [];
      diagnostics = 4 from 17 to 17 ∷ [];
    }
    -- In a `do` body `while .a` closes the body, and the dot is an error.
    ∷ record {
      source = bytes "begin do while .a end end";
      kinds = Ident ∷ Whitespace ∷ Ident ∷ Whitespace ∷ Ident ∷ Whitespace ∷ Dot ∷ Ident ∷ Whitespace ∷ Ident ∷ Whitespace ∷ Ident ∷ [];
      ends = 5 ∷ 6 ∷ 8 ∷ 9 ∷ 14 ∷ 15 ∷ 16 ∷ 17 ∷ 18 ∷ 21 ∷ 22 ∷ 25 ∷ [];
      events = 2 ∷ 13 ∷ 31 ∷ 27 ∷ 18 ∷ 21 ∷ 31 ∷ 27 ∷ 18 ∷ 0 ∷ 31 ∷ 27 ∷ 18 ∷ 1 ∷ 41 ∷ 0 ∷ 23 ∷ 31 ∷ 0 ∷ 27 ∷ 0 ∷ 31 ∷ 0 ∷ 27 ∷ 0 ∷ 31 ∷ 0 ∷ 0 ∷ [];
      diagnostics = 46 from 15 to 16 ∷ [];
    }
    -- The space stands in the Expr, and leaves it once `proc` follows.
    ∷ record {
      source = bytes "const X = 1 \n";
      kinds = Ident ∷ Whitespace ∷ Ident ∷ Whitespace ∷ Equal ∷ Whitespace ∷ Number ∷ Whitespace ∷ Newline ∷ [];
      ends = 5 ∷ 6 ∷ 7 ∷ 8 ∷ 9 ∷ 10 ∷ 11 ∷ 12 ∷ 13 ∷ [];
      events = 2 ∷ 10 ∷ 31 ∷ 27 ∷ 31 ∷ 27 ∷ 44 ∷ 27 ∷ 25 ∷ 33 ∷ 27 ∷ 0 ∷ 0 ∷ 28 ∷ 0 ∷ [];
      diagnostics = [];
    }
    ∷ record {
      source = bytes "const X = 1 \nproc";
      kinds = Ident ∷ Whitespace ∷ Ident ∷ Whitespace ∷ Equal ∷ Whitespace ∷ Number ∷ Whitespace ∷ Newline ∷ Ident ∷ [];
      ends = 5 ∷ 6 ∷ 7 ∷ 8 ∷ 9 ∷ 10 ∷ 11 ∷ 12 ∷ 13 ∷ 17 ∷ [];
      events = 2 ∷ 10 ∷ 31 ∷ 27 ∷ 31 ∷ 27 ∷ 44 ∷ 27 ∷ 25 ∷ 33 ∷ 0 ∷ 27 ∷ 0 ∷ 28 ∷ 14 ∷ 31 ∷ 18 ∷ 0 ∷ 0 ∷ 0 ∷ [];
      diagnostics = 37 from 16 to 16 ∷ 2 from 16 to 16 ∷ [];
    }
    ∷ []

pub others_shown : map again others ≡ others
unfolding again others
others_shown = refl

-- The words' numbers.
word_numbers : map word_of words ≡ 1 ∷ 2 ∷ 3 ∷ 4 ∷ 5 ∷ 6 ∷ 7 ∷ 8 ∷ 9 ∷ 10 ∷ 11 ∷ 12 ∷ 13 ∷ 14 ∷ 15 ∷ 16 ∷ []
unfolding again
word_numbers = refl

-- ---- The bounds are reached.
-- `begin` and n times ` if`, read at the reader's limit: at 256 one missing `end`, at 257 the depth diagnostic; 516 nodes are open.
ifs : ℕ → List ℕ
ifs zero = []
ifs (suc n) = bytes " if" ++ ifs n

deepest : source_places limit (bytes "begin" ++ ifs 256) ≡ 3 from 772 to 772 ∷ []
unfolding again ifs
deepest = refl

too_deep : source_places limit (bytes "begin" ++ ifs 257) ≡ 49 from 774 to 776 ∷ []
unfolding again ifs
too_deep = refl

most_open : peak 0 (source_events limit (bytes "begin" ++ ifs 257)) ≡ 516
unfolding again ifs
most_open = refl

-- Two diagnostics for a token.
two_each : length (source_places limit (bytes "@$@$")) ≡ 8
unfolding again
two_each = refl

-- A constant that reports five times for two tokens, and ends at the doc comment.
five_for_two : source_places limit (bytes "pub(#!d\n)const") ≡
    40 from 4 to 7 ∷ 41 from 4 to 7 ∷ 26 from 4 to 7 ∷ 27 from 4 to 7 ∷ 28 from 4 to 7 ∷ 22 from 8 to 9 ∷ 27 from 13 to 13 ∷ 28 from 13 to 13 ∷ []
unfolding again
five_for_two = refl

-- ---- Joins. That the premises are needed is shown of calls, in answer/proofs/Needed.
-- Whether by the events the last token but one closes a procedure or begin block under the root.
end_closes : String → Bool
end_closes a = shut_by [] (source_events limit (bytes a))

-- In the first two it does. Then it is the last token of a type's body, a procedure's name, an inner block's `end`, and once more a type's
-- token, where an earlier `end` closes.
ends_close :
    map end_closes
    ("begin end\n" ∷ "@a pub proc b if add end end\n" ∷ "type a = end\n" ∷ "proc end\n" ∷ "begin if end\n" ∷ "begin end type a = end\n" ∷ [])
    ≡ true ∷ true ∷ false ∷ false ∷ false ∷ false ∷ []
unfolding again end_closes
ends_close = refl
