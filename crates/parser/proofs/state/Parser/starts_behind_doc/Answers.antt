-- `parser::look::starts_behind_doc` meets its contract: the answer at p is that of each doc comment before the place found.
-- Assumes nothing.
use native.Mathlib.Omega.{arith}
use Rattle.parser.proofs.Ahead.{doc_new}
use Rattle.parser.proofs.state.Parser.starts_behind_doc.Goals as goal

pub returns : goal.returns
returns c =
    let f = c.next_relevant_block_token-next.ensures in
    doc_new c.args.self.now.kinds.now c.args.p (omega (arith, f.ahead)) c.requires.0 f.is c.is_top_level_starter.ensures
