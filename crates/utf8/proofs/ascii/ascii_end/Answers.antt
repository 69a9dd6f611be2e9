-- `utf8::ascii::ascii_end` meets its contract: each block passed is 64 characters. Assumes nothing.
use Rattle.std.proofs.Common.{rules}
use Rattle.utf8.proofs.Laws.{passes_block}
use Rattle.utf8.proofs.ascii.ascii_end.Goals as goal

pub loop-i-preserved : goal.loop-i-preserved
loop-i-preserved c =
    let blocks = c.as_chunks.ensures in
    passes_block blocks.front blocks.front_len c.loop-i-test.true c.loop-i.invariant (c.is_ascii.ensures.0 (search rules))
