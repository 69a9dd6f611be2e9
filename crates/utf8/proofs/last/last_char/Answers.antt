-- `utf8::last::last_char` meets its contract: the bytes behind the one found are all continuation bytes. Assumes nothing.
use mathlib.Core.Path.{◌∙◌}
use Rattle.std.proofs.Common.{rules}
use Rattle.std.proofs.iter.runs.Made.{chains}
use Rattle.utf8.proofs.LastByte.{last_found}
use Rattle.utf8.proofs.last.last_char.Goals as goal

pub returns : goal.returns
returns c = c.unwrap_or.ensures ∙ last_found c.rposition.result c.args.source.now c.requires (search (rules, chains))
