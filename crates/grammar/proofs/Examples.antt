-- An example of a join: see Examples in specs/.
-- Assumes nothing.
use Rattle.std.specs.Prelude.{refl}
use Rattle.grammar.specs.Block.{MAX_CONTROL_FLOW_NESTING as limit}
use Rattle.grammar.specs.Joins.{here, there, Joined}
use Rattle.grammar.specs.Source.{symbols}
use Rattle.grammar.specs.Compute.{bytes, again}
use Rattle.grammar.proofs.Theorems.Joined.{joined}

joined_files : Joined limit (symbols (bytes "proc a pub ( end\n")) (symbols (bytes "proc b end"))
unfolding again
joined_files = joined limit (symbols (bytes "proc a pub ( end\n")) (symbols (bytes "proc b end")) (record { ends = there (there (there (there (there (there (there (there here))))))); closes = refl; starts = refl })
