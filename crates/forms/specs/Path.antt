-- Parts of paths and groups. Assumes nothing: these are definitions.
use Rattle.std.specs.Prelude.{ℕ, suc, pred, Bool, cond, eqb}
use Rattle.grammar.specs.Words.{Sym, is}
use Rattle.grammar.specs.Look.{at_name_like}
use Rattle.grammar.specs.Run.{P, pick, ◌>>=◌, ◌>>◌, when◌then◌else◌, scan, loop}
use Rattle.grammar.specs.declared.message.Message.{Message}
use Rattle.grammar.specs.Bump.{bump, error_here, nop}
use Rattle.grammar.specs.Path.{path_round, group_round}

-- the names of a path
unfoldable pub path_names : Message → P Bool
path_names message = when at_name_like then (bump >> loop path_round) else error_here message

-- the open delimiters behind a token
unfoldable pub group_step : Sym → Sym → ℕ → Sym → ℕ
group_step opener closer depth k = cond (is opener k) (suc depth) (cond (is closer k) (pred depth) depth)

-- a group behind its opener
unfoldable pub group_rest : Sym → Sym → Message → P Bool
group_rest opener closer missing = scan (group_round opener closer) 1 >>= λ depth. pick (eqb 0 depth) nop (error_here missing)
