-- `items::file::parse`: from the empty cursor, the root node around the items. Assumes nothing.
use borrow.Author.Rules.{rules}
use Rattle.items.proofs.Whole.{whole, from_start}
use Rattle.parser.proofs.Kit.{node}
use Rattle.items.proofs.file.parse.Goals as goal

pub returns : goal.returns
returns c = whole c.args.limit.forms _ c.requires (search rules) (search rules) (search rules) (from_start c.args.limit.forms c.default.ensures (node _ c.start_node-a.ensures c.source_items-b.ensures c.finish_node.ensures))
