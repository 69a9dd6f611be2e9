-- `items::item::parse_doc_form`: its node around one token. Assumes nothing.
use Rattle.parser.proofs.Kit.{node}
use Rattle.items.proofs.item.parse_doc_form.Goals as goal

pub returns : goal.returns
returns c =
    node _ c.start_node-a.ensures c.bump-b.ensures.ran c.finish_node.ensures
