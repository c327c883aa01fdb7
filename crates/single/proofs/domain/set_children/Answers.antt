-- `single::domain::set_children` meets its contract: the left child is stored, and the other right behind it where there is a
-- place. Assumes nothing.
use Rattle.single.proofs.GrowLaws.{children-one, children_two}
use Rattle.single.proofs.domain.set_children.Goals as goal

pub returns-then-i-next : goal.returns-then-i-next
returns-then-i-next c =
    let a = c.args in
    children_two a.nodes.now a.i a.next a.left a.right c.set_node.ensures
    c.set_node-then-i-next.ensures c.if-i-next.true c.requires.1

pub returns-else-i-next : goal.returns-else-i-next
returns-else-i-next c =
    let a = c.args in
    children-one a.nodes.now a.i a.next a.left a.right c.set_node.ensures c.if-i-next.false
