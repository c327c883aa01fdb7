-- `single::domain::expand` meets its contract. The invariant is `Growing`: the nodes from i on are grown. Assumes nothing.
use Rattle.single.proofs.GrowLaws.{Growing}
use Rattle.single.proofs.domain.expand.Given as goal

abbrev pub invariant-loop-i : goal.invariant-loop-i
invariant-loop-i g l = Growing (g.G.Grow.child l.growth) l.next l.initial.nodes l.i l.nodes
