-- `single::domain::expand_inner` meets its contract. The invariant is `Layered`: layer j stands in the slice. Assumes nothing.
use Rattle.cipher.specs.TreeHash.{hash_by}
use Rattle.single.proofs.Layers.{Layered}
use Rattle.single.proofs.domain.expand_inner.Given as goal

abbrev pub invariant-loop-j : goal.invariant-loop-j
invariant-loop-j l = Layered (hash_by l.h) l.k.lows l.k.highs l.k.seed l.last l.n l.initial.nodes l.j l.nodes
