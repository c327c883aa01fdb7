-- `placement::Functions::count` meets its contract. The invariant: the cells below x are counted, and what is no counter is as it
-- was. Assumes nothing.
use Rattle.placement.specs.Functions.{bucket_in}
use Rattle.placement.proofs.CountLaws.{Passing}
use Rattle.placement.proofs.Functions.count.Given as goal

abbrev pub invariant-loop-x : goal.invariant-loop-x
invariant-loop-x l = Passing (bucket_in l.self) l.self.buckets l.base l.initial.work l.x l.work
