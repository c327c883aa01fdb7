-- `placement::Functions::lay_sums` meets its contract. The invariant: the cells below x are counted and their sums laid, the
-- other elements are as they came. Assumes nothing.
use mathlib.Core.Path.{◌≡◌}
use Rattle.placement.specs.Functions.{bucket_in}
use Rattle.placement.specs.Passes.{gathered, laid}
use Rattle.placement.proofs.CountLaws.{Passing}
use Rattle.placement.proofs.Functions.lay_sums.Given as goal

abbrev pub invariant-loop-x : goal.invariant-loop-x
invariant-loop-x g l =
    Passing (bucket_in l.self) l.self.buckets l.self.buckets l.initial.work l.x l.work
    × (l.cells ≡ laid g.L.Lay.op (gathered (bucket_in l.self) l.self.domain l.self.buckets l.initial.work) l.initial.cells l.x)
