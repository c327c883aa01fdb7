-- `placement::held::sizes_and_positions` meets its contract. The invariant: the cells below x are counted and noted. Assumes
-- nothing.
use Rattle.placement.specs.Functions.{bucket_in}
use Rattle.placement.proofs.NoteLaws.{Noting}
use Rattle.placement.proofs.held.sizes_and_positions.Given as goal

abbrev pub invariant-loop-x : goal.invariant-loop-x
invariant-loop-x l = Noting (bucket_in l.functions) l.functions.buckets l.s l.points l.initial.work l.x 0 l.work
