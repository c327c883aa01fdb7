-- `placement::walk::walk` meets its contract. The invariant: the slice shows the walk over the points passed. Assumes
-- nothing.
use lib.ListN.{length}
use Rattle.placement.specs.Functions.{bucket_in}
use Rattle.placement.specs.Shares.{at_points}
use Rattle.placement.proofs.TurnLaws.{Placing}
use Rattle.placement.proofs.walk.walk.Given as goal

abbrev pub invariant-loop-p : goal.invariant-loop-p
invariant-loop-p l =
    Placing (at_points (bucket_in l.functions) l.points) l.functions.buckets (length l.points) l.p l.work l.evictions
