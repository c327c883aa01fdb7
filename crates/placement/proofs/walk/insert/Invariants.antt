-- `placement::walk::insert` meets its contract. The invariant: what is left of the tries comes to what they all come to.
-- Assumes nothing.
use lib.ListN.{length}
use Rattle.placement.specs.Functions.{bucket_in}
use Rattle.placement.specs.Shares.{at_points}
use Rattle.placement.specs.Passes.{label}
use Rattle.placement.proofs.TurnLaws.{Trying}
use Rattle.placement.proofs.walk.insert.Given as goal

abbrev pub invariant-loop-tries : goal.invariant-loop-tries
invariant-loop-tries l =
    Trying (at_points (bucket_in l.functions) l.points) l.functions.buckets (length l.points) l.initial.work l.p l.evictions l.work (label l.hand.point) l._tries l.hand.evictions
