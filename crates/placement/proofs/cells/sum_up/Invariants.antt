-- `placement::cells::sum_up` meets its contract. The invariant: the sums before the counters passed are in front, and `sum`
-- is the next one. Assumes nothing.
use mathlib.Core.Path.{◌≡◌}
use Rattle.words.specs.Bytes.{put}
use Rattle.words.specs.Cells.{tab}
use Rattle.placement.specs.Passes.{sum_before}
use Rattle.placement.proofs.cells.sum_up.Given as goal

abbrev pub invariant-loop-c : goal.invariant-loop-c
invariant-loop-c l =
    (l.work ≡ put l.initial.work 0 (tab (sum_before l.buckets l.initial.work) l.c)) × (l.sum ≡ sum_before l.buckets l.initial.work l.c)
