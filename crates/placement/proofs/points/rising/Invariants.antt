-- `placement::points::rising` meets its contract. The invariant: what is left of the list, from the next lowest point on,
-- rises as the whole does. Assumes nothing.
use mathlib.Core.Path.{◌≡◌}
use lib.ListN.{drop}
use Rattle.placement.specs.Shares.{rising_from}
use Rattle.placement.proofs.points.rising.Given as goal

abbrev pub invariant-loop-p : goal.invariant-loop-p
invariant-loop-p l = rising_from l.low l.domain (drop l.p-index l.points) ≡ rising_from 0 l.domain l.points
