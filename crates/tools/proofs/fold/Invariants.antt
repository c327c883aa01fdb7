-- What is left, turned into the fold so far, gives the whole fold. Assumes nothing.
use Rattle.std.proofs.Common.{◌≡◌, map}
use lib.ListN.{drop}
use Rattle.tools.specs.Tools.{folded}
use Rattle.tools.proofs.fold.Given as goal

abbrev pub invariant-loop-x : goal.invariant-loop-x
invariant-loop-x g l = folded l.f (map g.T.Number.value (drop l.x-index l.items)) ≡ folded 0 (map g.T.Number.value l.items)
