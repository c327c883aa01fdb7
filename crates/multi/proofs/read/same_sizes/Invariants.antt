-- `multi::read::same_sizes` meets its contract. The invariant: the sizes before c agree. Assumes nothing.
use mathlib.Core.Path.{◌≡◌}
use mathlib.Core.Bool.{true}
use lib.ListN.{get_or}
use Rattle.multi.specs.Image.{bucket_size}
use Rattle.multi.specs.Calls.{alike}
use Rattle.multi.proofs.read.same_sizes.Given as goal

abbrev pub invariant-loop-c : goal.invariant-loop-c
invariant-loop-c l = alike (bucket_size l.image.bytes.now) (λ i. get_or l.sizes i 0) l.c ≡ true
