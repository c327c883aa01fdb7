-- `multi::read::expand` meets its contract. The invariant is `Expanding`: the parts of the buckets before c are in their
-- places. Assumes nothing.
use Rattle.cipher.specs.TreeHash.{hash_by}
use Rattle.multi.specs.Calls.{side_in}
use Rattle.multi.proofs.ExpandLaws.{Expanding}
use Rattle.multi.proofs.read.expand.Given as goal

abbrev pub invariant-loop-c : goal.invariant-loop-c
invariant-loop-c l = Expanding (hash_by l.h) (side_in l.image.bytes.now) l.image.bytes.now l.initial.work l.c l.work
