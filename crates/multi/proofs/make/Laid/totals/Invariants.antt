-- `multi::make::Laid::totals` meets its contract. The invariant: both sums are those of the sizes so far, and small. Assumes nothing.
use mathlib.Core.Path.{◌≡◌}
use Prim.Native.Nat.{◌+◌, ◌*◌, ◌≤◌}
use lib.ListN.{length}
use Rattle.multi.specs.Image.{record_start, lengths_by}
use Rattle.multi.specs.Making.{used_by}
use Rattle.multi.proofs.make.Laid.totals.Given as goal

abbrev pub invariant-loop-size : goal.invariant-loop-size
invariant-loop-size l = record {
  used_is : l.used ≡ used_by l.self.sizes.now l.size-index;
  bytes_are : l.bytes ≡ record_start (length l.self.sizes.now) (lengths_by l.self.sizes.now) l.size-index;
  few : l.used ≤ 2 * l.size-index;
  short : l.bytes ≤ 72 + 8 * length l.self.sizes.now + 584 * l.size-index;
}
