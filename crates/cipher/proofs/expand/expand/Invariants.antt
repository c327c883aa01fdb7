-- `cipher::expand::expand` meets its contract: before word i the bytes below 4 i are the key and the words below i. Assumes nothing.
use mathlib.Core.Path.{◌≡◌}
use Prim.Native.Nat.{◌*◌, ◌-◌}
use lib.ListN.{length, take}
use Rattle.cipher.specs.Fips197.{expanded}
use Rattle.cipher.proofs.expand.expand.Given as goal

abbrev pub invariant-loop-i : goal.invariant-loop-i
invariant-loop-i l = (take (4 * l.i) l.w ≡ expanded l.fn.key (l.i - 4)) × (length l.w ≡ 176)
