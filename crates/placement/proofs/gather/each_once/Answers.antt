-- `placement::gather::each_once` meets its contract: a sum modulo 2 ^ 64 of a sum modulo 2 ^ 64. Assumes nothing.
use native.Mathlib.Nat.{add-mod-mod}
use Rattle.words.specs.Ring.{add}
use Rattle.placement.specs.Shares.{each_once}
use Rattle.placement.proofs.gather.each_once.Goals as goal

pub returns : goal.returns
unfolding each_once add
returns c =
    rw (
      c.plus-2.ensures,
      c.plus.ensures,
      c.unless_counted-third.ensures,
      c.unless_counted.ensures,
      c.unless_counted-second.ensures,
      add-mod-mod,
    )
