-- `placement::Functions::cell_sum` meets its contract: what each bucket gives, each bucket once. Assumes nothing.
use mathlib.Core.Path.{refl}
use Rattle.placement.specs.Shares.{once3}
use Rattle.placement.proofs.Functions.cell_sum.Goals as goal

pub returns : goal.returns
unfolding once3
returns c =
    rw (c.each_once.ensures, c.entry-first.ensures, c.entry-second.ensures, c.entry-third.ensures) refl
