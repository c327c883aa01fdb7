-- `placement::points::rising` meets its contract. The invariant: what is left of the list, from the next lowest point on,
-- rises as the whole does. Assumes nothing.
use mathlib.Core.Path.{sym, ◌∙◌}
use Rattle.placement.proofs.PointLaws.{rising-low, rising-high, rising_next, rising_end}
use Rattle.placement.proofs.points.rising.Goals.{then-p-low-via-then-p-low, then-p-low-via-else-p-low+then-p-domain}
use Rattle.placement.proofs.points.rising.Goals as goal

pub returns-then-p-low : goal.returns-then-p-low
returns-then-p-low c =
    elim c.then-p-low.branch [
      | then-p-low-via-then-p-low w ↦ sym (rising-low _ _ _ _ c.loop-p-test.true w.if-p-low.true) ∙ c.loop-p.invariant
      | then-p-low-via-else-p-low+then-p-domain w ↦ sym (rising-high _ _ _ _ c.loop-p-test.true w.if-p-low.false w.if-p-domain.true) ∙ c.loop-p.invariant
    ]

pub loop-p-preserved : goal.loop-p-preserved
loop-p-preserved c =
    sym (rising_next _ _ _ _ c.loop-p-test.true c.if-p-low.false c.if-p-domain.false) ∙ c.loop-p.invariant

pub returns : goal.returns
returns c = sym (rising_end _ _ _ _ c.loop-p-test.false) ∙ c.loop-p.invariant
