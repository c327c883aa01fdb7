-- `placement::walk::Hand::step` meets its contract: its stores are one step of the walk that the slice shows. Assumes nothing.
use mathlib.Core.Path.{sym, ◌∙◌}
use native.Mathlib.Omega.{arith}
use Rattle.placement.specs.Shares.{at_points}
use Rattle.placement.proofs.SliceLaws.{label-some, label-none, stepped}
use Rattle.placement.proofs.Hand.step.Goals as goal

pub returns-then-is_some : goal.returns-then-is_some
unfolding at_points
returns-then-is_some c =
    rw c.label_of.ensures
    (stepped _ _ _ _ _ _ _ _ c.requires.2 c.bucket-b.ensures.within c.bucket-b.ensures.bucket c.next_fn.ensures _ _
    c.point_of-held.ensures (omega (arith, c.point_of-held.ensures, label-some _ c.if-is_some.ensures)))

pub returns : goal.returns
unfolding at_points
returns c =
    let none = sym (label-none _ c.if-is_some.ensures) ∙ c.point_of-held.ensures in
    rw c.label_of.ensures
    (stepped _ _ _ _ _ _ _ _ c.requires.2 c.bucket-b.ensures.within c.bucket-b.ensures.bucket c.next_fn.ensures _ _
    none (omega (arith, none)))
