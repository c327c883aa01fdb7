-- `placement::held::note` meets its contract: the label says whether the bucket holds the cell. Assumes nothing.
use mathlib.Core.Path.{sym, ap, ◌∙◌}
use Prim.Native.Nat.{◌<◌}
use native.Mathlib.Numerals.{add-one}
use native.Mathlib.Omega.{arith}
use lib.ListN.{length}
use Rattle.placement.specs.Passes.{label}
use Rattle.placement.proofs.held.note.Goals as goal

pub offset_bounds-points-p : goal.offset_bounds-points-p
offset_bounds-points-p c =
    let named : c.in-Some.p < length c.args.points.now = c.requires.3.at _ _ c.requires.0 (sym c.point_of.ensures ∙ ap label c.in-Some.is ∙ add-one _) in
    omega (arith, named)

pub bounds-points-p : goal.bounds-points-p
bounds-points-p c = c.requires.3.at _ _ c.requires.0 (sym c.point_of.ensures ∙ ap label c.in-Some.is ∙ add-one _)
