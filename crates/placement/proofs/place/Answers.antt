-- `placement::place` meets its contract: the tests refuse, or the points are placed with nothing behind. Assumes nothing.
use mathlib.Core.Path.{sym, ◌∙◌}
use native.Mathlib.Omega.{arith}
use Rattle.words.proofs.RefusalsTold.{refusals_told}
use Rattle.placement.proofs.LimitLaws.{handed_on}
use Rattle.placement.proofs.CallLaws.{over_none, placed-refused, over_tested}
use Rattle.placement.proofs.place.Goals as goal

pub returns-in_err-functions : goal.returns-in_err-functions
returns-in_err-functions c =
    rw (handed_on _ c.from_residual.ensures.1)
    (placed-refused _ _ _ _ _ _ _ _ (over_tested _ _ _ _ c.in_err-functions.ensures.told (omega arith))
    (λ z. absurd (omega (arith, refusals_told.some c.in_err-functions.field-0.0))))

pub place-requires : goal.place-requires
place-requires c =
    let f = c.in_ok-functions.ensures in
    let m = f.places.0 in
    rw (m.domain, m.buckets) (omega arith, f.places.1, f.places.2, sym f.told)

pub returns : goal.returns
returns c =
    let m = c.in_ok-functions.ensures.places.0 in
    (rw (m.hashes, m.domain, m.buckets) at c.place.ensures) ∙ over_none _ _ _ _ _ _ (omega arith)
