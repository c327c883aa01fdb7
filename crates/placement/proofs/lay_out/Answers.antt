-- `placement::lay_out` meets its contract: placing is refused, or the pass notes sizes and positions in the zeros behind what
-- was placed. Assumes nothing.
use mathlib.Core.Path.{refl, sym, ◌∙◌}
use Prim.Native.Nat.{ℕ, ◌<◌}
use native.Mathlib.Omega.{arith}
use Rattle.bucket_hash.specs.BucketHash.{bucket_by}
use Rattle.bucket_hash.proofs.BucketsBelow.{bucket_by_lt}
use Rattle.words.proofs.RefusalsTold.{refusals_told}
use Rattle.placement.proofs.LimitLaws.{handed_on}
use Rattle.placement.proofs.PointLaws.{placeable-clear}
use Rattle.placement.proofs.CallLaws.{over_two, placed_otherwise, over_tested, placed-refused, placed-clear, placed-hand, placed-scratch, placed_onward}
use Rattle.placement.proofs.LayLaws.{lay_fresh, laid}
use Rattle.placement.proofs.lay_out.Goals as goal

pub returns-in_err-functions : goal.returns-in_err-functions
returns-in_err-functions c =
    rw (handed_on _ c.from_residual.ensures.1)
    (placed-refused _ _ _ _ _ _ _ _ (over_tested _ _ _ _ c.in_err-functions.ensures.told (omega arith))
    (λ z. absurd (omega (arith, refusals_told.some c.in_err-functions.field-0.0))))

pub place-requires : goal.place-requires
place-requires c =
    let f = c.in_ok-functions.ensures in
    let m = f.places.0 in
    rw (m.domain, m.buckets) (omega arith, f.places.1, f.places.2, sym f.told)

pub returns-in_err-evictions : goal.returns-in_err-evictions
returns-in_err-evictions c =
    let m = c.in_ok-functions.ensures.places.0 in
    let answer = (rw (m.hashes, m.domain, m.buckets) at c.in_err-evictions.ensures) ∙ over_two _ _ _ _ _ _ (omega arith) in
    rw (handed_on _ c.from_residual-in_err-evictions.ensures.1)
    (placed_otherwise _ _ _ _ _ _ _ _ _ answer _ (λ z. absurd (omega (arith, refusals_told.some c.in_err-evictions.field-0.0))))

pub overflow_add-s : goal.overflow_add-s
overflow_add-s c = omega (arith, c.in_ok-functions.functions.few, c.in_ok-functions.ensures.places.0.buckets, c.in_ok-functions.ensures.places.1)

pub sizes_and_positions-requires : goal.sizes_and_positions-requires
sizes_and_positions-requires c =
    let m = c.in_ok-functions.ensures.places.0 in
    let h : ℕ → ℕ → ℕ = bucket_by c.args.hashes c.args.buckets in
    let answer = (rw (m.hashes, m.domain, m.buckets) at c.in_ok-evictions.ensures) ∙ over_two _ _ _ _ _ _ (omega arith) in
    let f = placeable-clear _ _ _ _ _ (placed-clear _ _ _ _ _ _ _ _ _ answer refl) in
    let low = λ (k x : ℕ) (l : k < 3). bucket_by_lt c.args.hashes c.args.buckets k x f.some in
    rw (m.hashes, m.domain, m.buckets)
    (lay_fresh _ _ low _ (placed-hand _ _ _ _ _ _ _ _ _ answer refl) _ _ f _ (placed-scratch _ _ _ _ _ _ _ _ _ answer refl))

pub returns : goal.returns
returns c =
    let m = c.in_ok-functions.ensures.places.0 in
    let answer = (rw (m.hashes, m.domain, m.buckets) at c.in_ok-evictions.ensures) ∙ over_two _ _ _ _ _ _ (omega arith) in
    let f = placeable-clear _ _ _ _ _ (placed-clear _ _ _ _ _ _ _ _ _ answer refl) in
    let low = λ (k x : ℕ) (l : k < 3). bucket_by_lt c.args.hashes c.args.buckets k x f.some in
    placed_onward _ _ _ _ _ _ _ _ _ answer refl _ _
    (laid _ _ low _ (placed-hand _ _ _ _ _ _ _ _ _ answer refl) _ _ f _ _ (placed-scratch _ _ _ _ _ _ _ _ _ answer refl)
    (rw (m.hashes, m.domain, m.buckets) at c.sizes_and_positions.ensures))
