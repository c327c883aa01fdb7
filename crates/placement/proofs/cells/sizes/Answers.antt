-- `placement::cells::sizes` meets its contract: the counters are zeroed, and every cell is counted. Assumes nothing.
use mathlib.Core.Path.{sym, ap, ◌∙◌}
use mathlib.Core.List.{[]}
use Prim.Native.Nat.{ℕ}
use native.Mathlib.Omega.{arith}
use Rattle.words.specs.Cells.{zeroed}
use Rattle.words.proofs.TestLaws.{succeeded}
use Rattle.bucket_hash.specs.BucketHash.{bucket_by}
use Rattle.placement.specs.Calls.{counting, sizing}
use Rattle.placement.proofs.LimitLaws.{handed_on, refused_as}
use Rattle.placement.proofs.PassLaws.{pass_done, pass_stays, counters_fit, counters_zero, counters_filled}
use Rattle.placement.proofs.cells.sizes.Goals as goal

pub returns-in_err-functions : goal.returns-in_err-functions
unfolding sizing
returns-in_err-functions c =
    rw (handed_on _ c.from_residual.ensures.1)
    (refused_as _ _ (λ n. counting n c.args.work.now) _ (pass_stays _ _ _ _ _ (omega arith) [] _ c.in_err-functions.ensures.told))

pub count-requires : goal.count-requires
count-requires c =
    let f = c.in_ok-functions.ensures.passes in
    let h = bucket_by c.args.hashes c.args.buckets in
    let d : ℕ = c.args.domain in
    let zero = c.zero_first.ensures ∙ ap (λ (n : ℕ). zeroed n c.args.work.now) f.0.buckets in
    rw (f.0.hashes, f.0.buckets) (
      omega arith,
      omega (arith, c.in_ok-functions.functions.small, f.0.domain),
      counters_fit h d _ _ _ (omega arith) zero,
      counters_zero h d _ _ _ (omega arith) zero,
    )

pub returns : goal.returns
unfolding sizing
returns c =
    let f = c.in_ok-functions.ensures.passes in
    ap (counting 0) (counters_filled _ _ _ _ _ (omega arith) (c.zero_first.ensures ∙ ap (λ (n : ℕ). zeroed n c.args.work.now) f.0.buckets) _
    (rw (f.0.hashes, f.0.buckets) at c.count.ensures))
    ∙ sym (succeeded _ _ _ (pass_done _ _ _ _ _ (omega arith) c.in_ok-functions.ensures.told))
