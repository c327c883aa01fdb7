-- `placement::cells::starts` meets its contract: the sizes are counted behind, and summed up in front. Assumes nothing.
use mathlib.Core.Path.{sym, ap, ◌∙◌}
use mathlib.Core.List.{[]}
use Prim.Native.Nat.{ℕ, ◌<◌}
use native.Mathlib.Omega.{arith}
use Rattle.words.proofs.TestLaws.{succeeded}
use Rattle.bucket_hash.proofs.BucketsBelow.{bucket_by_lt}
use Rattle.placement.specs.Calls.{counting, starting}
use Rattle.placement.proofs.LimitLaws.{handed_on, refused_as}
use Rattle.placement.proofs.PassLaws.{pass_done, pass_stays, starts_fit, starts-zero, sized_fit, sums_fit, starts_laid}
use Rattle.placement.proofs.cells.starts.Goals as goal

pub returns-in_err-functions : goal.returns-in_err-functions
unfolding starting
returns-in_err-functions c =
    rw (handed_on _ c.from_residual.ensures.1)
    (refused_as _ _ (λ n. counting n c.args.work.now) _ (pass_stays _ _ _ _ _ (omega arith) [] _ c.in_err-functions.ensures.told))

pub count-requires : goal.count-requires
count-requires c =
    let f = c.in_ok-functions.ensures.passes in
    let low = λ (k x : ℕ) (l : k < 3). bucket_by_lt c.args.hashes c.args.buckets k x (omega (arith, c.in_ok-functions.functions.some, f.0.buckets)) in
    let zero = rw f.0.buckets at c.zero_first.ensures in
    let d : ℕ = c.args.domain in
    rw (f.0.hashes, f.0.buckets) (
      omega arith,
      omega (arith, c.in_ok-functions.functions.small, f.0.domain),
      starts_fit _ d _ low _ _ (omega arith) zero,
      starts-zero _ d _ low _ _ (omega arith) zero,
    )

pub sum_up-requires : goal.sum_up-requires
sum_up-requires c =
    let f = c.in_ok-functions.ensures.passes in
    let low = λ (k x : ℕ) (l : k < 3). bucket_by_lt c.args.hashes c.args.buckets k x (omega (arith, c.in_ok-functions.functions.some, f.0.buckets)) in
    let zero = rw f.0.buckets at c.zero_first.ensures in
    let sized = rw (f.0.hashes, f.0.buckets) at c.count.ensures in
    rw f.0.buckets (
      omega (arith, c.in_ok-functions.functions.few, f.0.buckets),
      sized_fit _ _ _ low _ _ (omega arith) zero _ sized,
      sums_fit _ _ _ low _ _ (omega arith) zero _ sized (omega (arith, c.in_ok-functions.functions.small, f.0.domain)),
    )

pub returns : goal.returns
unfolding starting
returns c =
    let f = c.in_ok-functions.ensures.passes in
    let low = λ (k x : ℕ) (l : k < 3). bucket_by_lt c.args.hashes c.args.buckets k x (omega (arith, c.in_ok-functions.functions.some, f.0.buckets)) in
    ap (counting 0) (starts_laid _ _ _ low _ _ (omega arith) (rw f.0.buckets at c.zero_first.ensures) _
    (rw (f.0.hashes, f.0.buckets) at c.count.ensures) _ (rw f.0.buckets at c.sum_up.ensures))
    ∙ sym (succeeded _ _ _ (pass_done _ _ _ _ _ (omega arith) c.in_ok-functions.ensures.told))
