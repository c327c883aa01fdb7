-- `placement::cells::spots` meets its contract: the cells are counted up to the one that is asked, the three counters are
-- read, and the rest of the cells is counted. Assumes nothing.
use mathlib.Core.Path.{sym, ap, ap₂, ◌∙◌}
use Prim.Native.Nat.{ℕ, ◌<◌}
use native.Mathlib.Omega.{arith}
use borrow.Author.Tests.{le-leb, lt-leb}
use Rattle.words.specs.declared.refusals.Refusal.TheVariants as refusal
use Rattle.words.proofs.TestLaws.{succeeded}
use Rattle.bucket_hash.specs.BucketHash.{bucket_by}
use Rattle.bucket_hash.proofs.BucketsBelow.{bucket_by_lt}
use Rattle.placement.specs.Passes.{counters_of}
use Rattle.placement.specs.Calls.{no_spots, spotted, spotting}
use Rattle.placement.proofs.LimitLaws.{handed_on, refused_as}
use Rattle.placement.proofs.PassLaws.{pass_stays, own_holds, own_passes, counters_fit, counters_zero, upto_counted, upto_fit, spots_read, spots_filled}
use Rattle.placement.proofs.cells.spots.Goals as goal

pub returns-in_err-functions : goal.returns-in_err-functions
unfolding spotting
returns-in_err-functions c =
    rw (handed_on _ c.from_residual.ensures.1)
    (refused_as _ _ (λ n. spotted (no_spots n) c.args.work.now) _ (pass_stays _ _ _ _ _ (omega arith) _ _ c.in_err-functions.ensures.told))

pub returns-then-domain-index : goal.returns-then-domain-index
unfolding spotting
returns-then-domain-index c =
    refused_as _ _ (λ n. spotted (no_spots n) c.args.work.now) refusal.Index
    (own_holds _ _ _ _ _ (omega arith) c.in_ok-functions.ensures.told _ _ (le-leb _ _ c.if-domain-index.true))

pub count-requires : goal.count-requires
count-requires c =
    let f = c.in_ok-functions.ensures.passes in
    let inside = c.if-domain-index.false in
    let zero = rw f.0.buckets at c.zero_first.ensures in
    let h : ℕ → ℕ → ℕ = bucket_by c.args.hashes c.args.buckets in
    let d : ℕ = c.args.domain in
    rw (f.0.hashes, f.0.buckets) (
      omega arith,
      omega (arith, inside, c.in_ok-functions.functions.small, f.0.domain),
      counters_fit h d _ _ _ (omega arith) zero,
      counters_zero h d _ _ _ (omega arith) zero,
    )

pub counters-found-requires : goal.counters-found-requires
counters-found-requires c =
    let f = c.in_ok-functions.ensures.passes in
    let low = λ (k x : ℕ) (l : k < 3). bucket_by_lt c.args.hashes c.args.buckets k x (omega (arith, c.in_ok-functions.functions.some, f.0.buckets)) in
    let fit = upto_fit _ c.args.domain _ low _ c.if-domain-index.false _ _ _ (omega arith) (rw f.0.buckets at c.zero_first.ensures) (rw (f.0.hashes, f.0.buckets) at c.count.ensures) in
    let t = rw f.0.buckets at c.three.ensures.within in
    (omega (arith, fit, t.0), omega (arith, fit, t.1), omega (arith, fit, t.2))

pub count-requires-2 : goal.count-requires-2
count-requires-2 c =
    let f = c.in_ok-functions.ensures.passes in
    let inside = c.if-domain-index.false in
    let low = λ (k x : ℕ) (l : k < 3). bucket_by_lt c.args.hashes c.args.buckets k x (omega (arith, c.in_ok-functions.functions.some, f.0.buckets)) in
    let zero = rw f.0.buckets at c.zero_first.ensures in
    let upto = rw (f.0.hashes, f.0.buckets) at c.count.ensures in
    let d : ℕ = c.args.domain in
    rw (f.0.hashes, f.0.buckets) (
      omega (arith, inside),
      omega (arith, c.in_ok-functions.functions.small, f.0.domain),
      upto_fit _ d _ low _ inside _ _ _ (omega arith) zero upto,
      upto_counted _ d _ low _ inside _ _ _ (omega arith) zero upto,
    )

pub returns : goal.returns
unfolding spotting
returns c =
    let f = c.in_ok-functions.ensures.passes in
    let inside = c.if-domain-index.false in
    let low = λ (k x : ℕ) (l : k < 3). bucket_by_lt c.args.hashes c.args.buckets k x (omega (arith, c.in_ok-functions.functions.some, f.0.buckets)) in
    let zero = rw f.0.buckets at c.zero_first.ensures in
    let upto = rw (f.0.hashes, f.0.buckets) at c.count.ensures in
    ap₂ spotted
    (c.counters-found.ensures ∙ ap (counters_of c.count.new.work)
    (rw f.0.hashes at c.three.ensures.buckets) ∙ spots_read _ _ _ low _ inside _ _ _ (omega arith) zero upto)
    (spots_filled _ _ _ low _ inside _ _ _ (omega arith) zero upto _ (rw (f.0.hashes, f.0.buckets) at c.count-2.ensures))
    ∙ sym (succeeded _ _ _ (own_passes _ _ _ _ _ (omega arith) c.in_ok-functions.ensures.told _ _ (lt-leb _ _ c.if-domain-index.false)))
