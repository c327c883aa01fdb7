-- `placement::gather::gather` meets its contract: the counters are cleared, and the sums written. Assumes nothing.
use mathlib.Core.Path.{sym, ap₂, ◌∙◌}
use native.Mathlib.Omega.{arith}
use borrow.Author.Tests.{lt-ltb, le-ltb}
use Rattle.words.specs.declared.refusals.Refusal.TheVariants as refusal
use Rattle.words.proofs.TestLaws.{succeeded}
use Rattle.placement.specs.Calls.{gathering, gathering_out}
use Rattle.placement.proofs.LimitLaws.{handed_on, refused_as}
use Rattle.placement.proofs.PassLaws.{pass_stays, own_holds, own_passes}
use Rattle.placement.proofs.GatherLaws.{laid-written}
use Rattle.placement.proofs.gather.gather.Goals as goal

pub returns-in_err-functions : goal.returns-in_err-functions
unfolding gathering_out
returns-in_err-functions c =
    rw (handed_on _ c.from_residual.ensures.1)
    (refused_as _ _ (λ n. gathering n c.args.work.now c.args.out.now) _ (pass_stays _ _ _ _ _ (omega arith) _ _ c.in_err-functions.ensures.told))

pub returns-then-out-domain : goal.returns-then-out-domain
unfolding gathering_out
returns-then-out-domain c =
    refused_as _ _ (λ n. gathering n c.args.work.now c.args.out.now) refusal.Room
    (own_holds _ _ _ _ _ (omega arith) c.in_ok-functions.ensures.told _ _ (lt-ltb _ _ c.if-out-domain.true))

pub lay_sums-requires : goal.lay_sums-requires
lay_sums-requires c =
    let m = c.in_ok-functions.ensures.passes.0 in
    (omega (arith, m.buckets, c.in_ok-functions.ensures.passes.1), omega (arith, m.domain, c.if-out-domain.false))

pub returns : goal.returns
unfolding gathering_out
returns c =
    let m = c.in_ok-functions.ensures.passes.0 in
    let counters = rw (m.hashes, m.buckets, m.domain) at c.lay_sums.ensures.counters in
    let sums = rw (m.hashes, m.buckets, m.domain) at c.lay_sums.ensures.sums in
    ap₂ (gathering 0) counters (sums ∙ laid-written _ _ _)
    ∙ sym (succeeded _ _ _ (own_passes _ _ _ _ _ (omega arith) c.in_ok-functions.ensures.told _ _ (le-ltb _ _ c.if-out-domain.false)))
