-- `placement::gather::gather_into` meets its contract: the counters are cleared, and the sums added to a table that has a cell
-- for each. Assumes nothing.
use mathlib.Core.Path.{sym, ap, ap₂, ◌∙◌}
use mathlib.Core.Bool.{not}
use native.Mathlib.Omega.{arith}
use borrow.Author.Tests.{eq-eqb, ne_eqb}
use Rattle.words.specs.declared.refusals.Refusal.TheVariants as refusal
use Rattle.words.proofs.TestLaws.{succeeded}
use Rattle.placement.specs.Calls.{gathering, gathering_into}
use Rattle.placement.proofs.LimitLaws.{handed_on, refused_as}
use Rattle.placement.proofs.PassLaws.{pass_stays, own_holds, own_passes}
use Rattle.placement.proofs.GatherLaws.{laid-added}
use Rattle.placement.proofs.gather.gather_into.Goals as goal

pub returns-in_err-functions : goal.returns-in_err-functions
unfolding gathering_into
returns-in_err-functions c =
    rw (handed_on _ c.from_residual.ensures.1)
    (refused_as _ _ (λ n. gathering n c.args.work.now c.args.table.now) _ (pass_stays _ _ _ _ _ (omega arith) _ _ c.in_err-functions.ensures.told))

pub returns-then-table-domain : goal.returns-then-table-domain
unfolding gathering_into
returns-then-table-domain c =
    refused_as _ _ (λ n. gathering n c.args.work.now c.args.table.now) refusal.Table
    (own_holds _ _ _ _ _ (omega arith) c.in_ok-functions.ensures.told _ _ (ap not (ne_eqb _ _ c.if-table-domain.true)))

pub lay_sums-requires : goal.lay_sums-requires
lay_sums-requires c =
    let m = c.in_ok-functions.ensures.passes.0 in
    (omega (arith, m.buckets, c.in_ok-functions.ensures.passes.1), omega (arith, m.domain, c.if-table-domain.false))

pub returns : goal.returns
unfolding gathering_into
returns c =
    let m = c.in_ok-functions.ensures.passes.0 in
    let counters = rw (m.hashes, m.buckets, m.domain) at c.lay_sums.ensures.counters in
    let sums = rw (m.hashes, m.buckets, m.domain) at c.lay_sums.ensures.sums in
    ap₂ (gathering 0) counters (sums ∙ laid-added _ _ _ c.if-table-domain.false)
    ∙ sym (succeeded _ _ _ (own_passes _ _ _ _ _ (omega arith) c.in_ok-functions.ensures.told _ _ (ap not (eq-eqb _ _ c.if-table-domain.false))))
