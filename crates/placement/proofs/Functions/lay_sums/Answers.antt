-- `placement::Functions::lay_sums` meets its contract. The invariant: the cells below x are counted and their sums laid, the
-- other elements are as they came. Assumes nothing.
use mathlib.Core.Path.{◌≡◌, ap, ◌∙◌}
use native.Mathlib.Omega.{arith}
use Rattle.placement.proofs.FunctionLaws.{bucket_in_lt}
use Rattle.placement.proofs.CountLaws.{passing_start, passing_next}
use Rattle.placement.proofs.GatherLaws.{gathered-at, cleared_fit, cleared_counted, counters_end, sums_laid, laid-none, laid_next}
use Rattle.placement.proofs.Functions.lay_sums.Goals as goal

pub loop-x-init : goal.loop-x-init
loop-x-init g c =
    let low = bucket_in_lt c.args.self.now in
    (passing_start _ _ _ _ _ (cleared_counted _ _ low c.args.self.now.domain _ _ c.requires.0 c.clear_counters.ensures), laid-none _ _ _)

pub next_sum-sum-requires : goal.next_sum-sum-requires
next_sum-sum-requires g c =
    let low = bucket_in_lt c.args.self.now in
    let v = c.loop-x.invariant in
    let fit = cleared_fit _ _ low c.args.self.now.domain _ _ c.requires.0 c.clear_counters.ensures in
    (omega (arith, c.loop-x-test.true, c.args.self.now.small), omega (arith, fit, v.0.long), v.0.counted)

pub loop-x-preserved : goal.loop-x-preserved
loop-x-preserved g c =
    let low = bucket_in_lt c.args.self.now in
    let below = c.loop-x-test.true in
    let v = c.loop-x.invariant in
    let sum = gathered-at _ _ low _ _ _ _ _ below v.0 c.next_sum-sum.ensures.sum in
    let fit = cleared_fit _ _ low c.args.self.now.domain _ _ c.requires.0 c.clear_counters.ensures in (
      passing_next _ _ low _ _ fit _ _ _ v.0 c.next_sum-sum.ensures.counters,
      laid_next _ _ _ _ _ _ (omega (arith, below, c.requires.1)) v.1
          (c.lay.ensures ∙ ap (g.L.Lay.op _) sum),
    )

pub returns : goal.returns
returns g c =
    let low = bucket_in_lt c.args.self.now in
    let v = c.loop-x.invariant in
    let all : c.loop-x.x ≡ c.args.self.now.domain = omega arith in
    record {
      counters = counters_end _ _ low _ _ _ c.requires.0 c.clear_counters.ensures _ _ all v.0;
      sums = sums_laid _ _ low _ _ _ c.requires.0 c.clear_counters.ensures _ _ _ _ all v.1;
    }
