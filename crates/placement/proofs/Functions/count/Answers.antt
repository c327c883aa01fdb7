-- `placement::Functions::count` meets its contract. The invariant: the cells below x are counted, and what is no counter is as it
-- was. Assumes nothing.
use mathlib.Core.Path.{ap, ◌∙◌}
use native.Mathlib.Omega.{arith}
use Rattle.placement.specs.Passes.{entered}
use Rattle.placement.proofs.FunctionLaws.{bucket_in_lt}
use Rattle.placement.proofs.CountLaws.{passing_start, passing_next, passing_done}
use Rattle.placement.proofs.Functions.count.Goals as goal

pub loop-x-init : goal.loop-x-init
loop-x-init c = passing_start _ _ _ _ _ c.requires.3

pub loop-x-preserved : goal.loop-x-preserved
loop-x-preserved c =
    let low = bucket_in_lt c.args.self.now in
    let l = c.loop-x in
    passing_next _ _ low _ _ c.requires.2 l.x l.work _ l.invariant (c.enter.ensures ∙ ap (entered _ _) c.three.ensures.buckets)

pub returns : goal.returns
returns c =
    let low = bucket_in_lt c.args.self.now in
    passing_done _ _ low _ _ c.requires.2 _ _ _ (omega arith) c.loop-x.invariant
