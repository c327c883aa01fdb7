-- What is left, turned into the fold so far, gives the whole fold. Assumes nothing.
use Rattle.std.proofs.Common.{sym, ◌∙◌}
use Rattle.tools.proofs.ToolLaws.{fold_next, fold_end}
use Rattle.tools.proofs.fold.Goals as goal

pub loop-x-preserved : goal.loop-x-preserved
loop-x-preserved g c =
    let l = c.loop-x in
    let here = fold_next g.T.Number.value l.f c.args.items.now l.x-index c.x-item.result c.loop-x-test.true in
    cc (here, l.invariant)

pub returns : goal.returns
returns g c = sym (fold_end g.T.Number.value _ _ _ c.loop-x-test.false) ∙ c.loop-x.invariant
