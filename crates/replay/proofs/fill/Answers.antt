-- `replay::fill` meets its contract. The invariant: the elements below i are fields. Assumes nothing.
use mathlib.Core.Path.{◌≡◌, refl, sym, ◌∙◌}
use native.Mathlib.Omega.{arith}
use lib.ListN.{length, length-set}
use Rattle.words.specs.Cells.{tab}
use Rattle.words.proofs.ByteLaws.{put_nil, put_whole}
use Rattle.words.proofs.CellLaws.{put-tab, length-tab}
use Rattle.replay.proofs.fill.Goals as goal

pub loop-i-init : goal.loop-i-init
unfolding tab
loop-i-init c = (refl, sym (put_nil _ _))

pub loop-i-preserved : goal.loop-i-preserved
loop-i-preserved c =
    let l = c.loop-i in
    (simp length-set l.invariant.0, put-tab _ _ l.i _ l.invariant.1 c.field.ensures (omega arith))

pub returns : goal.returns
returns c =
    let l = c.loop-i in
    let cells = c.args.cells.now in
    let done : l.i ≡ length cells = omega arith in
    (rw done at l.invariant.1) ∙ put_whole cells _ (length-tab _ _)
