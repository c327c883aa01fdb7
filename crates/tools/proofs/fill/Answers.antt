-- The elements so far are drawn, and x stands before the next. Assumes nothing.
use Rattle.std.proofs.Common.{◌≡◌, length, refl, sym, ◌∙◌, arith}
use Rattle.words.specs.Cells.{tab}
use Rattle.words.proofs.ByteLaws.{put_nil, put_whole}
use Rattle.words.proofs.CellLaws.{put-tab, length-tab}
use Rattle.tools.specs.Tools.{later}
use Rattle.tools.proofs.ToolLaws.{drawn_next, drawn-later}
use Rattle.tools.proofs.fill.Goals as goal

pub loop-word-init : goal.loop-word-init
unfolding tab later
loop-word-init c = (sym (put_nil _ _), rw (c.behind-x.ensures, c.behind.ensures) refl)

pub loop-word-preserved : goal.loop-word-preserved
loop-word-preserved c =
    let l = c.loop-word in
    let x = drawn_next _ l.word-index l.invariant.1 c.behind-x-in-loop-word.ensures in
    (put-tab _ _ l.word-index _ l.invariant.0 x (omega arith), x ∙ drawn-later _ l.word-index)

pub returns : goal.returns
returns c =
    let l = c.loop-word in
    let words = c.args.words.now in
    let done : l.word-index ≡ length words = omega arith in
    (rw done at l.invariant.0) ∙ put_whole words _ (length-tab _ _)
