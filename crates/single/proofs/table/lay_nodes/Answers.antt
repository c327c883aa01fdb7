-- `single::table::lay_nodes` meets its contract. The invariant: the cells below x are laid, the others as they were. Assumes
-- nothing.
use Rattle.std.proofs.Common.{◌≡◌, List, ℕ, ◌*◌, length, get_or, sym, ap, ◌∙◌, arith}
use Rattle.words.specs.Cells.{tab}
use Rattle.words.proofs.ByteLaws.{put_nil, get_or-put, put_whole}
use Rattle.words.proofs.CellLaws.{put-tab, length-tab}
use Rattle.single.specs.Nodes.{laid}
use Rattle.single.proofs.table.lay_nodes.Goals as goal

pub loop-x-init : goal.loop-x-init
unfolding tab
loop-x-init g c = sym (put_nil _ _)

pub loop-x-preserved : goal.loop-x-preserved
loop-x-preserved g c =
    let l = c.loop-x in
    let t = c.args.cells.now in
    let n = length-tab (λ i. g.L.Lay.op (get_or t i 0) (get_or c.args.nodes.now (2 * i) 0)) l.x in
    let old = ap (λ (r : List ℕ). get_or r l.x 0) l.invariant ∙ get_or-put t _ l.x (omega arith) (omega arith) in
    put-tab _ _ l.x _ l.invariant (rw (c.lay.ensures, old)) (omega arith)

pub returns : goal.returns
unfolding laid
returns g c =
    let l = c.loop-x in
    let t = c.args.cells.now in
    let e : l.x ≡ length t = omega arith in
    (rw e at l.invariant) ∙ put_whole t _ (length-tab _ _)
