-- `multi::read::fill_cells` meets its contract: a mismatch leaves the cells as they were; else what is gathered of each cell is
-- its share. Assumes nothing.
use mathlib.Core.Path.{refl, ◌∙◌}
use Rattle.cipher.specs.TreeHash.{tree_hash}
use Rattle.placement.proofs.LimitLaws.{handed_on}
use Rattle.multi.proofs.ReadLaws.{functions-below}
use Rattle.multi.proofs.SweepLaws.{fill_none, fill_done}
use Rattle.multi.proofs.ToldLaws.{refuses}
use Rattle.multi.proofs.read.fill_cells.Goals as goal

pub returns-in_err-lay_shares : goal.returns-in_err-lay_shares
returns-in_err-lay_shares g c =
    let left = c.in_err-lay_shares.ensures in
    let fills = fill_none _ tree_hash _ _ _ _ c.requires _ _ left.answer left.shares
    (refuses c.in_err-lay_shares.field-0.0) in
    rw (handed_on _ c.from_residual.ensures.1) (record { answer = fills.answer; behind = fills.behind; cells = fills.cells })

pub returns : goal.returns
returns g c =
    let left = c.in_ok-lay_shares.ensures in
    let low = functions-below c.args.hashes c.args.image.now.bytes.now c.args.image.now.ok in
    let fills = fill_done _ tree_hash _ _ _ _ c.requires _ _ left.answer left.shares low refl _ _ c.gather.ensures.sums in
    record { answer = c.gather.ensures.answer ∙ fills.answer; behind = fills.behind; cells = fills.cells }
