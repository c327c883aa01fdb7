-- `multi::calls::add_to` meets its contract: what is refused early changes nothing; else all cells are swept.
-- Assumes nothing.
use mathlib.Core.Path.{sym}
use lib.ListN.{length}
use Rattle.words.specs.Cells.{added}
use Rattle.cipher.specs.TreeHash.{tree_hash}
use Rattle.bucket_hash.specs.BucketHash.{bucket_of}
use Rattle.single.specs.Calls.{swept}
use Rattle.multi.specs.Calls.{share_in, add_to_early, add_to_number, add_to}
use Rattle.multi.specs.Reading.{cells_filled}
use Rattle.multi.proofs.CallLaws.{image_passed}
use Rattle.multi.proofs.SweepLaws.{add_sweepable}
use Rattle.multi.proofs.calls.add_to.Goals as goal

pub sweep-requires : goal.sweep-requires
sweep-requires c = rw c.in_ok-image.ensures.image (add_sweepable _ _ _ (sym c.in_ok-image.ensures.answer))

pub returns : goal.returns
unfolding add_to add_to_number share_in cells_filled
returns c =
    let same = c.in_ok-image.ensures.image in
    image_passed swept bucket_of c.args.key.now (add_to_early c.args.key.now (length c.args.table.now) (length c.args.scratch.now)) _ _
    (added 64 (share_in tree_hash bucket_of c.args.key.now) c.args.table.now) _ tt (sym c.in_ok-image.ensures.answer) _ _ _
    (rw same at c.sweep.ensures.answer, (rw same at c.sweep.ensures.scratch, rw same at c.sweep.ensures.cells))
