-- `multi::calls::evaluate_domain` meets its contract: what is refused early changes nothing; else all cells are swept.
-- Assumes nothing.
use mathlib.Core.Path.{sym}
use lib.ListN.{length}
use Rattle.words.specs.Bytes.{put}
use Rattle.words.specs.Cells.{tab}
use Rattle.cipher.specs.TreeHash.{tree_hash}
use Rattle.bucket_hash.specs.BucketHash.{bucket_of}
use Rattle.single.specs.Calls.{swept}
use Rattle.multi.specs.Image.{domain_in}
use Rattle.multi.specs.Calls.{share_in, evaluate_domain_early, evaluate_domain_number, evaluate_domain}
use Rattle.multi.specs.Reading.{cells_filled}
use Rattle.multi.proofs.CallLaws.{image_passed}
use Rattle.multi.proofs.SweepLaws.{evaluate_sweepable}
use Rattle.multi.proofs.calls.evaluate_domain.Goals as goal

pub sweep-requires : goal.sweep-requires
sweep-requires c = rw c.in_ok-image.ensures.image (evaluate_sweepable _ _ _ (sym c.in_ok-image.ensures.answer))

pub returns : goal.returns
unfolding evaluate_domain evaluate_domain_number share_in cells_filled
returns c =
    let same = c.in_ok-image.ensures.image in
    image_passed swept bucket_of c.args.key.now (evaluate_domain_early c.args.key.now (length c.args.scratch.now) (length c.args.out.now)) _ _
    (put c.args.out.now 0 (tab (share_in tree_hash bucket_of c.args.key.now) (domain_in c.args.key.now))) _ tt (sym c.in_ok-image.ensures.answer) _ _ _
    (rw same at c.sweep.ensures.answer, (rw same at c.sweep.ensures.scratch, rw same at c.sweep.ensures.cells))
