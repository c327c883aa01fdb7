-- `multi::calls::evaluate_at` meets its contract: what is refused early leaves scratch; else the cell is read, and scratch is
-- zeroed. Assumes nothing.
use mathlib.Core.Path.{sym, ap, ◌∙◌}
use Prim.Native.Nat.{ℕ}
use Rattle.words.specs.Cells.{zeroed}
use Rattle.cipher.specs.TreeHash.{tree_hash}
use Rattle.bucket_hash.specs.BucketHash.{bucket_of}
use Rattle.multi.specs.Image.{buckets_in}
use Rattle.multi.proofs.CellReads.{readable, cell_passed}
use Rattle.multi.proofs.calls.evaluate_at.Goals as goal

pub read_cell-answer-requires : goal.read_cell-answer-requires
read_cell-answer-requires c =
    let clear = readable _ _ _ (sym c.in_ok-image.ensures.answer) in
    rw c.in_ok-image.ensures.image (clear.inside, clear.room)

pub returns : goal.returns
returns c =
    let same = c.in_ok-image.ensures.image in
    let l = c.args.key.now in
    let own = rw same at c.hashes.ensures in
    let read = c.read_cell-answer in
    cell_passed tree_hash bucket_of l _ _ _ _ _ own (sym c.in_ok-image.ensures.answer) (rw same at read.ensures.answer)
    (c.zero_first.ensures
    ∙ ap (λ (n : ℕ). zeroed n read.new.scratch) (rw same at c.buckets.ensures)
    ∙ ap (zeroed (buckets_in l)) (rw same at read.ensures.sizes))
