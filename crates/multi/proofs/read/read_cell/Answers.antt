-- `multi::read::read_cell` meets its contract: the sizes that were counted are in scratch; where they are the image's, the
-- cell's three records are there. Assumes nothing.
use mathlib.Core.Path.{sym, ap, ◌∙◌}
use native.Mathlib.Omega.{arith}
use Rattle.cipher.specs.TreeHash.{tree_hash}
use Rattle.bucket_hash.specs.BucketHash.{bucket_by}
use Rattle.placement.specs.Answers.{Spots}
use Rattle.multi.specs.Image.{domain_in, bucket_record}
use Rattle.multi.specs.Calls.{side_in}
use Rattle.multi.proofs.ImageLaws.{well_formed}
use Rattle.multi.proofs.ReadLaws.{functions-below}
use Rattle.multi.proofs.CellReads.{cell_spots, cell-compared, with_sizes-long, spots_here, cell_at, found-mismatch, found-share}
use Rattle.multi.proofs.ToldLaws.{refuses}
use Rattle.multi.proofs.read.read_cell.Goals as goal

pub returns-in_err-spots : goal.returns-in_err-spots
returns-in_err-spots c =
    let key = c.args.image.now in
    let finds = cell_spots (bucket_by c.args.hashes) key.bytes.now key.ok _ _ c.args.index c.args.scratch.now _ _ c.domain.ensures
    c.buckets-b.ensures c.requires.0 c.requires.1 c.in_err-spots.ensures in
    absurd (refuses c.in_err-spots.field-0.0 (ap (λ (r : Spots). r.number) finds.0))

pub same_sizes-requires : goal.same_sizes-requires
same_sizes-requires c =
    let key = c.args.image.now in
    let b = c.buckets-b.ensures in
    let finds = cell_spots (bucket_by c.args.hashes) key.bytes.now key.ok _ _ c.args.index c.args.scratch.now _ _ c.domain.ensures b
    c.requires.0 c.requires.1 c.in_ok-spots.ensures in
    omega (arith, with_sizes-long _ key.bytes.now _ _ _ b finds.1, b, (well_formed _ key.ok).few_buckets)

pub returns-then-not-same_sizes : goal.returns-then-not-same_sizes
returns-then-not-same_sizes c =
    let key = c.args.image.now in
    let b = c.buckets-b.ensures in
    let finds = cell_spots (bucket_by c.args.hashes) key.bytes.now key.ok _ _ c.args.index c.args.scratch.now _ _ c.domain.ensures b
    c.requires.0 c.requires.1 c.in_ok-spots.ensures in
    let other = sym (cell-compared _ key.bytes.now _ _ _ _ b finds.1 c.same_sizes.ensures) ∙ c.if-not-same_sizes.true in
    record { answer = found-mismatch tree_hash _ _ c.args.index other; sizes = finds.1 }

pub cell_share-requires : goal.cell_share-requires
cell_share-requires c =
    let key = c.args.image.now in
    let b = c.buckets-b.ensures in
    let finds = cell_spots (bucket_by c.args.hashes) key.bytes.now key.ok _ _ c.args.index c.args.scratch.now _ _ c.domain.ensures b
    c.requires.0 c.requires.1 c.in_ok-spots.ensures in
    let matching = sym (cell-compared _ key.bytes.now _ _ _ _ b finds.1 c.same_sizes.ensures) ∙ c.if-not-same_sizes.false in
    spots_here _ key.ok _ (functions-below c.args.hashes key.bytes.now key.ok) matching c.args.index c.requires.0 _ finds.0

pub returns : goal.returns
returns c =
    let key = c.args.image.now in
    let l = key.bytes.now in
    let x = c.args.index in
    let b = c.buckets-b.ensures in
    let finds = cell_spots (bucket_by c.args.hashes) l key.ok _ _ x c.args.scratch.now _ _ c.domain.ensures b
    c.requires.0 c.requires.1 c.in_ok-spots.ensures in
    let matching = sym (cell-compared _ l _ _ _ _ b finds.1 c.same_sizes.ensures) ∙ c.if-not-same_sizes.false in
    let share = cell_at tree_hash (side_in l) (bucket_record l) _ (domain_in l) x _ finds.0 in
    record { answer = found-share tree_hash _ _ x _ matching (c.cell_share.ensures ∙ share); sizes = finds.1 }

pub slice_bounds-same_sizes-end-2 : goal.slice_bounds-same_sizes-end-2
slice_bounds-same_sizes-end-2 c =
    let key = c.args.image.now in
    let b = c.buckets-b.ensures in
    let finds = cell_spots (bucket_by c.args.hashes) key.bytes.now key.ok _ _ c.args.index c.args.scratch.now _ _ c.domain.ensures b
    c.requires.0 c.requires.1 c.in_ok-spots.ensures in
    sym (with_sizes-long _ key.bytes.now _ _ _ b finds.1)
