-- `multi::read::AddedGather::gather` meets its contract: placement's pass refuses nothing. Assumes nothing.
use Rattle.bucket_hash.specs.BucketHash.{bucket_by}
use Rattle.multi.proofs.SweepLaws.{cells-added}
use Rattle.multi.proofs.read.AddedGather.gather.Goals as goal

pub returns : goal.returns
returns c =
    let done = cells-added (bucket_by c.args.hashes) _ _ _ _ _ _ c.domain.ensures c.buckets.ensures _ _ c.requires c.gather_into.ensures in
    record { answer = done.0; sums = done.1 }
