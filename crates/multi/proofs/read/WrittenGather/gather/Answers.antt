-- `multi::read::WrittenGather::gather` meets its contract: placement's pass refuses nothing. Assumes nothing.
use Rattle.bucket_hash.specs.BucketHash.{bucket_by}
use Rattle.multi.proofs.SweepLaws.{cells-written}
use Rattle.multi.proofs.read.WrittenGather.gather.Goals as goal

pub returns : goal.returns
returns c =
    let done = cells-written (bucket_by c.args.hashes) _ _ _ _ _ _ c.domain.ensures c.buckets.ensures _ _ c.requires c.gather.ensures in
    record { answer = done.0; sums = done.1 }
