-- The bucket that a function leads to is one of the buckets. Assumes nothing.
use Prim.Native.Nat.{ℕ, ◌<◌}
use Rattle.bucket_hash.proofs.BucketsBelow.{bucket_by_lt}
use Rattle.placement.specs.declared.Functions.{Functions}
use Rattle.placement.specs.Functions.{bucket_in}

pub bucket_in_lt : (f : Functions) (k x : ℕ) → k < 3 → bucket_in f k x < f.buckets
bucket_in_lt f k x l = bucket_by_lt f.hashes f.buckets k x f.some
