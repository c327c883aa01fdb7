-- The tree hash keeps to words of 128 bits and a bucket is below their number, so demand 3 holds of the library's own
-- functions.
-- Assumes nothing.
use Rattle.cipher.specs.TreeHash.{tree_hash}
use Rattle.cipher.proofs.HashesFit.{hashes_fit}
use Rattle.bucket_hash.specs.BucketHash.{bucket_of}
use Rattle.bucket_hash.proofs.BucketsBelow.{buckets-below}
use Rattle.multi.specs.Demand.{OwnPairsAddUp}
use Rattle.multi.proofs.PairsAddUp.{pairs_add_up}

pub own_pairs_add_up : OwnPairsAddUp
own_pairs_add_up = pairs_add_up tree_hash hashes_fit.tree bucket_of buckets-below.keyed
