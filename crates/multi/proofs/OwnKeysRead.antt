-- The tree hash keeps to words of 128 bits and a bucket is below their number, so what holds of any such functions holds of the
-- library's own. Assumes nothing.
use Rattle.cipher.specs.TreeHash.{tree_hash}
use Rattle.cipher.proofs.HashesFit.{hashes_fit}
use Rattle.bucket_hash.specs.BucketHash.{bucket_of}
use Rattle.bucket_hash.proofs.BucketsBelow.{buckets-below}
use Rattle.multi.specs.Promises.{OwnKeysRead}
use Rattle.multi.proofs.MadeKeysRead.{made_keys_read}

pub own_keys_read : OwnKeysRead
own_keys_read = made_keys_read tree_hash hashes_fit.tree bucket_of buckets-below.keyed
