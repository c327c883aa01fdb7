-- The bucket functions that a call hands to its inner functions.
--     bucket_in f k x    the bucket of item x by function k, among the buckets of the functions f
--     Made f hs d b      the functions f are made of those ciphers, cells and buckets
-- Assumes nothing.
use Rattle.std.specs.Prelude.{ℕ, ◌≡◌}
use Rattle.bucket_hash.specs.declared.Hashes.{Hashes}
use Rattle.bucket_hash.specs.BucketHash.{bucket_by}
use Rattle.placement.specs.declared.Functions.{Functions}

abbrev pub bucket_in : Functions → ℕ → ℕ → ℕ
bucket_in f = bucket_by f.hashes f.buckets

pub record Made (f : Functions) (hs : Hashes) (d b : ℕ) : Type 0 where
  pub hashes : bucket_in f ≡ bucket_by hs b
  pub domain : f.domain ≡ d
  pub buckets : f.buckets ≡ b
