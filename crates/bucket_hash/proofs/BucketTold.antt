-- What is told of a result of `bucket` is all of it: a refusal has a number, and success has none. Assumes nothing.
use Rattle.std.proofs.Common.{ap, arith, Ok, Err}
use Rattle.words.proofs.RefusalsTold.{some, numbers}
use Rattle.bucket_hash.specs.BucketHash.{Hashed}
use Rattle.bucket_hash.specs.Promises.{BucketTold}

pub bucket_told : BucketTold
bucket_told (Ok a) (Ok b) p = ap (λ (h : Hashed). Ok h.bucket) p
bucket_told (Ok a) (Err e) p = let z : ⊥ = omega (arith, some e, ap (λ (h : Hashed). h.number) p) in absurd z
bucket_told (Err d) (Ok b) p = let z : ⊥ = omega (arith, some d, ap (λ (h : Hashed). h.number) p) in absurd z
bucket_told (Err d) (Err e) p = ap Err (numbers d e (ap (λ (h : Hashed). h.number) p))
