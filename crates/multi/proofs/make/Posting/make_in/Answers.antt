-- `multi::make::Posting::make_in` meets its contract: laying out gives up, or the images are written from what it laid out.
-- Assumes nothing.
use mathlib.Core.Path.{◌≡◌, refl, ap, ◌∙◌}
use mathlib.Core.List.{List, []}
use Prim.Native.Nat.{ℕ, ◌<◌, ◌≤◌}
use native.Mathlib.Omega.{arith}
use lib.ListN.{length}
use Rattle.cipher.specs.TreeHash.{tree_hash}
use Rattle.bucket_hash.specs.declared.Hashes.{Hashes}
use Rattle.bucket_hash.specs.BucketHash.{bucket_of, bucket_by, hashes_of}
use Rattle.bucket_hash.proofs.HashesKeyed.{hashes_keyed}
use Rattle.bucket_hash.proofs.BucketsBelow.{bucket_of_lt}
use Rattle.placement.specs.Answers.{Placed}
use Rattle.placement.specs.Calls.{placed, laying_out}
use Rattle.placement.proofs.LimitLaws.{handed_on}
use Rattle.multi.specs.declared.make.Posting.{Posting}
use Rattle.multi.specs.Calls.{generate_room, functions}
use Rattle.multi.specs.Posted.{given_by}
use Rattle.multi.proofs.GivenLaws.{Early, early_long}
use Rattle.multi.proofs.GenerateLaws.{lay_gave_up, lay_small, lay_inside, lay_given}
use Rattle.multi.proofs.ToldLaws.{refuses}
use Rattle.multi.proofs.make.Posting.make_in.Goals as goal

-- what was laid out by the ciphers of the hash keys
module _ (p : Posting) (l : List ℕ) (room : generate_room (given_by p) ≤ length l) (t : Hashes) (own : t ≡ hashes_of p.keys)
    (r : Placed) (m : List ℕ) (e : placed r m ≡ laying_out (bucket_by t p.buckets) p.domain p.buckets p.points.now l) where
  facts : Early (given_by p) (length l)
  facts = early_long (given_by p) _ _ p.passes room

  laid : placed r m ≡ laying_out (functions bucket_of (given_by p)) p.domain p.buckets p.points.now l
  laid =
      e ∙ ap (λ (f : ℕ → ℕ → ℕ → ℕ). laying_out (f p.buckets) p.domain p.buckets p.points.now l)
      (ap bucket_by own ∙ hashes_keyed p.keys)

  low : (k x : ℕ) → k < 3 → functions bucket_of (given_by p) k x < p.buckets
  low k x below = bucket_of_lt p.keys p.buckets k x facts.some_buckets

pub returns-in_err-evictions : goal.returns-in_err-evictions
returns-in_err-evictions c =
    let p = c.args.self.now in
    let l = c.args.scratch.now in
    let own = c.new-hashes.ensures in
    let e = c.in_err-evictions.ensures in
    rw (handed_on _ c.from_residual.ensures.1)
    (lay_gave_up tree_hash bucket_of (given_by p) l (facts p l c.requires _ own _ _ e) _ _ (laid p l c.requires _ own _ _ e)
    c.args.key0.now c.args.key1.now (refuses c.in_err-evictions.field-0.0))

pub laid-requires : goal.laid-requires
laid-requires c =
    let p = c.args.self.now in
    let l = c.args.scratch.now in
    let own = c.new-hashes.ensures in
    let e = c.in_ok-evictions.ensures in
    let f = facts p l c.requires _ own _ _ e in
    let was = laid p l c.requires _ own _ _ e in
    record {
      long = omega (arith, f.room, c.lay_out.auto.scratch);
      small = lay_small tree_hash bucket_of (given_by p) l f _ c.lay_out.new.scratch was [] [] (low p l c.requires _ own _ _ e) refl;
      inside = lay_inside tree_hash bucket_of (given_by p) l f _ c.lay_out.new.scratch was [] [] (low p l c.requires _ own _ _ e) refl;
    }

pub returns : goal.returns
returns c =
    let p = c.args.self.now in
    let l = c.args.scratch.now in
    let own = c.new-hashes.ensures in
    let e = c.in_ok-evictions.ensures in
    let f = facts p l c.requires _ own _ _ e in
    let was = laid p l c.requires _ own _ _ e in
    let cut = c.laid.ensures in
    let written = rw (cut.posting, cut.holders, cut.sizes, cut.spots, cut.evictions) at c.write.ensures in
    written ∙ lay_given tree_hash bucket_of (given_by p) l f _ c.lay_out.new.scratch was _ _ (low p l c.requires _ own _ _ e) refl
