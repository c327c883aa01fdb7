-- `morgnet::morgnet_place` meets its contract: the ciphers are those of the keys. Assumes nothing.
use mathlib.Core.Path.{◌≡◌, refl, ap, ◌∙◌}
use Prim.Native.Nat.{ℕ}
use Rattle.std.specs.Prelude.{Result, Ok, Err}
use Rattle.std.specs.Result.{result_unwrap_or}
use Rattle.words.specs.declared.refusals.Refusal.{Refusal}
use Rattle.words.specs.Refusals.{outcome}
use Rattle.bucket_hash.specs.declared.Hashes.{Hashes}
use Rattle.bucket_hash.specs.BucketHash.{bucket_by}
use Rattle.bucket_hash.proofs.HashesKeyed.{hashes_keyed}
use Rattle.placement.specs.Answers.{Placed, told_placed}
use Rattle.placement.specs.Calls.{Placing, placed, placing}
use Rattle.morgnet.proofs.morgnet_place.Goals as goal

-- number and evictions, each by itself
both : (r : Result ℕ Refusal) → ◌≡◌ {A = Placed} (record { number = outcome r; evictions = result_unwrap_or r 0 }) (told_placed r)
both (Ok n) = refl
both (Err e) = refl

pub returns : goal.returns
returns c =
    let a = c.args in
    let by : (ℕ → ℕ → ℕ) → Placing = λ h. placing h a.domain a.buckets a.points.now a.scratch.now in
    rw (c.number_in.ensures, c.unwrap_or.ensures)
    (ap (λ (p : Placed). placed p c.place-answer.new.scratch) (both _) ∙ c.place-answer.ensures
    ∙ ap (λ (t : Hashes). by (bucket_by t a.buckets)) c.new.ensures
    ∙ ap (λ (f : ℕ → ℕ → ℕ → ℕ). by (f a.buckets)) (hashes_keyed a.keys.now))
