-- What is written as a multi image is read back (document 01, "Key images"). The claim is proved in the file of proofs/ that
-- has its name.
--     Fair ..            what the parts of an image have: numbers within the limits, 48 bytes of hash keys, records or nothing
--     MultiReadsBack     such an image is accepted, and each of its fields, entries and records is what was written
-- Assumes nothing.
use Rattle.std.specs.Prelude.{◌≡◌, true, List, [], ◌⊎◌, ℕ, ◌≤◌, ◌<◌, length}
use Rattle.words.specs.Limits.{largest_multi, largest_single, most_buckets}
use Rattle.single.specs.Rules.{Record}
use Rattle.single.specs.Record as single
use Rattle.single.specs.ReadBack.{Whole}
use Rattle.multi.specs.Image.{multi_length, entry_for, lengths, multi_bytes, party_in, buckets_in, domain_in, count_in, keys_in, entry_in, bucket_part, bytes_of, bucket_record, multi_ok}

pub record Fair (party b d n : ℕ) (keys : List ℕ) (recs : ℕ → List ℕ) : Type 0 where
  pub a_party : party ≤ 1
  pub some_buckets : 1 ≤ b
  pub few_buckets : b ≤ most_buckets
  pub some_cells : 1 ≤ d
  pub few_cells : d ≤ largest_multi
  pub some_points : 1 ≤ n
  pub few_points : n ≤ b
  pub keyed : length keys ≡ 48
  pub each : (c : ℕ) → c < b → (recs c ≡ []) ⊎ (single.record_ok largest_single (recs c) ≡ true)

pub record MultiReadsBack : Type 0 where
  pub accepted : (p b d n : ℕ) (keys : List ℕ) (recs : ℕ → List ℕ) → Fair p b d n keys recs
      → multi_ok (multi_bytes p b d n keys recs) ≡ true
  pub long : (p b d n : ℕ) (keys : List ℕ) (recs : ℕ → List ℕ) → Fair p b d n keys recs
      → length (multi_bytes p b d n keys recs) ≡ multi_length b (lengths recs)
  pub party : (p b d n : ℕ) (keys : List ℕ) (recs : ℕ → List ℕ) → Fair p b d n keys recs
      → party_in (multi_bytes p b d n keys recs) ≡ p
  pub buckets : (p b d n : ℕ) (keys : List ℕ) (recs : ℕ → List ℕ) → Fair p b d n keys recs
      → buckets_in (multi_bytes p b d n keys recs) ≡ b
  pub domain : (p b d n : ℕ) (keys : List ℕ) (recs : ℕ → List ℕ) → Fair p b d n keys recs
      → domain_in (multi_bytes p b d n keys recs) ≡ d
  pub count : (p b d n : ℕ) (keys : List ℕ) (recs : ℕ → List ℕ) → Fair p b d n keys recs
      → count_in (multi_bytes p b d n keys recs) ≡ n
  pub hash_keys : (p b d n : ℕ) (keys : List ℕ) (recs : ℕ → List ℕ) → Fair p b d n keys recs
      → keys_in (multi_bytes p b d n keys recs) ≡ keys
  pub entry : (p b d n : ℕ) (keys : List ℕ) (recs : ℕ → List ℕ) → Fair p b d n keys recs → (c : ℕ) → c < b
      → entry_in (multi_bytes p b d n keys recs) c ≡ entry_for b (lengths recs) c
  pub part : (p b d n : ℕ) (keys : List ℕ) (recs : ℕ → List ℕ) → Fair p b d n keys recs → (c : ℕ) → c < b
      → bucket_part (multi_bytes p b d n keys recs) c ≡ recs c
  -- of records: whole ones, or one of size 0 for a bucket that has none
  pub records : (p b d n : ℕ) (keys : List ℕ) (rec : ℕ → Record) → Fair p b d n keys (λ c. bytes_of (rec c))
      → ((c : ℕ) → c < b → (rec c ≡ single.no_record) ⊎ Whole largest_single (rec c))
      → (c : ℕ) → c < b → bucket_record (multi_bytes p b d n keys (λ e. bytes_of (rec e))) c ≡ rec c
