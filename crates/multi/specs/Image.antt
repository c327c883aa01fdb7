-- The multi image (document 01, "Key images"). Every number is little-endian.
--     OFFSET  SIZE  FIELD
--          0     4  party, 0 or 1
--          4     4  B, 1 to 65,535
--          8     8  D, 1 to 2^32 - 1
--         16     4  n, 1 to B
--         20     4  directory offset, 72
--         24    48  three hash keys of 16 bytes
--         72    8B  the directory: for each bucket 0, or where its record begins
--      72+8B        the records in bucket order, without gaps, up to the end of the image
--     record_start b lens c           where the record of bucket c begins, among b buckets whose records have these lengths
--     multi_length b lens             the length of the image; lengths_by sizes: the lengths of the records of these sizes
--     header_bytes, directory_bytes    the 72 bytes of the header; the entries of the first buckets
--     records_bytes recs c            the records of the first c buckets; no bytes are no record
--     multi_bytes ..                  the whole image; bytes_of r: what a record takes up in it
--     party_in .. keys_in, entry_in     the fields, read
--     bucket_part l c                 the part of the image that is bucket c's record, empty where it has none
--     bucket_record l c               the record in it; bucket_size l c: its size, 0 where it has none
--     multi_ok l                      whether bytes are a multi image
--     record_number l c, place_of l c, record_given l c    handing out a bucket's record; told_place: what a result tells of it
-- Assumes nothing.
use Rattle.std.specs.Prelude.{Bool, true, not, cond, List, [], ◌∷◌, ◌++◌, ℕ, zero, suc, ◌+◌, ◌*◌, leb, eqb, length, take, drop, get_or, Result, Ok, Err}
use Rattle.words.specs.Limits.{largest_multi, largest_single, most_buckets}
use Rattle.words.specs.Bytes.{le_bytes, field}
use Rattle.words.specs.Cells.{sum_to}
use Rattle.words.specs.Refusals.{Key, Index, every, first, on_success, number_of}
use Rattle.single.specs.Rules.{Record}
use Rattle.single.specs.Record as single
use Rattle.words.specs.declared.refusals.Refusal.{Refusal}
use Rattle.multi.specs.declared.image.RecordPlace as code

-- ---- lengths

-- behind the directory and the records of the buckets before
unfoldable pub record_start : ℕ → (ℕ → ℕ) → ℕ → ℕ
record_start b lens c = 72 + 8 * b + sum_to c lens

abbrev pub multi_length : ℕ → (ℕ → ℕ) → ℕ
multi_length b lens = record_start b lens b

-- from the sizes of the records: none for size 0
unfoldable pub lengths_by : List ℕ → ℕ → ℕ
lengths_by sizes c = single.length_for (get_or sizes c 0)

-- ---- out

unfoldable pub header_bytes : ℕ → ℕ → ℕ → ℕ → List ℕ → List ℕ
header_bytes party b d n keys = le_bytes 4 party ++ le_bytes 4 b ++ le_bytes 8 d ++ le_bytes 4 n ++ le_bytes 4 72 ++ keys

-- 0 for no record, else where it begins
unfoldable pub entry_for : ℕ → (ℕ → ℕ) → ℕ → ℕ
entry_for b lens c = cond (eqb (lens c) 0) 0 (record_start b lens c)

unfoldable pub directory_bytes : ℕ → (ℕ → ℕ) → ℕ → List ℕ
directory_bytes b lens zero = []
directory_bytes b lens (suc c) = directory_bytes b lens c ++ le_bytes 8 (entry_for b lens c)

unfoldable pub records_bytes : (ℕ → List ℕ) → ℕ → List ℕ
records_bytes recs zero = []
records_bytes recs (suc c) = records_bytes recs c ++ recs c

-- the bytes of a record; a record of size 0 stands for none
unfoldable pub bytes_of : Record → List ℕ
bytes_of r = cond (eqb r.size 0) [] (single.record_bytes r)

abbrev pub lengths : (ℕ → List ℕ) → ℕ → ℕ
lengths recs c = length (recs c)

unfoldable pub multi_bytes : ℕ → ℕ → ℕ → ℕ → List ℕ → (ℕ → List ℕ) → List ℕ
multi_bytes party b d n keys recs = header_bytes party b d n keys ++ directory_bytes b (lengths recs) b ++ records_bytes recs b

-- ---- in

abbrev pub party_in : List ℕ → ℕ
party_in l = field 4 l 0

abbrev pub buckets_in : List ℕ → ℕ
buckets_in l = field 4 l 4

abbrev pub domain_in : List ℕ → ℕ
domain_in l = field 8 l 8

abbrev pub count_in : List ℕ → ℕ
count_in l = field 4 l 16

abbrev pub offset_in : List ℕ → ℕ
offset_in l = field 4 l 20

unfoldable pub keys_in : List ℕ → List ℕ
keys_in l = take 48 (drop 24 l)

unfoldable pub entry_in : List ℕ → ℕ → ℕ
entry_in l c = field 8 l (72 + 8 * c)

-- as many bytes from the entry on as a record of the size found there takes up
unfoldable pub bucket_part : List ℕ → ℕ → List ℕ
bucket_part l c = cond (eqb (entry_in l c) 0) [] (single.record_part l (entry_in l c))

unfoldable pub bucket_record : List ℕ → ℕ → Record
bucket_record l c = single.record_in (bucket_part l c)

unfoldable pub bucket_size : List ℕ → ℕ → ℕ
bucket_size l c = single.size_in (bucket_part l c)

-- ---- what is a multi image

-- the numbers of the header are within their limits, and the directory is there
unfoldable pub header_tests : ℕ → ℕ → ℕ → ℕ → ℕ → ℕ → List Bool
header_tests party b d n offset len =
    leb party 1
    ∷ leb 1 b
    ∷ leb b most_buckets
    ∷ leb 1 d
    ∷ leb d largest_multi
    ∷ leb 1 n
    ∷ leb n b
    ∷ eqb offset 72
    ∷ leb (72 + 8 * b) len
    ∷ []

abbrev pub header_ok : List ℕ → Bool
header_ok l = every (header_tests (party_in l) (buckets_in l) (domain_in l) (count_in l) (offset_in l) (length l))

-- where bucket c's record has to begin: behind the records of the buckets before
abbrev pub next_in : List ℕ → ℕ → ℕ
next_in l c = record_start (buckets_in l) (lengths (bucket_part l)) c

-- an entry is 0, or where the next record begins; and what begins there is a record
unfoldable pub slot_ok : List ℕ → ℕ → Bool
slot_ok l c =
    cond (eqb (entry_in l c) 0) true
    (every (eqb (entry_in l c) (next_in l c) ∷ single.record_ok largest_single (bucket_part l c) ∷ []))

unfoldable pub slots_ok : List ℕ → ℕ → Bool
slots_ok l zero = true
slots_ok l (suc c) = every (slots_ok l c ∷ slot_ok l c ∷ [])

-- the last record ends the image
unfoldable pub multi_ok : List ℕ → Bool
multi_ok l = every (header_ok l ∷ slots_ok l (buckets_in l) ∷ eqb (next_in l (buckets_in l)) (length l) ∷ [])

-- ---- handing out a bucket's record

-- 9, then 10
unfoldable pub record_number : List ℕ → ℕ → ℕ
record_number l c = first ((not (multi_ok l), Key) ∷ (leb (buckets_in l) c, Index) ∷ [])

-- the number, and where it begins and how long it is; zeros where there is none
pub record RecordPlace : Type 0 where
  pub number : ℕ
  pub start : ℕ
  pub bytes : ℕ

unfoldable pub place_of : List ℕ → ℕ → RecordPlace
place_of l c =
    on_success (record_number l c)
    (record { number = 0; start = entry_in l c; bytes = length (bucket_part l c) })
    (record { number = record_number l c; start = 0; bytes = 0 })

-- what a result tells of it
abbrev pub told_place : Result code.RecordPlace Refusal → RecordPlace
told_place (Ok place) = record { number = 0; start = place.start; bytes = place.bytes }
told_place (Err e) = record { number = number_of e; start = 0; bytes = 0 }

-- that part of the image
unfoldable pub record_given : List ℕ → ℕ → List ℕ
record_given l c = on_success (record_number l c) (bucket_part l c) []
