-- Laws of writing a multi image.
--     header       header_written
--     directory    entry_of, directory_next
--     records      records-first, records_next: a record behind those before it
-- Assumes nothing.
use mathlib.Core.Path.{◌≡◌, sym, ◌∙◌}
use mathlib.Core.Bool.{cond}
use mathlib.Core.List.{List, ◌++◌}
use Prim.Native.Nat.{ℕ, suc, ◌+◌, ◌*◌, ◌≤◌, ◌<◌}
use native.Mathlib.Numerals.{add-one}
use native.Mathlib.Omega.{arith}
use lib.Dec.{eqb}
use lib.ListN.{length, length-append}
use Rattle.words.specs.Bytes.{le_bytes, put, stored}
use Rattle.words.specs.Cells.{sum_to}
use Rattle.words.proofs.ByteLaws.{put_nil, put_next, stored-fits, length-le_bytes, stored_next}
use Rattle.multi.specs.Image.{record_start, multi_length, header_bytes, entry_for, directory_bytes, records_bytes, lengths}
use Rattle.multi.proofs.RecordPlaces.{record_start_le}
use Rattle.multi.proofs.ImageBytes.{length-records}

-- ---- the header

field_bytes : ℕ → ℕ → ℕ → ℕ → List ℕ
field_bytes p b d n = le_bytes 4 p ++ le_bytes 4 b ++ le_bytes 8 d ++ le_bytes 4 n ++ le_bytes 4 72

module _ (p b d n : ℕ) (l0 : List ℕ) {l1 l2 l3 l4 l5 : List ℕ} (room : 72 ≤ length l0)
    (one : l1 ≡ stored l0 0 (le_bytes 4 p))
    (two : l2 ≡ stored l1 4 (le_bytes 4 b))
    (three : l3 ≡ stored l2 8 (le_bytes 8 d))
    (four : l4 ≡ stored l3 16 (le_bytes 4 n))
    (five : l5 ≡ stored l4 20 (le_bytes 4 72))
  where
    -- the fields before the hash keys
    fields_written : l5 ≡ put l0 0 (field_bytes p b d n)
    unfolding field_bytes
    fields_written =
        let n0 = length-le_bytes 4 p in
        let n1 = length-le_bytes 4 b in
        let n2 = length-le_bytes 8 d in
        let n3 = length-le_bytes 4 n in
        let n4 = length-le_bytes 4 72 in
        let first = stored-fits l0 0 (le_bytes 4 p) (omega arith) in
        stored_next l0 0 20 _ _
        (stored_next l0 0 16 _ _
        (stored_next l0 0 8 _ _
        (stored_next l0 0 4 _ _ (one ∙ first) two (omega arith) (omega arith))
        three (simp length-append (omega arith)) (omega arith))
        four (simp length-append (omega arith)) (omega arith))
        five (simp length-append (omega arith)) (omega arith)

    length_field_bytes : length (field_bytes p b d n) ≡ 24
    unfolding field_bytes
    length_field_bytes = simp (length-append, length-le_bytes)

    pub header_written : {l6 : List ℕ} (keys : List ℕ) → length keys ≡ 48 → l6 ≡ put l5 24 keys
        → l6 ≡ put l0 0 (header_bytes p b d n keys)
    unfolding header_bytes field_bytes
    header_written keys keyed six =
        put_next l0 0 24 (field_bytes p b d n) keys fields_written six (omega (arith, length_field_bytes)) (omega arith)

-- ---- the directory

pub entry_of : (b : ℕ) (lens : ℕ → ℕ) (c : ℕ) {len at : ℕ} → len ≡ lens c → at ≡ record_start b lens c
    → cond (eqb len 0) 0 at ≡ entry_for b lens c
unfolding entry_for
entry_of b lens c e f = rw (e, f)

pub directory_next : (b : ℕ) (lens : ℕ → ℕ) (c : ℕ)
    → directory_bytes b lens (c + 1) ≡ directory_bytes b lens c ++ le_bytes 8 (entry_for b lens c)
unfolding directory_bytes
directory_next b lens c = rw add-one

-- ---- records

pub records-first : (recs : ℕ → List ℕ) (l : List ℕ) (a : ℕ) → l ≡ put l a (records_bytes recs 0)
unfolding records_bytes
records-first recs l a = sym (put_nil l a)

module _ (b : ℕ) (recs : ℕ → List ℕ) (l0 : List ℕ) (room : multi_length b (lengths recs) ≤ length l0) where
  pub records_next : {l1 l2 : List ℕ} (c : ℕ) → c < b → l1 ≡ put l0 (72 + 8 * b) (records_bytes recs c)
      → l2 ≡ put l1 (record_start b (lengths recs) c) (recs c)
      → l2 ≡ put l0 (72 + 8 * b) (records_bytes recs (c + 1))
  unfolding records_bytes record_start sum_to
  records_next c below p q =
      let long = length-records recs c in
      let least = record_start_le b (lengths recs) (suc c) b (omega arith) in
      rw add-one (put_next l0 (72 + 8 * b) (record_start b (lengths recs) c) (records_bytes recs c) (recs c) p q (omega arith)
      (omega arith))
