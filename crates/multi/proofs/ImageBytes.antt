-- Laws of the bytes that an image is made of.
--     fields      field_left: of what stands side by side
--     lengths     length_header, length_directory, length-records, length_multi
--     among       directory_at, records-at: the entry and the record of a bucket among others
--     same        directory_same, multi_same: lengths, or records, that agree
--     records     record_long, part_most: what is accepted as a record; bytes-none, bytes_whole, each_record, read-bytes: what
--                 a record takes up
-- Assumes nothing.
use mathlib.Core.Path.{◌≡◌, refl, sym, ap, ap₂, ◌∙◌, subst}
use mathlib.Core.Bool.{true}
use mathlib.Core.List.{List, [], ◌++◌, append_assoc, append-nil}
use mathlib.Core.Logic.{◌⊎◌, inl, inr, ⊎_elim}
use Prim.Native.Nat.{ℕ, zero, suc, ◌+◌, ◌*◌, ◌^◌, ◌≤◌, ◌<◌}
use native.Mathlib.Nat.{eq-or-lt_of_le, le_of_suc-le-suc}
use native.Mathlib.Omega.{arith}
use borrow.Author.Tests.{ne_eqb}
use lib.ListN.{length, take, drop, length-append, length-drop}
use lib.Seq.{take-append-le, drop-append-le}
use Rattle.words.specs.Limits.{largest_single}
use Rattle.words.specs.Word.{is_odd, bit}
use Rattle.words.specs.Bytes.{le_bytes, le_num, field, word_at}
use Rattle.words.specs.Cells.{sum_to}
use Rattle.words.specs.Height as height
use Rattle.words.proofs.ByteLaws.{length-le_bytes, field_at}
use Rattle.single.specs.Rules.{Record}
use Rattle.single.specs.Record as single
use Rattle.single.specs.ReadBack.{Whole}
use Rattle.single.proofs.RecordReadsBack.{record_reads_back}
use Rattle.single.proofs.RecordLaws.{count_most, accepted, field_right}
use Rattle.multi.specs.Image.{record_start, multi_length, header_bytes, entry_for, directory_bytes, records_bytes, bytes_of, lengths, multi_bytes}
use Rattle.multi.proofs.RecordPlaces.{record_start_same, length-treed}

-- ---- fields of what stands side by side

pub field_left : (n : ℕ) (p q : List ℕ) (a : ℕ) → a + n ≤ length p → field n (p ++ q) a ≡ field n p a
unfolding field
field_left n p q a h =
    ap (λ (r : List ℕ). le_num (take n r)) (drop-append-le a p q (omega arith))
    ∙ ap le_num (take-append-le n (drop a p) q (simp length-drop (omega arith)))

-- ---- lengths

pub length_header : (p b d n : ℕ) (keys : List ℕ) → length keys ≡ 48 → length (header_bytes p b d n keys) ≡ 72
unfolding header_bytes
length_header p b d n keys e = simp (length-append, length-le_bytes, e)

pub length_directory : (b : ℕ) (lens : ℕ → ℕ) (c : ℕ) → length (directory_bytes b lens c) ≡ 8 * c
unfolding directory_bytes
length_directory b lens zero = refl
length_directory b lens (suc c) = rw (length-append, length_directory b lens c, length-le_bytes) (omega arith)

pub length-records : (recs : ℕ → List ℕ) (c : ℕ) → length (records_bytes recs c) ≡ sum_to c (lengths recs)
unfolding records_bytes sum_to
length-records recs zero = refl
length-records recs (suc c) = rw (length-append, length-records recs c)

pub length_multi : (p b d n : ℕ) (keys : List ℕ) (recs : ℕ → List ℕ) → length keys ≡ 48
    → length (multi_bytes p b d n keys recs) ≡ multi_length b (lengths recs)
unfolding multi_bytes record_start
length_multi p b d n keys recs e = simp (length-append, length_header p b d n keys e, length_directory, length-records)

-- ---- entries and records among others

-- the entry of bucket c in a directory of n entries
pub directory_at : (b : ℕ) (lens : ℕ → ℕ) (n c : ℕ) → c < n → entry_for b lens c < 256 ^ 8
    → field 8 (directory_bytes b lens n) (8 * c) ≡ entry_for b lens c
unfolding directory_bytes
directory_at b lens zero c h small = let z : ⊥ = omega arith in absurd z
directory_at b lens (suc n) c h small =
    let long = length_directory b lens n in
    ⊎_elim
    (λ same.
    let last : 8 * c ≡ 8 * n + 0 = omega arith in
    ap (λ (k : ℕ). field 8 (directory_bytes b lens n ++ le_bytes 8 (entry_for b lens n)) k) last
    ∙ field_right 8 (directory_bytes b lens n) (le_bytes 8 (entry_for b lens n)) (8 * n) 0 long
    ∙ ap (λ (r : List ℕ). field 8 r 0) (sym (append-nil (le_bytes 8 (entry_for b lens n))))
    ∙ field_at 8 (entry_for b lens n) [] [] 0 refl (subst (λ (k : ℕ). entry_for b lens k < 256 ^ 8) same small)
    ∙ ap (entry_for b lens) (sym same))
    (λ below. field_left 8 (directory_bytes b lens n) (le_bytes 8 (entry_for b lens n)) (8 * c) (omega arith)
    ∙ directory_at b lens n c below small)
    (eq-or-lt_of_le (le_of_suc-le-suc h))

-- the record of bucket c among those of n buckets
pub records-at : (recs : ℕ → List ℕ) (n c : ℕ) → c < n
    → (rest : List ℕ) × (records_bytes recs n ≡ records_bytes recs c ++ (recs c ++ rest))
unfolding records_bytes
records-at recs zero c h = let z : ⊥ = omega arith in absurd z
records-at recs (suc n) c h =
    ⊎_elim
    (λ same. (
      [],
      ap (λ (k : ℕ). records_bytes recs k ++ recs k) (sym same)
          ∙ ap (λ (r : List ℕ). records_bytes recs c ++ r) (sym (append-nil (recs c))),
    ))
    (λ below.
    let q = records-at recs n c below in
    (q.0 ++ recs n, rw q.1 (simp append_assoc)))
    (eq-or-lt_of_le (le_of_suc-le-suc h))

-- ---- parts that agree

-- lengths that agree make one directory
pub directory_same : (b : ℕ) (f g : ℕ → ℕ) (c : ℕ) → ((e : ℕ) → e < c → f e ≡ g e) → directory_bytes b f c ≡ directory_bytes b g c
unfolding directory_bytes entry_for
directory_same b f g zero alike = refl
directory_same b f g (suc c) alike =
    rw (
      directory_same b f g c (λ e below. alike e (omega arith)),
      alike c (omega arith),
      record_start_same b f g c (λ e below. alike e (omega arith)),
    )

records_same : (f g : ℕ → List ℕ) (c : ℕ) → ((e : ℕ) → e < c → f e ≡ g e) → records_bytes f c ≡ records_bytes g c
unfolding records_bytes
records_same f g zero alike = refl
records_same f g (suc c) alike = rw (records_same f g c (λ e below. alike e (omega arith)), alike c (omega arith))

-- records that agree make one image
pub multi_same : (p b d n : ℕ) (keys : List ℕ) (f g : ℕ → List ℕ) → ((c : ℕ) → c < b → f c ≡ g c)
    → multi_bytes p b d n keys f ≡ multi_bytes p b d n keys g
unfolding multi_bytes
multi_same p b d n keys f g alike =
    ap₂ (λ (x y : List ℕ). header_bytes p b d n keys ++ x ++ y)
    (directory_same b (lengths f) (lengths g) b (λ c below. ap length (alike c below))) (records_same f g b alike)

-- ---- records

-- a fair record's length
pub record_long : (r : List ℕ) → single.record_ok largest_single r ≡ true
    → (length r ≡ single.length_for (single.size_in r)) × (56 ≤ length r) × (length r ≤ 584)
record_long r ok =
    let q = accepted largest_single r ok in
    let few = count_most (single.size_in r) q.treed in
    (q.exact ∙ sym (length-treed (single.size_in r) q.treed), omega (arith, q.exact), omega (arith, q.exact))

pub part_most : (r : List ℕ) → (r ≡ []) ⊎ (single.record_ok largest_single r ≡ true) → length r ≤ 584
part_most r s = ⊎_elim (λ none. rw none (omega arith)) (λ ok. (record_long r ok).2) s

-- a record of size 0 takes up nothing, a whole one its bytes
pub bytes-none : (r : Record) → r ≡ single.no_record → bytes_of r ≡ []
unfolding bytes_of
bytes-none r e = rw e

pub bytes_whole : (r : Record) → Whole largest_single r → bytes_of r ≡ single.record_bytes r
unfolding bytes_of
bytes_whole r w = rw (ne_eqb r.size 0 (λ z. omega (arith, w.some)))

-- what the parts of an image of records have
pub each_record : (r : Record) → (r ≡ single.no_record) ⊎ Whole largest_single r
    → (bytes_of r ≡ []) ⊎ (single.record_ok largest_single (bytes_of r) ≡ true)
each_record r s =
    ⊎_elim (λ e. inl (bytes-none r e)) (λ w. inr (rw (bytes_whole r w) (record_reads_back.accepted largest_single r w))) s

nothing_in : single.record_in [] ≡ single.no_record
unfolding single.record_in single.words_in field le_num word_at is_odd bit height.height lib.Count.count_leading_zeros
nothing_in = refl

pub read-bytes : (r : Record) → (r ≡ single.no_record) ⊎ Whole largest_single r → single.record_in (bytes_of r) ≡ r
read-bytes r s =
    ⊎_elim
    (λ e. ap single.record_in (bytes-none r e) ∙ nothing_in ∙ sym e)
    (λ w. ap single.record_in (bytes_whole r w) ∙ record_reads_back.read largest_single r w)
    s
