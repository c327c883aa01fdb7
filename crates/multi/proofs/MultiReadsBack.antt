-- What is written as a multi image is read back. The fields are found one behind the other; an entry's number fits eight bytes,
-- since a record has at most 584; a record is found where its entry says, behind those before it, and its own size says how
-- much of the image it is. Assumes nothing.
use mathlib.Core.Path.{◌≡◌, refl, sym, ap, ◌∙◌}
use mathlib.Core.Bool.{Bool, true, false, cond}
use mathlib.Core.List.{List, [], ◌++◌, append_assoc}
use mathlib.Core.Logic.{◌⊎◌, ⊎_elim}
use Prim.Native.Nat.{ℕ, zero, suc, ◌+◌, ◌*◌, ◌^◌, ◌≤◌, ◌<◌}
use native.Mathlib.Numerals.{add-one}
use native.Mathlib.Omega.{arith}
use borrow.Author.Tests.{eq-eqb, ne_eqb, le-leb}
use lib.Dec.{eqb}
use lib.ListN.{length, take, drop, length-append}
use lib.Seq.{take_at, drop_at}
use Rattle.words.specs.Limits.{largest_single}
use Rattle.words.specs.Bytes.{le_bytes, field}
use Rattle.words.specs.Cells.{sum_to}
use Rattle.words.proofs.ByteLaws.{length-le_bytes, field_at}
use Rattle.words.proofs.TestLaws.{every-none, every_pass}
use Rattle.words.proofs.CellLaws.{sum_mono}
use Rattle.single.specs.Rules.{Record}
use Rattle.single.specs.Record as single
use Rattle.single.specs.ReadBack.{Whole}
use Rattle.single.proofs.RecordLaws.{field_right}
use Rattle.multi.specs.Image.{record_start, header_bytes, entry_for, directory_bytes, records_bytes, bytes_of, lengths, multi_bytes, party_in, buckets_in, domain_in, count_in, offset_in, keys_in, entry_in, bucket_part, bucket_record, header_tests, header_ok, next_in, slot_ok, slots_ok, multi_ok}
use Rattle.multi.specs.ReadBack.{Fair, MultiReadsBack}
use Rattle.multi.proofs.RecordPlaces.{record_start-least, record_start_same, bucket_part-none, bucket_part_there}
use Rattle.multi.proofs.SlotLaws.{slot_none, slot_there, slots_none, slots_more}
use Rattle.multi.proofs.ImageBytes.{field_left, length_header, length_directory, length-records, length_multi, directory_at, records-at, record_long, part_most, read-bytes}

-- ---- an image of fair parts

sum_most : (f : ℕ → ℕ) (m n : ℕ) → ((c : ℕ) → c < n → f c ≤ m) → sum_to n f ≤ m * n
unfolding sum_to
sum_most f m zero all = omega arith
sum_most f m (suc n) all = omega (arith, sum_most f m n (λ c below. all c (omega arith)), all n (omega arith))

module _ (p b d n : ℕ) (keys : List ℕ) (recs : ℕ → List ℕ) (fair : Fair p b d n keys recs) where
  abbrev image : List ℕ
  image = multi_bytes p b d n keys recs

  abbrev lens : ℕ → ℕ
  lens = lengths recs

  rest : List ℕ
  rest = directory_bytes b (lengths recs) b ++ records_bytes recs b

  flat : image ≡ le_bytes 4 p ++ (le_bytes 4 b ++ (le_bytes 8 d ++ (le_bytes 4 n ++ (le_bytes 4 72 ++ (keys ++ rest)))))
  unfolding multi_bytes header_bytes rest
  flat = simp append_assoc

  -- a field behind four bytes, behind eight
  past : (k x : ℕ) (q : List ℕ) (a : ℕ) → field k (le_bytes 4 x ++ q) (4 + a) ≡ field k q a
  past k x q a = field_right k (le_bytes 4 x) q 4 a (length-le_bytes 4 x)

  over : (k x : ℕ) (q : List ℕ) (a : ℕ) → field k (le_bytes 8 x ++ q) (8 + a) ≡ field k q a
  over k x q a = field_right k (le_bytes 8 x) q 8 a (length-le_bytes 8 x)

  here : (k x : ℕ) (q : List ℕ) → x < 256 ^ k → field k (le_bytes k x ++ q) 0 ≡ x
  here k x q h = field_at k x [] q 0 refl h

  party_back : party_in image ≡ p
  party_back = rw flat (here 4 p _ (omega (arith, fair.a_party)))

  buckets_back : buckets_in image ≡ b
  buckets_back = rw flat (past 4 _ _ 0 ∙ here 4 b _ (omega (arith, fair.few_buckets)))

  domain_back : domain_in image ≡ d
  domain_back = rw flat (past 8 _ _ 4 ∙ past 8 _ _ 0 ∙ here 8 d _ (omega (arith, fair.few_cells)))

  count_back : count_in image ≡ n
  count_back =
      rw flat (past 4 _ _ 12 ∙ past 4 _ _ 8 ∙ over 4 _ _ 0 ∙ here 4 n _ (omega (arith, fair.few_points, fair.few_buckets)))

  offset_back : offset_in image ≡ 72
  offset_back = rw flat (past 4 _ _ 16 ∙ past 4 _ _ 12 ∙ over 4 _ _ 4 ∙ past 4 _ _ 0 ∙ here 4 72 _ (omega arith))

  keys_back : keys_in image ≡ keys
  unfolding keys_in multi_bytes header_bytes
  keys_back =
      let front = le_bytes 4 p ++ le_bytes 4 b ++ le_bytes 8 d ++ le_bytes 4 n ++ le_bytes 4 72 in
      let long : length front ≡ 24 = simp (length-append, length-le_bytes) in
      let split : front ++ keys ++ directory_bytes b lens b ++ records_bytes recs b ≡ front ++ (keys ++ (directory_bytes b lens b ++ records_bytes recs b)) =
      simp append_assoc in
      ap (λ (r : List ℕ). take 48 (drop 24 r)) split
      ∙ ap (λ (r : List ℕ). take 48 r) (drop_at front _ 24 long)
      ∙ take_at keys _ 48 fair.keyed

  -- ---- entries

  start_small : (c : ℕ) → c ≤ b → record_start b lens c < 256 ^ 8
  unfolding record_start
  start_small c h =
      omega (
        arith,
        sum_most lens 584 b (λ e below. part_most (recs e) (fair.each e below)),
        sum_mono lens c b h,
        fair.few_buckets,
      )

  entry-small : (c : ℕ) → c < b → entry_for b lens c < 256 ^ 8
  unfolding entry_for
  entry-small c h = go (eqb (lens c) 0)
    where
      go : (t : Bool) → cond t 0 (record_start b lens c) < 256 ^ 8
      go true = omega arith
      go false = start_small c (omega arith)

  entry_back : (c : ℕ) → c < b → entry_in image c ≡ entry_for b lens c
  unfolding entry_in multi_bytes
  entry_back c h =
      let head = header_bytes p b d n keys in
      let dir = directory_bytes b lens b in
      ap (λ (r : List ℕ). field 8 r (72 + 8 * c)) (append_assoc head dir (records_bytes recs b))
      ∙ field_right 8 head (dir ++ records_bytes recs b) 72 (8 * c) (length_header p b d n keys fair.keyed)
      ∙ field_left 8 dir (records_bytes recs b) (8 * c) (omega (arith, length_directory b lens b))
      ∙ directory_at b lens b c h (entry-small c h)

  entry_back_none : (c : ℕ) → c < b → recs c ≡ [] → entry_in image c ≡ 0
  unfolding entry_for
  entry_back_none c h none = entry_back c h ∙ rw (ap length none)

  entry_back_there : (c : ℕ) → c < b → 56 ≤ length (recs c) → entry_in image c ≡ record_start b lens c
  unfolding entry_for
  entry_back_there c h some = entry_back c h ∙ rw (ne_eqb (length (recs c)) 0 (λ z. omega arith))

  -- ---- parts

  -- from a record's start on, the image is the record and what follows
  behind-start : (c : ℕ) → c < b → (behind : List ℕ) × (drop (record_start b lens c) image ≡ recs c ++ behind)
  unfolding multi_bytes record_start
  behind-start c h =
      let q = records-at recs b c h in
      let front = header_bytes p b d n keys ++ directory_bytes b lens b ++ records_bytes recs c in
      let long : length front ≡ 72 + 8 * b + sum_to c lens =
      simp (length-append, length_header p b d n keys fair.keyed, length_directory, length-records) in
      let split : header_bytes p b d n keys ++ directory_bytes b lens b ++ records_bytes recs b ≡ front ++ (recs c ++ q.0) =
      ap (λ (r : List ℕ). header_bytes p b d n keys ++ directory_bytes b lens b ++ r) q.1
      ∙ sym (append_assoc (header_bytes p b d n keys ++ directory_bytes b lens b) (records_bytes recs c) (recs c ++ q.0)) in
      (q.0, ap (λ (r : List ℕ). drop (72 + 8 * b + sum_to c lens) r) split ∙ drop_at front _ _ long)

  part_there_back : (c : ℕ) → c < b → single.record_ok largest_single (recs c) ≡ true → bucket_part image c ≡ recs c
  unfolding field
  part_there_back c h ok =
      let q = behind-start c h in
      let r = record_long (recs c) ok in
      let s = record_start b lens c in
      let at : entry_in image c ≡ s = entry_back_there c h r.1 in
      let some : entry_in image c ≡ 0 → ⊥ = λ z. omega (arith, record_start-least b lens c) in
      let size : field 8 image s ≡ single.size_in (recs c) =
      ap (λ (x : List ℕ). field 8 x 0) q.1 ∙ field_left 8 (recs c) q.0 0 (omega arith) in
      bucket_part_there image c some
      ∙ ap (λ (k : ℕ). single.record_part image k) at
      ∙ ap (λ (k : ℕ). take (single.length_for k) (drop s image)) size
      ∙ ap (λ (x : List ℕ). take (single.length_for (single.size_in (recs c))) x) q.1
      ∙ take_at (recs c) q.0 _ r.0

  part_back : (c : ℕ) → c < b → bucket_part image c ≡ recs c
  part_back c h =
      ⊎_elim (λ none. bucket_part-none image c (entry_back_none c h none) ∙ sym none) (λ ok. part_there_back c h ok)
      (fair.each c h)

  -- ---- the tests

  next_back : (c : ℕ) → c ≤ b → next_in image c ≡ record_start b lens c
  next_back c h =
      ap (λ (k : ℕ). record_start k (lengths (bucket_part image)) c) buckets_back
      ∙ record_start_same b (lengths (bucket_part image)) lens c (λ e below. ap length (part_back e (omega arith)))

  slot_back : (c : ℕ) → c < b → slot_ok image c ≡ true
  slot_back c h =
      ⊎_elim
      (λ none. slot_none image c (entry_back_none c h none))
      (λ ok.
      let r = record_long (recs c) ok in
      let at : entry_in image c ≡ record_start b lens c = entry_back_there c h r.1 in
      slot_there image c (λ z. omega (arith, record_start-least b lens c))
      ∙ every_pass _ (eq-eqb _ _ (at ∙ sym (next_back c (omega arith))))
      ∙ every_pass _ (ap (single.record_ok largest_single) (part_back c h) ∙ ok)
      ∙ every-none)
      (fair.each c h)

  slots_back : (c : ℕ) → c ≤ b → slots_ok image c ≡ true
  slots_back zero h = slots_none image
  slots_back (suc c) h = rw (← add-one) (slots_more image c (slots_back c (omega arith)) (slot_back c (omega arith)))

  header_back : header_ok image ≡ true
  unfolding header_tests
  header_back =
      let long = length_multi p b d n keys recs fair.keyed in
      rw (party_back, buckets_back, domain_back, count_back, offset_back, long)
      (every_pass _ (le-leb _ _ fair.a_party)
      ∙ every_pass _ (le-leb _ _ fair.some_buckets)
      ∙ every_pass _ (le-leb _ _ fair.few_buckets)
      ∙ every_pass _ (le-leb _ _ fair.some_cells)
      ∙ every_pass _ (le-leb _ _ fair.few_cells)
      ∙ every_pass _ (le-leb _ _ fair.some_points)
      ∙ every_pass _ (le-leb _ _ fair.few_points)
      ∙ every_pass _ (eq-eqb 72 72 refl)
      ∙ every_pass _ (le-leb _ _ (record_start-least b lens b))
      ∙ every-none)

  accept : multi_ok image ≡ true
  unfolding multi_ok
  accept =
      let slots : slots_ok image (buckets_in image) ≡ true = rw buckets_back (slots_back b (omega arith)) in
      let exact : next_in image (buckets_in image) ≡ length image =
      ap (next_in image) buckets_back ∙ next_back b (omega arith) ∙ sym (length_multi p b d n keys recs fair.keyed) in
      every_pass _ header_back ∙ every_pass _ slots ∙ every_pass _ (eq-eqb _ _ exact) ∙ every-none

-- ---- of records

records_back : (p b d n : ℕ) (keys : List ℕ) (rec : ℕ → Record) → Fair p b d n keys (λ c. bytes_of (rec c))
    → ((c : ℕ) → c < b → (rec c ≡ single.no_record) ⊎ Whole largest_single (rec c))
    → (c : ℕ) → c < b → bucket_record (multi_bytes p b d n keys (λ e. bytes_of (rec e))) c ≡ rec c
unfolding bucket_record
records_back p b d n keys rec fair all c h =
    ap single.record_in (part_back p b d n keys (λ e. bytes_of (rec e)) fair c h) ∙ read-bytes (rec c) (all c h)

pub multi_reads_back : MultiReadsBack
multi_reads_back = record {
  accepted = accept;
  long = λ p b d n keys recs fair. length_multi p b d n keys recs fair.keyed;
  party = party_back;
  buckets = buckets_back;
  domain = domain_back;
  count = count_back;
  hash_keys = keys_back;
  entry = entry_back;
  part = part_back;
  records = records_back;
}
