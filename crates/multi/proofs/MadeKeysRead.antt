-- What the maker writes, every reader accepts and reads back: each made record is none, for an empty bucket, or whole, so the
-- image is fair and is read back; its sizes are the buckets', so nothing is a mismatch; and its records are those of the rules
-- at every bucket that a cell can enter.
--     made-whole        a made record is none, or whole
--     share_same        a share looks at the records of the cell's buckets alone
-- Assumes nothing.
use mathlib.Core.Path.{◌≡◌, refl, sym, ap, ap₂, ◌∙◌}
use mathlib.Core.Bool.{Bool, true, false, not, cond}
use mathlib.Core.Logic.{◌⊎◌, inl, inr, ⊎_elim}
use mathlib.Core.List.{List}
use Prim.Native.Nat.{ℕ, ◌+◌, ◌*◌, ◌^◌, ◌≤◌, ◌<◌}
use native.Mathlib.Omega.{arith}
use native.Mathlib.Decide.{ℕ_discrete}
use lib.ListN.{length, get_or}
use borrow.Author.Tests.{eq-eqb, lt-leb, le-ltb}
use Rattle.words.specs.Limits.{largest_multi, largest_single}
use Rattle.words.specs.declared.Word.{Word}
use Rattle.words.specs.Word.{On128}
use Rattle.words.proofs.TestLaws.{first-none, first_miss}
use Rattle.words.proofs.HeightLaws.{in_limits}
use Rattle.single.specs.Rules.{Record}
use Rattle.single.specs.Record as single
use Rattle.single.specs.Record.{no_record, length_for, record_in}
use Rattle.single.specs.ReadBack.{Whole}
use Rattle.single.proofs.RecordLaws.{length_for_lem, length-record_bytes}
use Rattle.single.proofs.RecordReadsBack.{record_reads_back}
use Rattle.placement.specs.Buckets.{size_of}
use Rattle.placement.proofs.BucketLaws.{size_le}
use Rattle.multi.specs.Rules.{cell_share, multi_share, made_record, made_share}
use Rattle.multi.specs.Image.{bytes_of, party_in, buckets_in, domain_in, count_in, keys_in, bucket_part, bucket_record, bucket_size, multi_ok}
use Rattle.multi.specs.Calls.{Given, functions, image_length, record_made, image_made, side_in, domain_room, functions_in, matches, evaluate_at_number, evaluate_domain_number, add_to_number, share_in}
use Rattle.multi.specs.ReadBack.{Fair}
use Rattle.multi.specs.Promises.{Below, Accepted, share_made, ReadBack, MadeKeysRead}
use Rattle.multi.proofs.RecordPlaces.{record_start_same, length-zero}
use Rattle.multi.proofs.ImageBytes.{bytes-none, bytes_whole, each_record}
use Rattle.multi.proofs.MultiReadsBack.{multi_reads_back}
use Rattle.multi.proofs.CallLaws.{alike_all}
use Rattle.multi.proofs.GivenLaws.{Early, given_early}
use Rattle.multi.proofs.RecordsMade.{made_some, made_none, made-size, fits_word}

-- ---- records

module _ (H : Word → Word) (on : On128 H) (h : ℕ → ℕ → ℕ) (D : ℕ) (few : D ≤ largest_multi) (pts vs t ws : List ℕ)
    (low : (i : ℕ) → get_or ws i 0 < 2 ^ 64)
    (p : Bool) (b : ℕ) where
  pub made-whole : (made_record H 64 h D pts vs t ws p b ≡ no_record) ⊎ Whole largest_single (made_record H 64 h D pts vs t ws p b)
  made-whole = elim (ℕ_discrete (size_of h D b) 0) [
    | yes e ↦ inl (made_none H 64 h D pts vs t ws p b e)
    | no n ↦ inr (rw (made_some H 64 h D pts vs t ws p b (omega arith))
        (record_reads_back.making H on _ _ _ _ (fits_word ws _ low) (fits_word ws _ low) _ p (omega arith)
        (omega (arith, size_le h b D))))
  ]

-- none takes up nothing
pub length-bytes_of : (r : Record) → (r ≡ no_record) ⊎ Whole largest_single r → length (bytes_of r) ≡ length_for r.size
unfolding single.record_length
length-bytes_of r s =
    ⊎_elim
    (λ e. ap length (bytes-none r e) ∙ sym (ap (λ (q : Record). length_for q.size) e ∙ length-zero))
    (λ w.
    ap length (bytes_whole r w) ∙ length-record_bytes r ∙ ap (λ (n : ℕ). 56 + 16 * n) w.counted
    ∙ sym (length_for_lem r.size (in_limits r.size w.some w.treed)))
    s

-- ---- shares

pub share_same : (H : Word → Word) (w : ℕ) (p : Bool) (r s : ℕ → Record) (h : ℕ → ℕ → ℕ) (D x : ℕ)
    → ((k : ℕ) → k < 3 → r (h k x) ≡ s (h k x))
    → multi_share H w p r h D x ≡ multi_share H w p s h D x
unfolding multi_share cell_share
share_same H w p r s h D x alike = rw (alike 0 (omega arith), alike 1 (omega arith), alike 2 (omega arith))

-- ---- an image

-- a record's size is the size that bytes are read as
size_of_lem : (l : List ℕ) → single.size_in l ≡ (record_in l).size
unfolding record_in
size_of_lem l = refl

-- which party an image names
side_back : (l : List ℕ) (p : Bool) → party_in l ≡ cond p 1 0 → side_in l ≡ p
side_back l true e = eq-eqb _ 1 e
side_back l false e = rw e

module _ (H : Word → Word) (on : On128 H) (bucket : List ℕ → ℕ → ℕ → ℕ → ℕ) (low : Below bucket) (g : Given)
    (acc : Accepted bucket g) (p : Bool) where
  image : List ℕ
  image = image_made H bucket g p

  facts : Early g acc.scratch
  facts = given_early bucket g acc.scratch acc.room0 acc.room1 acc.number

  each : (b : ℕ) → (record_made H bucket g p b ≡ no_record) ⊎ Whole largest_single (record_made H bucket g p b)
  each b = made-whole H on _ g.domain facts.few_cells _ _ _ _ acc.worded p b

  side : ℕ
  side = cond p 1 0

  side_le : side ≤ 1
  unfolding side
  side_le = go p
    where
      go : (q : Bool) → cond q 1 0 ≤ 1
      go true = omega arith
      go false = omega arith

  fair : Fair side g.buckets g.domain (length g.points) g.keys (λ b. bytes_of (record_made H bucket g p b))
  fair = record {
    a_party = side_le;
    some_buckets = facts.some_buckets;
    few_buckets = facts.few_buckets;
    some_cells = facts.some_cells;
    few_cells = facts.few_cells;
    some_points = facts.some_points;
    few_points = facts.few_points;
    keyed = acc.keyed;
    each = λ b below. each_record _ (each b);
  }

  long_back : length image ≡ image_length (functions bucket g) g.domain g.buckets
  unfolding image image_made side image_length
  long_back =
      multi_reads_back.long _ _ _ _ _ _ fair
      ∙ record_start_same g.buckets _ _ g.buckets
      (λ b below. length-bytes_of _ (each b)
      ∙ ap length_for (made-size H 64 (functions bucket g) g.domain g.points g.values _ g.words p b))

  ok_back : multi_ok image ≡ true
  unfolding image image_made side
  ok_back = multi_reads_back.accepted _ _ _ _ _ _ fair

  party_back : side_in image ≡ p
  unfolding image image_made side
  party_back = side_back _ p (multi_reads_back.party _ _ _ _ _ _ fair)

  buckets_back : buckets_in image ≡ g.buckets
  unfolding image image_made side
  buckets_back = multi_reads_back.buckets _ _ _ _ _ _ fair

  domain_back : domain_in image ≡ g.domain
  unfolding image image_made side
  domain_back = multi_reads_back.domain _ _ _ _ _ _ fair

  count_back : count_in image ≡ length g.points
  unfolding image image_made side
  count_back = multi_reads_back.count _ _ _ _ _ _ fair

  keys_back : keys_in image ≡ g.keys
  unfolding image image_made side
  keys_back = multi_reads_back.hash_keys _ _ _ _ _ _ fair

  records_back : (b : ℕ) → b < g.buckets → bucket_record image b ≡ record_made H bucket g p b
  unfolding image image_made side
  records_back b below = multi_reads_back.records _ _ _ _ _ (record_made H bucket g p) fair (λ c l. each c) b below

  functions_back : functions_in bucket image ≡ functions bucket g
  functions_back = ap₂ bucket keys_back buckets_back

  size_back : (b : ℕ) → b < g.buckets → bucket_size image b ≡ size_of (functions bucket g) g.domain b
  unfolding bucket_size bucket_record
  size_back b below =
      size_of_lem (bucket_part image b)
      ∙ ap (λ (r : Record). r.size) (records_back b below)
      ∙ made-size H 64 (functions bucket g) g.domain g.points g.values _ g.words p b

  matched_back : matches bucket image ≡ true
  unfolding matches
  matched_back = rw (functions_back, domain_back, buckets_back) (alike_all _ _ g.buckets size_back)

  shares_back : (x : ℕ) → x < g.domain → share_in H bucket image x ≡ share_made H bucket g p x
  unfolding share_in made_share
  shares_back x inside =
      rw (party_back, functions_back, domain_back)
      (share_same H 64 p _ _ (functions bucket g) g.domain x
      (λ k few. records_back _ (low g.keys g.buckets k x facts.some_buckets)))

  -- ---- no refusal

  cell_back : (x room : ℕ) → x < g.domain → g.buckets ≤ room → evaluate_at_number bucket image x room ≡ 0
  unfolding evaluate_at_number
  cell_back x room inside fits =
      first_miss _ _ (ap not ok_back) ∙ first_miss _ _ (lt-leb (domain_in image) x (omega (arith, domain_back)))
      ∙ first_miss _ _ (le-ltb room (buckets_in image) (omega (arith, buckets_back)))
      ∙ first_miss _ _ (ap not matched_back) ∙ first-none

  whole_back : (room out : ℕ) → 6 * g.domain + 2 * g.buckets ≤ room → g.domain ≤ out
      → evaluate_domain_number bucket image room out ≡ 0
  unfolding evaluate_domain_number
  whole_back room out fits there =
      first_miss _ _ (ap not ok_back) ∙ first_miss _ _ (le-ltb room (domain_room image)
      (omega (arith, domain_back, buckets_back)))
      ∙ first_miss _ _ (le-ltb out (domain_in image) (omega (arith, domain_back))) ∙ first_miss _ _ (ap not matched_back)
      ∙ first-none

  adds_back : (room : ℕ) → 6 * g.domain + 2 * g.buckets ≤ room → add_to_number bucket image g.domain room ≡ 0
  unfolding add_to_number
  adds_back room fits =
      first_miss _ _ (ap not ok_back) ∙ first_miss _ _ (ap not (eq-eqb _ _ (sym domain_back)))
      ∙ first_miss _ _ (le-ltb room (domain_room image) (omega (arith, domain_back, buckets_back)))
      ∙ first_miss _ _ (ap not matched_back) ∙ first-none

  read_back : ReadBack H bucket g p
  unfolding image
  read_back = record {
    long = long_back;
    ok = ok_back;
    side = party_back;
    domain = domain_back;
    buckets = buckets_back;
    count = count_back;
    keys = keys_back;
    records = records_back;
    matched = matched_back;
    cell = cell_back;
    whole = whole_back;
    adds = adds_back;
    shares = shares_back;
  }

pub made_keys_read : MadeKeysRead
made_keys_read = read_back
