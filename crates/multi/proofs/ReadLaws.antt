-- Laws of reading, one cell or all.
--     slices      drop_write, zeroed_write: what is zeroed does not remember a write; second-part
--     passes      starts_done, spots_done, gather_done, gather_into_done: what placement's passes leave where nothing is
--                 refused
--     functions   functions_in_lem: the ciphers made of the image's hash keys; functions-below: their buckets are below B
-- Assumes nothing.
use mathlib.Core.Path.{◌≡◌, sym, ap, ◌∙◌}
use mathlib.Core.Bool.{Bool, true, not}
use mathlib.Core.List.{List, [], ◌∷◌, ◌++◌, append_assoc}
use Prim.Native.Nat.{ℕ, ◌+◌, ◌-◌, ◌*◌, ◌≤◌, ◌<◌}
use native.Mathlib.Nat.{zero-add}
use native.Mathlib.Omega.{arith}
use lib.Dec.{eqb, leb, ltb}
use lib.ListN.{length, take, drop, replicate, length-append, length-replicate}
use lib.Seq.{length-take-le, drop-append-add, drop-drop, take_at, drop_at}
use borrow.Author.Tests.{le-ltb, lt-leb, eq-eqb}
use Rattle.words.specs.Limits.{largest_multi, most_buckets}
use Rattle.words.specs.Bytes.{put}
use Rattle.words.specs.Cells.{tab, added, zeroed}
use Rattle.words.specs.Refusals.{Room, Index, Table, first}
use Rattle.words.proofs.ByteLaws.{length-put}
use Rattle.words.proofs.CellLaws.{zeroed_le}
use Rattle.words.proofs.TestLaws.{first-none, first_miss, succeeded}
use Rattle.bucket_hash.specs.declared.Hashes.{Hashes}
use Rattle.bucket_hash.specs.BucketHash.{bucket_of, hashes_of, bucket_by}
use Rattle.bucket_hash.proofs.HashesKeyed.{hashes_keyed}
use Rattle.placement.specs.Answers.{Spots}
use Rattle.placement.specs.Buckets.{size_of, start_of}
use Rattle.placement.specs.Passes.{gathered}
use Rattle.placement.specs.Calls.{pass_rows, pass_number, Counting, counting, starting, Spotting, spotted, spots_of, spotting, Gathering, gathering, gathering_out, gathering_into}
use Rattle.bucket_hash.proofs.BucketsBelow.{bucket_by_lt}
use Rattle.multi.specs.Image.{buckets_in, domain_in, keys_in, multi_ok}
use Rattle.multi.specs.Calls.{functions_in}
use Rattle.multi.proofs.ImageLaws.{well_formed}

-- ---- slices

-- what stands behind a write
pub drop_write : (n : ℕ) (l : List ℕ) (a : ℕ) (bs : List ℕ) → a + length bs ≤ n → n ≤ length l → drop n (put l a bs) ≡ drop n l
unfolding put
drop_write n l a bs inside fits =
    let k = a + length bs in
    let long : length (take a l ++ bs) ≡ k =
    length-append (take a l) bs ∙ ap (λ (m : ℕ). m + length bs) (length-take-le a l (omega arith)) in
    let at : n ≡ length (take a l ++ bs) + (n - k) = omega arith in
    let back : k + (n - k) ≡ n = omega arith in
    ap (λ (m : ℕ). drop m (take a l ++ bs ++ drop k l)) at
    ∙ drop-append-add (take a l ++ bs) (drop k l) (n - k)
    ∙ drop-drop (n - k) k l
    ∙ ap (λ (m : ℕ). drop m l) back

pub zeroed_write : (n : ℕ) (l : List ℕ) (a : ℕ) (bs : List ℕ) → a + length bs ≤ n → n ≤ length l
    → zeroed n (put l a bs) ≡ zeroed n l
zeroed_write n l a bs inside fits =
    let long = length-put l a bs (omega arith) in
    zeroed_le n (put l a bs) (omega arith) ∙ go ∙ sym (zeroed_le n l fits)
  where
    go : put (put l a bs) 0 (replicate n 0) ≡ put l 0 (replicate n 0)
    go =
        unfold put in
        ap (λ (r : List ℕ). replicate n 0 ++ r)
        (ap (λ (m : ℕ). drop m (put l a bs)) (zero-add (length (replicate n 0)) ∙ length-replicate n 0)
        ∙ drop_write n l a bs inside fits
        ∙ sym (ap (λ (m : ℕ). drop m l) (zero-add (length (replicate n 0)) ∙ length-replicate n 0)))

-- the second of two lists that stand in front, each of n elements
pub second-part : (n e : ℕ) (s xs ys : List ℕ) → e ≡ n + n → length xs ≡ n → length ys ≡ n
    → take (e - n) (drop n (put s 0 (xs ++ ys))) ≡ ys
unfolding put
second-part n e s xs ys h lx ly =
    let behind = drop (0 + length (xs ++ ys)) s in
    ap (take (e - n)) (ap (drop n) (append_assoc xs ys behind) ∙ drop_at xs (ys ++ behind) n lx)
    ∙ take_at ys behind (e - n) (omega arith)

-- ---- placement's passes, where nothing is refused

module _ (h : ℕ → ℕ → ℕ) (D B : ℕ) (some_cells : 1 ≤ D) (few_cells : D ≤ largest_multi) (some_buckets : 1 ≤ B)
    (few_buckets : B ≤ most_buckets) (l : List ℕ) where
  passes : (need : ℕ) (others : List (Bool × ℕ)) → need ≤ length l → first others ≡ 0
      → pass_number D B (length l) need others ≡ 0
  unfolding pass_number pass_rows
  passes need others fits none =
      first_miss _ _ (le-ltb D 1 some_cells) ∙ first_miss _ _ (le-ltb largest_multi D few_cells)
      ∙ first_miss _ _ (le-ltb B 1 some_buckets)
      ∙ first_miss _ _ (le-ltb most_buckets B few_buckets) ∙ first_miss _ _ (le-ltb (length l) need fits) ∙ none

  pub starts_done : (n : ℕ) (m : List ℕ) → B + B ≤ length l → counting n m ≡ starting h D B l
      → (n ≡ 0) × (m ≡ put l 0 (tab (start_of h D) B ++ tab (size_of h D) B))
  unfolding starting
  starts_done n m fits e =
      let all = e ∙ succeeded _ _ _ (passes (B + B) [] fits first-none) in
      (ap (λ (r : Counting). r.number) all, ap (λ (r : Counting). r.work) all)

  pub spots_done : (x : ℕ) (r : Spots) (m : List ℕ) → x < D → B ≤ length l → spotted r m ≡ spotting h D B x l
      → (r ≡ spots_of h D x) × (m ≡ put l 0 (tab (size_of h D) B))
  unfolding spotting
  spots_done x r m inside fits e =
      let all = e ∙ succeeded _ _ _ (passes B ((leb D x, Index) ∷ []) fits (first_miss _ _ (lt-leb D x inside) ∙ first-none)) in
      (ap (λ (q : Spotting). q.answer) all, ap (λ (q : Spotting). q.work) all)

  pub gather_done : (n : ℕ) (m o o' : List ℕ) → B + B + 6 * D ≤ length l → D ≤ length o
      → gathering n m o' ≡ gathering_out h D B l o
      → (n ≡ 0) × (m ≡ put l B (tab (size_of h D) B)) × (o' ≡ put o 0 (tab (gathered h D B l) D))
  unfolding gathering_out
  gather_done n m o o' fits room e =
      let all =
      e ∙ succeeded _ _ _ (passes (B + B + 6 * D) ((ltb (length o) D, Room) ∷ []) fits
      (first_miss _ _ (le-ltb (length o) D room) ∙ first-none)) in
      (ap (λ (q : Gathering). q.number) all, ap (λ (q : Gathering). q.work) all, ap (λ (q : Gathering). q.out) all)

  pub gather_into_done : (n : ℕ) (m t t' : List ℕ) → B + B + 6 * D ≤ length l → length t ≡ D
      → gathering n m t' ≡ gathering_into h D B l t
      → (n ≡ 0) × (m ≡ put l B (tab (size_of h D) B)) × (t' ≡ added 64 (gathered h D B l) t)
  unfolding gathering_into
  gather_into_done n m t t' fits same e =
      let all =
      e ∙ succeeded _ _ _ (passes (B + B + 6 * D) ((not (eqb (length t) D), Table) ∷ []) fits
      (first_miss _ _ (ap not (eq-eqb (length t) D same)) ∙ first-none)) in
      (ap (λ (q : Gathering). q.number) all, ap (λ (q : Gathering). q.work) all, ap (λ (q : Gathering). q.out) all)

-- ---- the image's bucket functions

pub functions_in_lem : (l : List ℕ) (t : Hashes) (ks : List ℕ) → t ≡ hashes_of ks → ks ≡ keys_in l
    → bucket_by t (buckets_in l) ≡ functions_in bucket_of l
functions_in_lem l t ks made keys =
    ap (λ (q : Hashes). bucket_by q (buckets_in l)) (made ∙ ap hashes_of keys)
    ∙ ap (λ (f : ℕ → ℕ → ℕ → ℕ). f (buckets_in l)) (hashes_keyed (keys_in l))

pub functions-below : (t : Hashes) (l : List ℕ) → multi_ok l ≡ true → (k x : ℕ) → k < 3 → x < domain_in l
    → bucket_by t (buckets_in l) k x < buckets_in l
functions-below t l ok k x few inside = bucket_by_lt t (buckets_in l) k x (well_formed l ok).some_buckets
