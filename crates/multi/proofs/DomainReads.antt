-- Laws of reading all cells, with the shares of all buckets in scratch.
--     starts       domain-starts, with_starts-part, with_starts-long: the starts and sizes that were counted; domain-compared
--     shares       with_shares-none, with_shares-all, with_shares_by: what is laid in scratch
--     the number   found-one, found_none, found_match, found_differ: what it says of the sizes
--     behind       length-with_shares, zeroed-with_shares: what is zeroed does not remember it; gathered-shares: the sums that are
--                  gathered are the shares
-- Assumes nothing.
use mathlib.Core.Path.{◌≡◌, refl, sym, ap, ap₂, ◌∙◌}
use mathlib.Core.Bool.{Bool, true, false, cond}
use mathlib.Core.List.{List}
use Prim.Native.Nat.{ℕ, ◌+◌, ◌-◌, ◌≤◌, ◌<◌}
use native.Mathlib.Omega.{arith}
use lib.ListN.{length, take, drop, get_or}
use Rattle.words.specs.declared.Word.{Word}
use Rattle.words.specs.Bytes.{put}
use Rattle.words.specs.Cells.{tab, zeroed}
use Rattle.words.specs.Refusals.{Mismatch}
use Rattle.words.proofs.CellLaws.{length-tab}
use Rattle.words.proofs.ByteLaws.{length-put}
use Rattle.cipher.specs.declared.TreeHash.{TreeHash}
use Rattle.cipher.specs.TreeHash.{fixed, hash_by, tree_hash}
use Rattle.placement.specs.Buckets.{size_of, start_of}
use Rattle.placement.specs.Passes.{gathered}
use Rattle.placement.specs.Calls.{counting, starting}
use Rattle.multi.specs.Image.{buckets_in, domain_in, bucket_size, multi_ok}
use Rattle.multi.specs.Calls.{side_in, alike, domain_room}
use Rattle.multi.specs.Reading.{matches_by, found, share_by, with_starts, spread_out, with_shares}
use Rattle.multi.proofs.ImageLaws.{well_formed}
use Rattle.multi.proofs.CellReads.{compared}
use Rattle.multi.proofs.ReadLaws.{zeroed_write, second-part, starts_done}
use Rattle.multi.proofs.ExpandLaws.{length-with_starts, zeroed-with_starts, sums_whole, gathered_is}

-- ---- starts and sizes; `hb B` are the bucket functions for B buckets

pub domain-starts : (hb : ℕ → ℕ → ℕ → ℕ) (l : List ℕ) → multi_ok l ≡ true → (D B n : ℕ) (s m : List ℕ) → D ≡ domain_in l
    → B ≡ buckets_in l
    → domain_room l ≤ length s → counting n m ≡ starting (hb B) D B s
    → (n ≡ 0) × (m ≡ with_starts (hb (buckets_in l)) l s)
unfolding with_starts
domain-starts hb l ok D B n s m d b fits e =
    let q = well_formed l ok in
    starts_done (hb (buckets_in l)) (domain_in l) (buckets_in l) q.some_cells q.few_cells q.some_buckets q.few_buckets
    s n m (omega arith) (rw (d, b) at e)

-- the sizes stand behind the starts
pub with_starts-part : (h : ℕ → ℕ → ℕ) (l s m : List ℕ) (n : ℕ) → n ≡ buckets_in l → m ≡ with_starts h l s
    → take (n + n - n) (drop n m) ≡ tab (size_of h (domain_in l)) (buckets_in l)
unfolding with_starts
with_starts-part h l s m n b e =
    ap (λ (w : List ℕ). take (n + n - n) (drop n w)) e
    ∙ second-part n (n + n) s (tab (start_of h (domain_in l)) (buckets_in l)) (tab (size_of h (domain_in l)) (buckets_in l)) refl
    (length-tab _ _ ∙ sym b) (length-tab _ _ ∙ sym b)

pub with_starts-long : (h : ℕ → ℕ → ℕ) (l s m : List ℕ) (n : ℕ) → n ≡ buckets_in l → m ≡ with_starts h l s
    → length (take (n + n - n) (drop n m)) ≡ n
with_starts-long h l s m n b e = ap length (with_starts-part h l s m n b e) ∙ length-tab _ (buckets_in l) ∙ sym b

-- those sizes, held against the image's
pub domain-compared : (h : ℕ → ℕ → ℕ) (l s m : List ℕ) (n : ℕ) (t : Bool) → n ≡ buckets_in l → m ≡ with_starts h l s
    → t ≡ alike (bucket_size l) (λ c. get_or (take (n + n - n) (drop n m)) c 0) (length (take (n + n - n) (drop n m)))
    → t ≡ matches_by h l
domain-compared h l s m n t b e same = same ∙ compared h l _ (with_starts-part h l s m n b e)

-- ---- what is laid in scratch

module _ (H : Word → Word) (h : ℕ → ℕ → ℕ) (l s : List ℕ) where
  pub with_shares-none : matches_by h l ≡ false → with_shares H h l s ≡ with_starts h l s
  unfolding with_shares
  with_shares-none other = rw other

  pub with_shares-all : matches_by h l ≡ true → with_shares H h l s ≡ spread_out H (side_in l) l (buckets_in l) (with_starts h l s)
  unfolding with_shares
  with_shares-all same = rw same

-- by a value of the tree hash
pub with_shares_by : (t : TreeHash) (h : ℕ → ℕ → ℕ) (l s m w : List ℕ) → t ≡ fixed → matches_by h l ≡ true → w ≡ with_starts h l s
    → m ≡ spread_out (hash_by t) (side_in l) l (buckets_in l) w → m ≡ with_shares tree_hash h l s
with_shares_by t h l s m w made same c e =
    e ∙ ap₂ (λ (k : TreeHash) (v : List ℕ). spread_out (hash_by k) (side_in l) l (buckets_in l) v) made c
    ∙ sym (with_shares-all tree_hash h l s same)

-- ---- what the number says

pub found-one : (h : ℕ → ℕ → ℕ) (l : List ℕ) → matches_by h l ≡ true → 0 ≡ found h l
found-one h l e = rw e

pub found_none : (h : ℕ → ℕ → ℕ) (l : List ℕ) → matches_by h l ≡ false → Mismatch ≡ found h l
found_none h l e = rw e

-- a number of 0 says that the sizes match
pub found_match : (h : ℕ → ℕ → ℕ) (l : List ℕ) (r : ℕ) → r ≡ found h l → r ≡ 0 → matches_by h l ≡ true
found_match h l r e z = go (matches_by h l) refl
  where
    go : (t : Bool) → matches_by h l ≡ t → t ≡ true
    go true q = refl
    go false q =
        let bad : Mismatch ≡ 0 =
        sym (e ∙ ap (λ (t : Bool). cond t 0 Mismatch) q) ∙ z in let no_way : ⊥ = omega arith in absurd no_way

pub found_differ : (h : ℕ → ℕ → ℕ) (l : List ℕ) (r : ℕ) → r ≡ found h l → (r ≡ 0 → ⊥) → matches_by h l ≡ false
found_differ h l r e some = go (matches_by h l) refl
  where
    go : (t : Bool) → matches_by h l ≡ t → t ≡ false
    go true q = absurd (some (e ∙ ap (λ (t : Bool). cond t 0 Mismatch) q))
    go false q = refl

-- ---- zeroed again, and gathered

module _ (h : ℕ → ℕ → ℕ) (l s : List ℕ) (fits : domain_room l ≤ length s) (H : Word → Word)
    (low : (k x : ℕ) → k < 3 → x < domain_in l → h k x < buckets_in l) (same : matches_by h l ≡ true) where
  pub length-with_shares : length (with_shares H h l s) ≡ length s
  unfolding spread_out
  length-with_shares =
      let long = length-with_starts h l s fits in
      ap length (with_shares-all H h l s same)
      ∙ length-put (with_starts h l s) _ _ (omega (arith, sums_whole l h low same H (side_in l))) ∙ long

  -- counters, entries, starts and sizes
  pub zeroed-with_shares : zeroed (domain_room l) (put (with_shares H h l s) (buckets_in l) (tab (size_of h (domain_in l)) (buckets_in l))) ≡ zeroed (domain_room l) s
  unfolding spread_out
  zeroed-with_shares =
      let sizes = length-tab (size_of h (domain_in l)) (buckets_in l) in
      let room = domain_room l in
      let long = length-with_starts h l s fits in
      zeroed_write room (with_shares H h l s) (buckets_in l) _ (omega arith) (omega (arith, length-with_shares))
      ∙ ap (zeroed room) (with_shares-all H h l s same)
      ∙ zeroed_write room (with_starts h l s) (buckets_in l + buckets_in l) _ (omega (arith, sums_whole l h low same H (side_in l)))
      (omega arith)
      ∙ zeroed-with_starts h l s fits

  -- the sums that are gathered are the shares
  pub gathered-shares : (x : ℕ) → x < domain_in l
      → gathered h (domain_in l) (buckets_in l) (with_shares H h l s) x ≡ share_by H h l x
  gathered-shares x inside =
      ap (λ (w : List ℕ). gathered h (domain_in l) (buckets_in l) w x) (with_shares-all H h l s same)
      ∙ gathered_is l h low same s fits H x inside
