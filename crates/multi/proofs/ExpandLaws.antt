-- Laws of the shares of all buckets in scratch, behind starts and sizes.
--     the loop     Expanding, expanding_none, expanding_all, expanding_room, expanding_start, expanding_next
--     starts       length-with_starts, zeroed-with_starts: starts and sizes in front
--     matching     sums_whole; ready_of: there is room for all shares; gathered_is: what is gathered is the share of the rules
-- Assumes nothing.
use mathlib.Core.Path.{◌≡◌, refl, sym, ap, ap₂, ◌∙◌}
use mathlib.Core.Bool.{Bool, true}
use mathlib.Core.Logic.{inl}
use mathlib.Core.List.{List, ◌++◌}
use Prim.Native.Nat.{ℕ, ◌+◌, ◌*◌, ◌≤◌, ◌<◌}
use native.Mathlib.Omega.{arith}
use lib.ListN.{length, get_or, length-append, get_or-append}
use Rattle.words.specs.declared.Word.{Word}
use Rattle.words.specs.Bytes.{put}
use Rattle.words.specs.Cells.{tab, zeroed, sum_to}
use Rattle.words.proofs.ByteLaws.{put_nil, put_next, length-put}
use Rattle.words.proofs.CellLaws.{length-tab, get_or-tab, sum_to_next, sum_same, sum_mono}
use Rattle.single.specs.Rules.{share}
use Rattle.placement.specs.Buckets.{size_of, start_of}
use Rattle.placement.specs.Passes.{gathered}
use Rattle.placement.proofs.BucketLaws.{sizes_sum}
use Rattle.placement.proofs.PutLaws.{put_front, put_other}
use Rattle.multi.specs.Rules.{cell_share, multi_share}
use Rattle.multi.specs.Image.{buckets_in, domain_in, bucket_record, bucket_size, records_bytes}
use Rattle.multi.specs.Calls.{side_in, domain_room}
use Rattle.multi.specs.Reading.{matches_by, with_starts, bucket_shares, Ready, spread_out, share_by}
use Rattle.multi.proofs.EntryLaws.{parts_next, length_parts, gathered-share}
use Rattle.multi.proofs.ReadLaws.{zeroed_write}
use Rattle.multi.proofs.RecordReads.{length-shares, share-at, size_is}

-- ---- the loop: the parts of the first buckets are in their places

module _ (H : Word → Word) (p : Bool) (l s : List ℕ) where
  pub record Expanding (c : ℕ) (w : List ℕ) : Type 0 where
    pub at_most : c ≤ buckets_in l
    pub long : length w ≡ length s
    pub done : w ≡ spread_out H p l c s

  pub expanding_none : Expanding 0 s
  unfolding spread_out records_bytes
  expanding_none = record { at_most = omega arith; long = refl; done = sym (put_nil s _) }

  pub expanding_all : (c : ℕ) (w : List ℕ) → Expanding c w → buckets_in l ≤ c → w ≡ spread_out H p l (buckets_in l) s
  expanding_all c w q done = let e : c ≡ buckets_in l = omega (arith, q.at_most) in rw e at q.done

  -- the parts before bucket c end where it starts
  parts_long : (c : ℕ) → length (records_bytes (bucket_shares H p l) c) ≡ 2 * sum_to c (bucket_size l)
  parts_long c = length_parts (bucket_shares H p l) (bucket_size l) c (λ b below. length-shares H p l b) c (omega arith)

  module _ (ready : Ready l s) (c : ℕ) (below : c < buckets_in l) where
    -- bucket c's part has room
    pub expanding_room : buckets_in l + buckets_in l + 2 * sum_to c (bucket_size l) + 2 * bucket_size l c ≤ length s
    expanding_room =
        omega (arith, ready.room, sum_to_next c (bucket_size l), sum_mono (bucket_size l) (c + 1) (buckets_in l) (omega arith))

    -- and its start still stands in front
    pub expanding_start : (w : List ℕ) → Expanding c w → get_or w c 0 ≡ sum_to c (bucket_size l)
    unfolding spread_out
    expanding_start w q =
        ap (λ (r : List ℕ). get_or r c 0) q.done
        ∙ put_other s (buckets_in l + buckets_in l) (records_bytes (bucket_shares H p l) c) c
        (omega (arith, parts_long c, expanding_room)) (inl (omega arith))
        ∙ ready.starts c below

    pub expanding_next : (from : ℕ) (w w' : List ℕ) → Expanding c w
        → from ≡ buckets_in l + buckets_in l + 2 * sum_to c (bucket_size l)
        → w' ≡ put w from (bucket_shares H p l c) → Expanding (c + 1) w'
    unfolding spread_out
    expanding_next from w w' q at e =
        let before = parts_long c in
        let this = length-shares H p l c in
        let room = expanding_room in
        record {
          at_most = omega arith;
          long = ap length e ∙ length-put w from (bucket_shares H p l c) (omega (arith, q.long)) ∙ q.long;
          done =
              put_next s (buckets_in l + buckets_in l) from (records_bytes (bucket_shares H p l) c) (bucket_shares H p l c)
              q.done e (omega arith) (omega arith)
              ∙ ap (put s (buckets_in l + buckets_in l)) (sym (parts_next (bucket_shares H p l) (bucket_size l) c));
        }

-- ---- starts and sizes in front

module _ (h : ℕ → ℕ → ℕ) (l s : List ℕ) (fits : domain_room l ≤ length s) where
  starts_sizes : List ℕ
  starts_sizes = tab (start_of h (domain_in l)) (buckets_in l) ++ tab (size_of h (domain_in l)) (buckets_in l)

  length_starts_sizes : length starts_sizes ≡ buckets_in l + buckets_in l
  unfolding starts_sizes
  length_starts_sizes = length-append (tab (start_of h (domain_in l)) (buckets_in l)) _ ∙ ap₂ ◌+◌ (length-tab _ _) (length-tab _ _)

  pub length-with_starts : length (with_starts h l s) ≡ length s
  unfolding with_starts starts_sizes
  length-with_starts = length-put s 0 starts_sizes (omega (arith, length_starts_sizes))

  pub zeroed-with_starts : zeroed (domain_room l) (with_starts h l s) ≡ zeroed (domain_room l) s
  unfolding with_starts starts_sizes
  zeroed-with_starts = zeroed_write (domain_room l) s 0 starts_sizes (omega (arith, length_starts_sizes)) fits

  start-with_starts : (c : ℕ) → c < buckets_in l → get_or (with_starts h l s) c 0 ≡ start_of h (domain_in l) c
  unfolding with_starts starts_sizes
  start-with_starts c below =
      let long = length-tab (start_of h (domain_in l)) (buckets_in l) in
      put_front s starts_sizes c (omega (arith, length_starts_sizes))
      ∙ get_or-append (tab (start_of h (domain_in l)) (buckets_in l)) _ 0 c (omega arith)
      ∙ get_or-tab (start_of h (domain_in l)) (buckets_in l) c below

-- ---- sizes that match

module _ (l : List ℕ) (h : ℕ → ℕ → ℕ) (low : (k x : ℕ) → k < 3 → x < domain_in l → h k x < buckets_in l)
    (same : matches_by h l ≡ true) where
  part-size : (H : Word → Word) (p : Bool) (c : ℕ) → c < buckets_in l
      → length (bucket_shares H p l c) ≡ 2 * size_of h (domain_in l) c
  part-size H p c below = length-shares H p l c ∙ ap (λ (n : ℕ). 2 * n) (size_is l h same c below)

  -- the parts of all buckets take up 6D elements
  pub sums_whole : (H : Word → Word) (p : Bool) → length (records_bytes (bucket_shares H p l) (buckets_in l)) ≡ 6 * domain_in l
  sums_whole H p =
      length_parts (bucket_shares H p l) (size_of h (domain_in l)) (buckets_in l) (part-size H p) (buckets_in l) (omega arith)
      ∙ omega (arith, sizes_sum h (buckets_in l) (domain_in l) low)

  sums_same : (c : ℕ) → c ≤ buckets_in l → sum_to c (bucket_size l) ≡ start_of h (domain_in l) c
  unfolding start_of
  sums_same c most = sum_same c (bucket_size l) (size_of h (domain_in l)) (λ b below. size_is l h same b (omega arith))

  module _ (s : List ℕ) (fits : domain_room l ≤ length s) where
    pub ready_of : Ready l (with_starts h l s)
    unfolding start_of
    ready_of = record {
      starts = λ c below. start-with_starts h l s fits c below ∙ sym (sums_same c (omega arith));
      room = omega (arith, length-with_starts h l s fits, sums_same (buckets_in l) (omega arith), sizes_sum h (buckets_in l) (domain_in l) low);
    }

    -- what is gathered of a cell is its share
    pub gathered_is : (H : Word → Word) (x : ℕ) → x < domain_in l
        → gathered h (domain_in l) (buckets_in l) (spread_out H (side_in l) l (buckets_in l) (with_starts h l s)) x ≡ share_by H h l x
    unfolding spread_out multi_share cell_share
    gathered_is H x inside =
        gathered-share h (domain_in l) (buckets_in l) low (with_starts h l s) (omega (arith, length-with_starts h l s fits))
        (start-with_starts h l s fits)
        (bucket_shares H (side_in l) l) (part-size H (side_in l)) (λ c y. share H 64 (side_in l) (bucket_record l c) y)
        (λ c y below small. share-at H (side_in l) l c y (omega (arith, size_is l h same c below))) x inside
