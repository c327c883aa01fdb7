-- What the inner functions of reading find, and what they leave in scratch. l is an image, h the bucket functions that its hash
-- keys give, s scratch as it came.
--     Here l b y                  bucket b has a record, and y is an index of it
--     matches_by, found            whether every record has its bucket's size; 0 or Mismatch
--     share_by H h l x             the share of cell x
--     with_sizes h l s             scratch with the sizes of all buckets in front
--     cell_found H h l x           what one cell answers, with the sizes in scratch
--     with_starts h l s            scratch with the start of each bucket in front, and behind that its size
--     bucket_shares H l c          the shares of bucket c's record, two elements each
--     Ready l s                   the starts stand in front, and there is room behind 2B elements for all entries
--     with_shares H h l s          what is left in scratch for the sums: behind starts and sizes the shares of all buckets
--     Sweepable adding l s o      what a pass over all cells needs: the shares in front of the cells o, or added to them
--     Gathers adding h l w o ..     what a pass over the cells leaves of scratch and of the cells
--     cells_filled adding H h l o  where the sizes match, the cells o with the shares of all cells in front, or added
-- Assumes nothing.
use Rattle.std.specs.Prelude.{◌≡◌, Bool, true, cond, List, ◌++◌, ℕ, ◌+◌, ◌*◌, ◌≤◌, ◌<◌, length, get_or}
use Rattle.words.specs.Limits.{largest_single, most_buckets}
use Rattle.words.specs.declared.Word.{Word}
use Rattle.words.specs.Bytes.{put}
use Rattle.words.specs.Cells.{tab, added, sum_to}
use Rattle.words.specs.Refusals.{Mismatch}
use Rattle.single.specs.Rules.{share}
use Rattle.single.specs.Nodes.{spread}
use Rattle.single.specs.Record.{record_ok}
use Rattle.placement.specs.Buckets.{size_of, start_of}
use Rattle.placement.specs.Passes.{gathered}
use Rattle.multi.specs.Rules.{multi_share}
use Rattle.multi.specs.Image.{buckets_in, domain_in, bucket_part, bucket_record, bucket_size, records_bytes, multi_ok}
use Rattle.multi.specs.Calls.{Share, side_in, alike, domain_room}

pub record Here (l : List ℕ) (b y : ℕ) : Type 0 where
  pub few : b ≤ most_buckets
  pub ok : record_ok largest_single (bucket_part l b) ≡ true
  pub inside : y < bucket_size l b

abbrev pub matches_by : (ℕ → ℕ → ℕ) → List ℕ → Bool
matches_by h l = alike (bucket_size l) (size_of h (domain_in l)) (buckets_in l)

abbrev pub found : (ℕ → ℕ → ℕ) → List ℕ → ℕ
found h l = cond (matches_by h l) 0 Mismatch

abbrev pub share_by : (Word → Word) → (ℕ → ℕ → ℕ) → List ℕ → ℕ → ℕ
share_by H h l = multi_share H 64 (side_in l) (bucket_record l) h (domain_in l)

-- ---- one cell

unfoldable pub with_sizes : (ℕ → ℕ → ℕ) → List ℕ → List ℕ → List ℕ
with_sizes h l s = put s 0 (tab (size_of h (domain_in l)) (buckets_in l))

unfoldable pub cell_found : (Word → Word) → (ℕ → ℕ → ℕ) → List ℕ → ℕ → Share
cell_found H h l x = record { number = found h l; share = cond (matches_by h l) (share_by H h l x) 0 }

-- ---- all cells

unfoldable pub with_starts : (ℕ → ℕ → ℕ) → List ℕ → List ℕ → List ℕ
with_starts h l s = put s 0 (tab (start_of h (domain_in l)) (buckets_in l) ++ tab (size_of h (domain_in l)) (buckets_in l))

unfoldable pub bucket_shares : (Word → Word) → Bool → List ℕ → ℕ → List ℕ
bucket_shares H p l c = spread (share H 64 p (bucket_record l c)) (bucket_size l c)

pub record Ready (l s : List ℕ) : Type 0 where
  pub starts : (c : ℕ) → c < buckets_in l → get_or s c 0 ≡ sum_to c (bucket_size l)
  pub room : buckets_in l + buckets_in l + 2 * sum_to (buckets_in l) (bucket_size l) ≤ length s

-- the parts of the first n buckets, one behind the other
unfoldable pub spread_out : (Word → Word) → Bool → List ℕ → ℕ → List ℕ → List ℕ
spread_out H p l n s = put s (buckets_in l + buckets_in l) (records_bytes (bucket_shares H p l) n)

unfoldable pub with_shares : (Word → Word) → (ℕ → ℕ → ℕ) → List ℕ → List ℕ → List ℕ
with_shares H h l s = cond (matches_by h l) (spread_out H (side_in l) l (buckets_in l) (with_starts h l s)) (with_starts h l s)

-- an image that passes, room in scratch, and a cell for each share; just so many where they are added
pub record Sweepable (adding : Bool) (l s o : List ℕ) : Type 0 where
  pub ok : multi_ok l ≡ true
  pub room : domain_room l ≤ length s
  pub enough : domain_in l ≤ length o
  pub exact : adding ≡ true → length o ≡ domain_in l

-- numbers f, D of them, in front of o, or added to the cells of o
abbrev pub filled_by : Bool → (ℕ → ℕ) → ℕ → List ℕ → List ℕ
filled_by adding f D o = cond adding (added 64 f o) (put o 0 (tab f D))

-- what a pass over the cells leaves of scratch w and of cells o: the sizes behind the starts, and the sums
pub record Gathers (adding : Bool) (h : ℕ → ℕ → ℕ) (l w o w' o' : List ℕ) : Type 0 where
  pub sizes : w' ≡ put w (buckets_in l) (tab (size_of h (domain_in l)) (buckets_in l))
  pub sums : o' ≡ filled_by adding (gathered h (domain_in l) (buckets_in l) w) (domain_in l) o

unfoldable pub cells_filled : Bool → (Word → Word) → (ℕ → ℕ → ℕ) → List ℕ → List ℕ → List ℕ
cells_filled adding H h l o = cond (matches_by h l) (filled_by adding (share_by H h l) (domain_in l) o) o
