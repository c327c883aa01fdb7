-- The rules of the multi key (document 01, "Rules of buckets and placement"), over any tree hash H, any width w of values and
-- any bucket functions h (`h k x` is the bucket of cell x by function k) for a domain of D cells. A key holds a record for each
-- bucket, `rec b` for bucket b; a record of size 0 stands for no record, single's `no_record`.
--     share_over w b c d u v z              u, v and z are the shares of buckets b, c and d: the sum over the distinct ones
--     cell_share H w p rec b c d x y z      a cell's share, from its three buckets and its three positions there
--     multi_share H w p rec h D x           the share of cell x, with its own buckets and positions
--     pairs ws                             how many random words a list of u64 has; `word_no` of words is word i
--     words_for S                           how many words a record of size S uses
--     used_before h D b                     how many the buckets before b use; words_used h D B: all B buckets
--     made_record H w h D pts vs t ws p b   party p's record of bucket b: values vs at points pts, placed by the table t
--     made_share H w h D pts vs t ws p x    the share of cell x that these records give
-- Assumes nothing.
use Rattle.std.specs.Prelude.{Bool, cond, List, ℕ, ◌+◌, ◌/◌, ◌%◌, ◌^◌, min, eqb, length}
use Rattle.words.specs.declared.Word.{Word}
use Rattle.words.specs.Cells.{sum_to, word_no}
use Rattle.single.specs.Rules.{Record, made, share}
pub use Rattle.single.specs.Record.{no_record}
use Rattle.placement.specs.Buckets.{size_of, pos_of}
use Rattle.placement.specs.Shares.{each_once, alpha_of, beta_of}

-- ---- shares

-- each bucket once, and modulo 2 ^ w
unfoldable pub share_over : ℕ → ℕ → ℕ → ℕ → ℕ → ℕ → ℕ → ℕ
share_over w b c d u v z = each_once b c d u v z % 2 ^ w

module _ (H : Word → Word) (w : ℕ) (p : Bool) (rec : ℕ → Record) where
  -- positions x, y and z in buckets b, c and d
  unfoldable pub cell_share : ℕ → ℕ → ℕ → ℕ → ℕ → ℕ → ℕ
  cell_share b c d x y z = share_over w b c d (share H w p (rec b) x) (share H w p (rec c) y) (share H w p (rec d) z)

  unfoldable pub multi_share : (ℕ → ℕ → ℕ) → ℕ → ℕ → ℕ
  multi_share h D x = cell_share (h 0 x) (h 1 x) (h 2 x) (pos_of h D (h 0 x) x) (pos_of h D (h 1 x) x) (pos_of h D (h 2 x) x)

-- ---- random words

-- two u64, low half first
-- an odd last element is ignored
abbrev pub pairs : List ℕ → ℕ
pairs ws = length ws / 2

-- none for an empty bucket, one for one entry, else two
abbrev pub words_for : ℕ → ℕ
words_for S = min S 2

-- words are used in bucket order
module _ (h : ℕ → ℕ → ℕ) (D : ℕ) where
  unfoldable pub used_before : ℕ → ℕ
  used_before b = sum_to b (λ c. words_for (size_of h D c))

  abbrev pub words_used : ℕ → ℕ
  words_used B = used_before B

-- ---- records

-- An empty bucket has none. A bucket that holds a point has a key at the point's position with its value, any other one a key
-- at position 0 with value 0.
unfoldable pub made_record : (Word → Word) → ℕ → (ℕ → ℕ → ℕ) → ℕ → List ℕ → List ℕ → List ℕ → List ℕ → Bool → ℕ → Record
made_record H w h D pts vs t ws p b =
    let S = size_of h D b in
    let u = used_before h D b in
    cond (eqb S 0) no_record (made H S (alpha_of h D pts t b) (word_no ws u) (word_no ws (u + 1)) w (beta_of vs t b) p)

unfoldable pub made_share : (Word → Word) → ℕ → (ℕ → ℕ → ℕ) → ℕ → List ℕ → List ℕ → List ℕ → List ℕ → Bool → ℕ → ℕ
made_share H w h D pts vs t ws p x = multi_share H w p (made_record H w h D pts vs t ws p) h D x
