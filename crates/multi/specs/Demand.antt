-- Demand 3 for key images as bytes, single and multi mixed in one list, over the very functions that the calls' contracts cite,
-- and that it is no empty promise. Each claim is proved in the file of proofs/ that has its name. H is the tree hash, and
-- `bucket ks B k x` the bucket of cell x by function k among B buckets under the hash keys ks.
--     Image                 an image for one of the two adding calls
--     answer_of, share_of     the number that the adding call answers; the share of a cell that the key gives
--     AddingCounts          what the adding call leaves is what a run of calls counts with
--     Pair D                what a maker was given and did not refuse, for D cells
--     posted_by, image_of     the value that a pair posts at a cell; party p's image
--     PairsAddUp            demand 3 for lists of pairs of either kind
--     OwnPairsAddUp         the same of the library's own tree hash and bucket functions: nothing is left to assume
--     MadeIsTaken           a made image is taken where table and scratch fit, so that the runs which demand 3 speaks of are
--                           there
-- Assumes nothing.
use Rattle.std.specs.Prelude.{◌≡◌, Bool, List, map, ℕ, ◌+◌, ◌*◌, ◌≤◌, length}
use Rattle.words.specs.Limits.{most_buckets}
use Rattle.words.specs.declared.Word.{Word}
use Rattle.words.specs.Word.{On128}
use Rattle.words.specs.Bytes.{Halves}
use Rattle.cipher.specs.TreeHash.{tree_hash}
use Rattle.bucket_hash.specs.BucketHash.{bucket_of}
use Rattle.single.specs.Calls as one
use Rattle.single.specs.Rules as rule
use Rattle.single.specs.Tables.{Call, after, taken as taken_by, Demand3}
use Rattle.placement.specs.Shares.{posted}
use Rattle.multi.specs.Calls.{Given, image_made, add_to_number, add_to, share_in}
use Rattle.multi.specs.Promises.{Below, Accepted, calls}

-- the bytes of an image, given to the adding call of single keys or of multi keys
pub data Image : Type 0 where
  single_key : List ℕ → Image
  multi_key : List ℕ → Image

-- what the maker of a single key was given and did not refuse; the words are of u64, as the types have it
pub record AcceptedOne (S : ℕ) : Type 0 where
  pub α : ℕ
  pub β : ℕ
  pub words : List ℕ
  pub room0 : ℕ
  pub room1 : ℕ
  pub number : one.generate_number S α (length words) room0 room1 ≡ 0
  pub halves : Halves words

module _ (H : Word → Word) (bucket : List ℕ → ℕ → ℕ → ℕ → ℕ) where
  abbrev pub answer_of : Image → List ℕ → ℕ → ℕ
  answer_of (single_key l) t room = one.add_to_number l (length t) room
  answer_of (multi_key l) t room = add_to_number bucket l (length t) room

  abbrev pub share_of : Image → ℕ → ℕ
  share_of (single_key l) x = one.share_in H l x
  share_of (multi_key l) x = share_in H bucket l x

  -- an image and lent scratch, as a run counts them
  abbrev pub call_of : Image → List ℕ → Call Image
  call_of i s = record { image = i; room = length s }

  -- the contracts of the two adding calls are one step of a run
  pub record AddingCounts : Type 0 where
    pub one_number : (l s t : List ℕ) → (one.add_to H l s t).number ≡ answer_of (single_key l) t (length s)
    pub one_table : (l s t : List ℕ) → (one.add_to H l s t).cells ≡ after answer_of 64 share_of (call_of (single_key l) s) t
    pub many_number : (l s t : List ℕ) → (add_to H bucket l s t).number ≡ answer_of (multi_key l) t (length s)
    pub many_table : (l s t : List ℕ) → (add_to H bucket l s t).cells ≡ after answer_of 64 share_of (call_of (multi_key l) s) t

  -- ---- pairs that the two makers made

  pub data Pair (D : ℕ) : Type 0 where
    one_point : AcceptedOne D → Pair D
    many_points : (g : Given) → Accepted bucket g → g.domain ≡ D → Pair D

  abbrev pub posted_by : (D : ℕ) → Pair D → ℕ → ℕ
  posted_by D (one_point q) x = rule.point q.α q.β x
  posted_by D (many_points g a e) x = posted g.points g.values x

  abbrev pub image_of : (D : ℕ) → Bool → Pair D → Image
  image_of D p (one_point q) = single_key (one.image_made H D q.α q.β q.words p)
  image_of D p (many_points g a e) = multi_key (image_made H bucket g p)

  -- the scratch that suffices for adding either party's image: 2S, or 6D + 2B
  abbrev pub room_for : (D : ℕ) → Pair D → ℕ
  room_for D (one_point q) = 2 * D
  room_for D (many_points g a e) = 6 * D + 2 * g.buckets

-- for every tree hash on words of 128 bits, any functions into the buckets, and tables of any number of cells
abbrev pub PairsAddUp : Type 0
PairsAddUp = (H : Word → Word) → On128 H → (bucket : List ℕ → ℕ → ℕ → ℕ → ℕ) → Below bucket → (D : ℕ)
    → Demand3 (answer_of H bucket) 64 (share_of H bucket) (image_of H bucket D) (posted_by H bucket D) D

pub record MadeIsTaken : Type 0 where
  pub taken : (H : Word → Word) → On128 H → (bucket : List ℕ → ℕ → ℕ → ℕ → ℕ) → Below bucket
      → (D : ℕ) (p : Bool) (q : Pair H bucket D) (t : List ℕ) (room : ℕ)
      → length t ≡ D → room_for H bucket D q ≤ room → answer_of H bucket (image_of H bucket D p q) t room ≡ 0
  -- a run over any list of pairs, with the scratch that the most buckets need, takes each image of a party, in their order
  pub runs : (H : Word → Word) → On128 H → (bucket : List ℕ → ℕ → ℕ → ℕ → ℕ) → Below bucket
      → (D room : ℕ) (p : Bool) (qs : List (Pair H bucket D)) (t : List ℕ)
      → length t ≡ D → 6 * D + 2 * most_buckets ≤ room
      → taken_by (answer_of H bucket) 64 (share_of H bucket) (calls (image_of H bucket D p) room qs) t
      ≡ map (image_of H bucket D p) qs

-- the library's own tree hash and bucket functions: nothing is left to assume
abbrev pub OwnPairsAddUp : Type 0
OwnPairsAddUp =
    (D : ℕ) → Demand3 (answer_of tree_hash bucket_of) 64 (share_of tree_hash bucket_of) (image_of tree_hash bucket_of D)
    (posted_by tree_hash bucket_of D) D
