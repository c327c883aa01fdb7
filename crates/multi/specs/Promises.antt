-- What the layer promises beyond its functions' contracts. Each is proved in the file of proofs/ that has its name.
--     SharesSum       the two shares of a cell add up to what was posted there
--     RecordsMade     each made record has its bucket's size, fits its place, and uses words that are there
--     MadeKeysRead    what the maker writes, every reader accepts and reads back
--     OwnKeysRead     the same of the library's own tree hash and bucket functions: nothing is left to assume
--     RefusalsTold    what is told as numbers is told whole
--     PairsAdd        demand 3 for lists of pairs, single and multi mixed, for every kind of image that gives the rules' shares
--     RunsExist       demand 3 speaks of something: where made images are accepted, a run takes each of them
-- Assumes nothing.
use Rattle.std.specs.Prelude.{◌≡◌, Bool, true, false, List, map, ℕ, ◌+◌, ◌*◌, ◌-◌, ◌%◌, ◌^◌, ◌≤◌, ◌<◌, length, Result}
use Rattle.words.specs.declared.refusals.Refusal.{Refusal}
use Rattle.words.specs.declared.Word.{Word}
use Rattle.words.specs.Bytes.{Halves}
use Rattle.words.specs.Word.{On128}
use Rattle.words.specs.Height.{height}
use Rattle.cipher.specs.TreeHash.{tree_hash}
use Rattle.bucket_hash.specs.BucketHash.{bucket_of}
use Rattle.single.specs.Tables.{Demand3, Call, taken}
use Rattle.single.specs.Promises.{FitsRecord}
use Rattle.placement.specs.Buckets.{size_of}
use Rattle.placement.specs.Walk.{Placement, walk_of}
use Rattle.placement.specs.Shares.{at_points, posted, Rising}
use Rattle.placement.specs.Calls.{walk_in}
use Rattle.multi.specs.declared.calls.Made.{Made}
use Rattle.multi.specs.declared.image.RecordPlace as code
use Rattle.multi.specs.Rules.{words_for, used_before, words_used, made_record, made_share}
use Rattle.multi.specs.Image.{buckets_in, domain_in, count_in, keys_in, bucket_record, multi_ok, told_place}
use Rattle.multi.specs.Calls.{Given, functions, image_length, generate_number, record_made, image_made, side_in, matches, evaluate_at_number, evaluate_domain_number, add_to_number, share_in, told_made, told_share}
use Rattle.multi.specs.Tables.{MixedPosting, mixed_posted, share_for}

-- ---- the sum rule

-- For every tree hash, every width, all bucket functions, all words, every list of rising points with as many values, and every
-- cell: whatever table places the points; and so by the walk wherever it does not give up.
pub record SharesSum : Type 0 where
  pub placed : (H : Word → Word) (w : ℕ) (h : ℕ → ℕ → ℕ) (D B : ℕ) (pts vs t ws : List ℕ) → 3 * D ≤ 2 ^ 64
      → Rising D pts → length vs ≡ length pts → Placement (at_points h pts) B (length pts) t
      → (x : ℕ) → x < D
      → (made_share H w h D pts vs t ws false x + made_share H w h D pts vs t ws true x) % 2 ^ w ≡ posted pts vs x % 2 ^ w
  pub walked : (H : Word → Word) (w : ℕ) (h : ℕ → ℕ → ℕ) (D B : ℕ) (pts vs ws : List ℕ) → 3 * D ≤ 2 ^ 64
      → ((k x : ℕ) → k < 3 → x < D → h k x < B)
      → Rising D pts → length vs ≡ length pts → (walk_of (at_points h pts) B (length pts)).hand ≡ 0
      → (x : ℕ) → x < D → let t = (walk_of (at_points h pts) B (length pts)).table in
      (made_share H w h D pts vs t ws false x + made_share H w h D pts vs t ws true x) % 2 ^ w ≡ posted pts vs x % 2 ^ w

-- ---- made records

pub record RecordsMade : Type 0 where
  -- a record's size is the bucket's, 0 where there is none
  pub sized : (H : Word → Word) (w : ℕ) (h : ℕ → ℕ → ℕ) (D : ℕ) (pts vs t ws : List ℕ) (p : Bool) (b : ℕ)
      → (made_record H w h D pts vs t ws p b).size ≡ size_of h D b
  -- one correction word for each level but the last
  pub counted : (H : Word → Word) (w : ℕ) (h : ℕ → ℕ → ℕ) (D : ℕ) (pts vs t ws : List ℕ) (p : Bool) (b : ℕ)
      → 0 < size_of h D b → length (made_record H w h D pts vs t ws p b).cws ≡ height (size_of h D b) - 1
  -- for every tree hash on words of 128 bits, and words given as u64: every word fits, and the last word is below 2 ^ w
  pub fits : (H : Word → Word) → On128 H → (w : ℕ) (h : ℕ → ℕ → ℕ) (D : ℕ) (pts vs t ws : List ℕ) → Halves ws
      → (p : Bool) (b : ℕ) → FitsRecord w (made_record H w h D pts vs t ws p b)
  -- the words of bucket b are among all that are used, and no bucket behind it uses them
  pub within : (h : ℕ → ℕ → ℕ) (D B b : ℕ) → b < B → used_before h D b + words_for (size_of h D b) ≤ words_used h D B
  pub apart : (h : ℕ → ℕ → ℕ) (D b c : ℕ) → b < c → used_before h D b + words_for (size_of h D b) ≤ used_before h D c

-- ---- made images

-- a bucket is below the number of buckets
abbrev pub Below : (List ℕ → ℕ → ℕ → ℕ → ℕ) → Type 0
Below bucket = (ks : List ℕ) (b k x : ℕ) → 0 < b → bucket ks b k x < b

-- what the maker was given and did not refuse; the hash keys are 48 bytes and the words are of u64, as the types have it
pub record Accepted (bucket : List ℕ → ℕ → ℕ → ℕ → ℕ) (g : Given) : Type 0 where
  pub scratch : ℕ
  pub room0 : ℕ
  pub room1 : ℕ
  pub number : generate_number bucket g scratch room0 room1 ≡ 0
  pub keyed : length g.keys ≡ 48
  pub worded : Halves g.words

-- the share of cell x by the records that the walk's table gives
abbrev pub share_made : (Word → Word) → (List ℕ → ℕ → ℕ → ℕ → ℕ) → Given → Bool → ℕ → ℕ
share_made H bucket g p x =
    let h = functions bucket g in
    made_share H 64 h g.domain g.points g.values (walk_in h g.buckets g.points).table g.words p x

-- party p's image: its length is what making answers, every field is read back, no reading is refused where slices and index
-- fit, and its shares are those of the rules
pub record ReadBack (H : Word → Word) (bucket : List ℕ → ℕ → ℕ → ℕ → ℕ) (g : Given) (p : Bool) : Type 0 where
  pub long : length (image_made H bucket g p) ≡ image_length (functions bucket g) g.domain g.buckets
  pub ok : multi_ok (image_made H bucket g p) ≡ true
  pub side : side_in (image_made H bucket g p) ≡ p
  pub domain : domain_in (image_made H bucket g p) ≡ g.domain
  pub buckets : buckets_in (image_made H bucket g p) ≡ g.buckets
  pub count : count_in (image_made H bucket g p) ≡ length g.points
  pub keys : keys_in (image_made H bucket g p) ≡ g.keys
  pub records : (b : ℕ) → b < g.buckets → bucket_record (image_made H bucket g p) b ≡ record_made H bucket g p b
  pub matched : matches bucket (image_made H bucket g p) ≡ true
  pub cell : (x room : ℕ) → x < g.domain → g.buckets ≤ room → evaluate_at_number bucket (image_made H bucket g p) x room ≡ 0
  pub whole : (room out : ℕ) → 6 * g.domain + 2 * g.buckets ≤ room → g.domain ≤ out
      → evaluate_domain_number bucket (image_made H bucket g p) room out ≡ 0
  pub adds : (room : ℕ) → 6 * g.domain + 2 * g.buckets ≤ room
      → add_to_number bucket (image_made H bucket g p) g.domain room ≡ 0
  pub shares : (x : ℕ) → x < g.domain → share_in H bucket (image_made H bucket g p) x ≡ share_made H bucket g p x

abbrev pub MadeKeysRead : Type 0
MadeKeysRead = (H : Word → Word) → On128 H → (bucket : List ℕ → ℕ → ℕ → ℕ → ℕ) → Below bucket
    → (g : Given) → Accepted bucket g → (p : Bool) → ReadBack H bucket g p

-- the library's own tree hash and bucket functions: nothing is left to assume
abbrev pub OwnKeysRead : Type 0
OwnKeysRead = (g : Given) → Accepted bucket_of g → (p : Bool) → ReadBack tree_hash bucket_of g p

-- ---- answers

-- a result is told as numbers, as C sees it, and no two results are told alike: a promise of what is told leaves no choice either
pub record RefusalsTold : Type 0 where
  pub made : (r s : Result Made Refusal) → told_made r ≡ told_made s → r ≡ s
  pub shares : (r s : Result ℕ Refusal) → told_share r ≡ told_share s → r ≡ s
  pub places : (r s : Result code.RecordPlace Refusal) → told_place r ≡ told_place s → r ≡ s

-- ---- demand 3

-- Single and multi pairs in any mixture: where the image of a posting gives the shares of the key that the rules make of it,
-- the tables of the two partners sum to what was there and all that was posted, each partner in an order of its own, with
-- refused calls of any kind anywhere between. A posting may be any kind of value; `rules q` says what it posts, and by which
-- rules.
abbrev pub PairsAdd : Type 1
PairsAdd = (H : Word → Word) (w D : ℕ) → 3 * D ≤ 2 ^ 64
    → (Image Posting : Type 0) (rules : Posting → MixedPosting D)
    → (answer : Image → List ℕ → ℕ → ℕ) (share_of : Image → ℕ → ℕ) (image : Bool → Posting → Image)
    → ((p : Bool) (q : Posting) (x : ℕ) → x < D → share_of (image p q) x ≡ share_for H w D p (rules q) x)
    → Demand3 answer w share_of image (λ q. mixed_posted D (rules q)) D

-- a call for each posting, with scratch of `room` elements
abbrev pub calls : {Image Posting : Type 0} → (Posting → Image) → ℕ → List Posting → List (Call Image)
calls image room ps = map (λ q. record { image = image q; room = room }) ps

-- Where every image of a list is accepted by a table of n cells with so much scratch, the run over them takes each one, in
-- their order: the runs that demand 3 speaks of are there, for every list of postings and every order of it.
abbrev pub RunsExist : Type 1
RunsExist =
    (Image Posting : Type 0) (answer : Image → List ℕ → ℕ → ℕ) (w : ℕ) (share_of : Image → ℕ → ℕ) (image : Posting → Image)
    (n room : ℕ)
    → ((q : Posting) (t : List ℕ) → length t ≡ n → answer (image q) t room ≡ 0)
    → (ps : List Posting) (t : List ℕ) → length t ≡ n → taken answer w share_of (calls image room ps) t ≡ map image ps
