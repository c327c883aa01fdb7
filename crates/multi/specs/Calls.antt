-- The public calls of multi keys (document 01, "Refusal numbers" and "Numbers"): the answer and every lent slice at exit,
-- together, as one function of what a call is given. H is the tree hash, and `bucket ks B k x` the bucket of cell x by function
-- k among B buckets under the hash keys ks; the code's own are put in where a contract cites these. l is an image.
--     Given, functions     what making is given; the bucket functions of its hash keys
--     image_length h D B    the bytes of a made image, by the sizes of the buckets
--     generate_keys         making a pair: 1 to 8; image_made: party p's image
--     functions_in, side_in  the bucket functions and the party of an image
--     matches l            every record has its bucket's size; no record counts as 0
--     share_in l x          the share of cell x that the key in l gives
--     evaluate_at           one cell of an image: 9, 10, 5, 12
--     evaluate_domain       all cells: 9, 5, 8, 12
--     add_to                all cells added to a table: 9, 11, 5, 12
--     CallsDetermined      any two results that meet a call's promise are equal
-- Each has its tests in the order of the refusals, in two parts: those that come before anything is written (..Early), and
-- those that are made with sizes in scratch; then the number answered (..Number) and its promise (Generates, ..). Handing out a
-- bucket's record is `record_number`, `place_of` and `record_given` of Image. Assumes nothing.
use Rattle.std.specs.Prelude.{◌≡◌, Bool, true, false, not, cond, List, [], ◌∷◌, ◌++◌, ℕ, zero, suc, ◌+◌, ◌*◌, eqb, leb, ltb, length, Result, Ok, Err}
use Rattle.words.specs.declared.Word.{Word}
use Rattle.words.specs.Bytes.{put}
use Rattle.words.specs.Cells.{tab, added, zeroed}
use Rattle.words.specs.Refusals.{Count, Point, Scratch, Place, Words, Room, Key, Index, Table, Mismatch, every, first, on_success, number_of}
use Rattle.single.specs.Rules.{Record}
use Rattle.single.specs.Record.{length_for}
-- the number of a call over all cells, and scratch and output, or scratch and table, at exit
pub use Rattle.single.specs.Calls.{Swept, swept}
use Rattle.placement.specs.Buckets.{size_of}
use Rattle.placement.specs.Shares.{rising_from}
use Rattle.placement.specs.Calls.{limit_rows, walk_in}
use Rattle.words.specs.declared.refusals.Refusal.{Refusal}
use Rattle.multi.specs.declared.calls.Made.{Made}
use Rattle.multi.specs.Rules.{multi_share, pairs, words_used, made_record}
use Rattle.multi.specs.Image.{multi_length, multi_bytes, bytes_of, party_in, buckets_in, domain_in, keys_in, bucket_record, bucket_size, multi_ok, record_number, RecordPlace, place_of, record_given}

-- ---- making a pair

-- what making is given besides the slices that it writes
pub record Given : Type 0 where
  pub domain : ℕ
  pub buckets : ℕ
  pub keys : List ℕ
  pub points : List ℕ
  pub values : List ℕ
  pub words : List ℕ

abbrev pub given : ℕ → ℕ → List ℕ → List ℕ → List ℕ → List ℕ → Given
given D B ks pts vs ws = record { domain = D; buckets = B; keys = ks; points = pts; values = vs; words = ws }

-- 4B + n elements
abbrev pub generate_room : Given → ℕ
generate_room g = 4 * g.buckets + length g.points

unfoldable pub image_length : (ℕ → ℕ → ℕ) → ℕ → ℕ → ℕ
image_length h D B = multi_length B (λ c. length_for (size_of h D c))

-- what is given, and the length of scratch
abbrev pub generate_early : Given → ℕ → List (Bool × ℕ)
generate_early g scratch =
    limit_rows g.domain g.buckets
    ++ ((ltb (length g.points) 1, Count)
    ∷ (ltb g.buckets (length g.points), Count)
    ∷ (not (eqb (length g.values) (length g.points)), Count)
    ∷ (not (rising_from 0 g.domain g.points), Point)
    ∷ (ltb scratch (generate_room g), Scratch)
    ∷ [])

module _ (bucket : List ℕ → ℕ → ℕ → ℕ → ℕ) where
  abbrev pub functions : Given → ℕ → ℕ → ℕ
  functions g = bucket g.keys g.buckets

  -- the walk, the words that the sizes use, and the lengths of both buffers
  abbrev pub generate_late : Given → ℕ → ℕ → List (Bool × ℕ)
  generate_late g room0 room1 =
      (not (eqb (walk_in (functions g) g.buckets g.points).hand 0), Place)
      ∷ (ltb (pairs g.words) (words_used (functions g) g.domain g.buckets), Words)
      ∷ (ltb room0 (image_length (functions g) g.domain g.buckets), Room)
      ∷ (ltb room1 (image_length (functions g) g.domain g.buckets), Room)
      ∷ []

  unfoldable pub generate_number : Given → ℕ → ℕ → ℕ → ℕ
  generate_number g scratch room0 room1 = first (generate_early g scratch ++ generate_late g room0 room1)

-- 0, the length of either image, the random words used and all evictions; or a refusal's number and zeros
pub record Generated : Type 0 where
  pub number : ℕ
  pub length : ℕ
  pub words : ℕ
  pub evictions : ℕ

-- what a result tells as these four
abbrev pub told_made : Result Made Refusal → Generated
told_made (Ok made) = record { number = 0; length = made.length; words = made.words; evictions = made.evictions }
told_made (Err e) = record { number = number_of e; length = 0; words = 0; evictions = 0 }

-- the answer, and scratch and both buffers at exit
pub record Generating : Type 0 where
  pub answer : Generated
  pub scratch : List ℕ
  pub key0 : List ℕ
  pub key1 : List ℕ

abbrev pub generating : Generated → List ℕ → List ℕ → List ℕ → Generating
generating r s k0 k1 = record { answer = r; scratch = s; key0 = k0; key1 = k1 }

-- scratch is zeroed on success and on 6, 7, 8
abbrev pub scratch_made : ℕ → Given → List ℕ → List ℕ
scratch_made n g s = on_success n (zeroed (generate_room g) s) (cond (leb Place n) (zeroed (generate_room g) s) s)

module _ (H : Word → Word) (bucket : List ℕ → ℕ → ℕ → ℕ → ℕ) where
  -- party p's record of bucket b, by the walk's table
  abbrev pub record_made : Given → Bool → ℕ → Record
  record_made g p b =
      let h = functions bucket g in
      made_record H 64 h g.domain g.points g.values (walk_in h g.buckets g.points).table g.words p b

  unfoldable pub image_made : Given → Bool → List ℕ
  image_made g p =
      multi_bytes (cond p 1 0) g.buckets g.domain (length g.points) g.keys (λ b. bytes_of (record_made g p b))

  unfoldable pub generate_keys : Given → List ℕ → List ℕ → List ℕ → Generating
  generate_keys g s k0 k1 =
      let n = generate_number bucket g (length s) (length k0) (length k1) in
      let h = functions bucket g in
      on_success n
      (generating
      (record {
        number = 0;
        length = image_length h g.domain g.buckets;
        words = words_used h g.domain g.buckets;
        evictions = (walk_in h g.buckets g.points).evictions;
      })
      (scratch_made n g s) (put k0 0 (image_made g false)) (put k1 0 (image_made g true)))
      (generating (record { number = n; length = 0; words = 0; evictions = 0 }) (scratch_made n g s) k0 k1)

  abbrev pub Generates : Given → List ℕ → List ℕ → List ℕ → Generating → Type 0
  Generates g s k0 k1 r = r ≡ generate_keys g s k0 k1

-- ---- what an image gives

-- party 1 is true
abbrev pub side_in : List ℕ → Bool
side_in l = eqb (party_in l) 1

-- f and g agree below n
unfoldable pub alike : (ℕ → ℕ) → (ℕ → ℕ) → ℕ → Bool
alike f g zero = true
alike f g (suc n) = every (alike f g n ∷ eqb (f n) (g n) ∷ [])

module _ (bucket : List ℕ → ℕ → ℕ → ℕ → ℕ) where
  abbrev pub functions_in : List ℕ → ℕ → ℕ → ℕ
  functions_in l = bucket (keys_in l) (buckets_in l)

  unfoldable pub matches : List ℕ → Bool
  matches l = alike (bucket_size l) (size_of (functions_in l) (domain_in l)) (buckets_in l)

  -- found with the sizes in scratch
  abbrev pub late : List ℕ → List (Bool × ℕ)
  late l = (not (matches l), Mismatch) ∷ []

unfoldable pub share_in : (Word → Word) → (List ℕ → ℕ → ℕ → ℕ → ℕ) → List ℕ → ℕ → ℕ
share_in H bucket l x = multi_share H 64 (side_in l) (bucket_record l) (functions_in bucket l) (domain_in l) x

-- scratch is zeroed, as far as it was needed, on success and on 12
abbrev pub scratch_read : ℕ → ℕ → List ℕ → List ℕ
scratch_read n need s = on_success n (zeroed need s) (cond (eqb n Mismatch) (zeroed need s) s)

-- ---- one cell

-- an image, an index, and the length of scratch
abbrev pub evaluate_at_early : List ℕ → ℕ → ℕ → List (Bool × ℕ)
evaluate_at_early l x scratch = (not (multi_ok l), Key) ∷ (leb (domain_in l) x, Index) ∷ (ltb scratch (buckets_in l), Scratch) ∷ []

unfoldable pub evaluate_at_number : (List ℕ → ℕ → ℕ → ℕ → ℕ) → List ℕ → ℕ → ℕ → ℕ
evaluate_at_number bucket l x scratch = first (evaluate_at_early l x scratch ++ late bucket l)

-- 0 and the share, or a refusal's number and 0
pub record Share : Type 0 where
  pub number : ℕ
  pub share : ℕ

-- what a result tells as these two
abbrev pub told_share : Result ℕ Refusal → Share
told_share (Ok share) = record { number = 0; share = share }
told_share (Err e) = record { number = number_of e; share = 0 }

-- the answer, and scratch at exit
pub record Reading : Type 0 where
  pub answer : Share
  pub scratch : List ℕ

abbrev pub reading : Share → List ℕ → Reading
reading r s = record { answer = r; scratch = s }

module _ (H : Word → Word) (bucket : List ℕ → ℕ → ℕ → ℕ → ℕ) where
  unfoldable pub evaluate_at : List ℕ → ℕ → List ℕ → Reading
  evaluate_at l x s =
      let n = evaluate_at_number bucket l x (length s) in
      reading (record { number = n; share = on_success n (share_in H bucket l x) 0 }) (scratch_read n (buckets_in l) s)

  abbrev pub EvaluatesAt : List ℕ → ℕ → List ℕ → Reading → Type 0
  EvaluatesAt l x s r = r ≡ evaluate_at l x s

-- ---- all cells

-- 6D + 2B elements
abbrev pub domain_room : List ℕ → ℕ
domain_room l = 6 * domain_in l + 2 * buckets_in l

-- an image, and the lengths of scratch and output
abbrev pub evaluate_domain_early : List ℕ → ℕ → ℕ → List (Bool × ℕ)
evaluate_domain_early l scratch room =
    (not (multi_ok l), Key) ∷ (ltb scratch (domain_room l), Scratch) ∷ (ltb room (domain_in l), Room) ∷ []

unfoldable pub evaluate_domain_number : (List ℕ → ℕ → ℕ → ℕ → ℕ) → List ℕ → ℕ → ℕ → ℕ
evaluate_domain_number bucket l scratch room = first (evaluate_domain_early l scratch room ++ late bucket l)

module _ (H : Word → Word) (bucket : List ℕ → ℕ → ℕ → ℕ → ℕ) where
  unfoldable pub evaluate_domain : List ℕ → List ℕ → List ℕ → Swept
  evaluate_domain l s o =
      let n = evaluate_domain_number bucket l (length s) (length o) in
      swept n (scratch_read n (domain_room l) s) (on_success n (put o 0 (tab (share_in H bucket l) (domain_in l))) o)

  abbrev pub EvaluatesDomain : List ℕ → List ℕ → List ℕ → Swept → Type 0
  EvaluatesDomain l s o r = r ≡ evaluate_domain l s o

-- ---- adding to a table

-- an image, and the lengths of table and scratch
abbrev pub add_to_early : List ℕ → ℕ → ℕ → List (Bool × ℕ)
add_to_early l cells scratch =
    (not (multi_ok l), Key) ∷ (not (eqb cells (domain_in l)), Table) ∷ (ltb scratch (domain_room l), Scratch) ∷ []

unfoldable pub add_to_number : (List ℕ → ℕ → ℕ → ℕ → ℕ) → List ℕ → ℕ → ℕ → ℕ
add_to_number bucket l cells scratch = first (add_to_early l cells scratch ++ late bucket l)

module _ (H : Word → Word) (bucket : List ℕ → ℕ → ℕ → ℕ → ℕ) where
  unfoldable pub add_to : List ℕ → List ℕ → List ℕ → Swept
  add_to l s t =
      let n = add_to_number bucket l (length t) (length s) in
      swept n (scratch_read n (domain_room l) s) (on_success n (added 64 (share_in H bucket l) t) t)

  abbrev pub AddsTo : List ℕ → List ℕ → List ℕ → Swept → Type 0
  AddsTo l s t r = r ≡ add_to l s t

-- ---- the promises leave no choice

pub record CallsDetermined (H : Word → Word) (bucket : List ℕ → ℕ → ℕ → ℕ → ℕ) : Type 0 where
  pub making : (g : Given) (s k0 k1 : List ℕ) (q r : Generating) → Generates H bucket g s k0 k1 q → Generates H bucket g s k0 k1 r → q ≡ r
  pub one_cell : (l : List ℕ) (x : ℕ) (s : List ℕ) (q r : Reading) → EvaluatesAt H bucket l x s q → EvaluatesAt H bucket l x s r → q ≡ r
  pub all_cells : (l s o : List ℕ) (q r : Swept) → EvaluatesDomain H bucket l s o q → EvaluatesDomain H bucket l s o r → q ≡ r
  pub table : (l s t : List ℕ) (q r : Swept) → AddsTo H bucket l s t q → AddsTo H bucket l s t r → q ≡ r
  -- handing out a bucket's record: the number, the part of the image, and where it stands
  pub record_no : (l : List ℕ) (c q r : ℕ) → q ≡ record_number l c → r ≡ record_number l c → q ≡ r
  pub record_handed : (l : List ℕ) (c : ℕ) (q r : List ℕ) → q ≡ record_given l c → r ≡ record_given l c → q ≡ r
  pub record_placed : (l : List ℕ) (c : ℕ) (q r : RecordPlace) → q ≡ place_of l c → r ≡ place_of l c → q ≡ r
