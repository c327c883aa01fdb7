-- Making from what the placement laid out (document 01, "Rules of buckets and placement"): three lists with a number for each
-- bucket. Its holder is 0, or 1 + the place of the point that it holds; its size; and its spot, the position of that point.
--     value_at vs k                 the value of the point that a holder names; 0 for none
--     used_by sizes c               how many random words the records before bucket c use
--     totals_of sizes               the words that all of them use, and the length of the image
--     Fitting sizes spots room0 room1    what writing an image with such sizes and spots asks
--     record_by H S α β r0 r1 p     party p's record over S entries; none where there are none
--     record_from .., laid_record .. the record of bucket c, from word u on; from the word that it comes to
--     write_laid ..                 what making writes and answers behind the early refusals, from what was laid out; write_given
--                                  ..: from what was given
-- Assumes nothing.
use Rattle.std.specs.Prelude.{Bool, true, false, cond, List, [], ◌∷◌, ℕ, zero, suc, ◌+◌, ◌-◌, ◌/◌, ◌≤◌, eqb, ltb, length, get_or}
use Rattle.words.specs.Limits.{largest_single, most_buckets}
use Rattle.words.specs.declared.Word.{Word}
use Rattle.words.specs.Bytes.{put}
use Rattle.words.specs.Cells.{sum_to, word_no}
use Rattle.words.specs.Refusals.{Words, Room, first, on_success}
use Rattle.placement.specs.Calls.{walk_in}
use Rattle.single.specs.Rules.{Record, made}
use Rattle.single.specs.Record.{no_record}
use Rattle.multi.specs.declared.make.Totals.{Totals}
use Rattle.multi.specs.Rules.{words_for, words_used}
use Rattle.multi.specs.Image.{multi_length, lengths_by, bytes_of, multi_bytes}
use Rattle.multi.specs.Calls.{Given, Generated, image_length, functions, generate_late, image_made}

unfoldable pub value_at : List ℕ → ℕ → ℕ
value_at vs k = elim k [ zero ↦ 0 | suc p ↦ get_or vs p 0 ]

unfoldable pub used_by : List ℕ → ℕ → ℕ
used_by sizes c = sum_to c (λ e. words_for (get_or sizes e 0))

abbrev pub totals_of : List ℕ → Totals
totals_of sizes = record { used = used_by sizes (length sizes); bytes = multi_length (length sizes) (lengths_by sizes) }

-- there are few sizes, each within the limit; each spot is below its size, where there is a size; and two buffers have room for
-- the image
pub record Fitting (sizes spots : List ℕ) (room0 room1 : ℕ) : Type 0 where
  pub few : length sizes ≤ most_buckets
  pub small : (c : ℕ) → get_or sizes c 0 ≤ largest_single
  pub inside : (c : ℕ) → get_or spots c 0 ≤ get_or sizes c 0 - 1
  pub first : multi_length (length sizes) (lengths_by sizes) ≤ room0
  pub second : multi_length (length sizes) (lengths_by sizes) ≤ room1

-- ---- records

unfoldable pub record_by : (Word → Word) → ℕ → ℕ → ℕ → Word → Word → Bool → Record
record_by H S α β r0 r1 p = cond (eqb S 0) no_record (made H S α r0 r1 64 β p)

module _ (H : Word → Word) (holders sizes spots vs ws : List ℕ) where
  unfoldable pub record_from : ℕ → Bool → ℕ → Record
  record_from u p c =
      record_by H (get_or sizes c 0) (get_or spots c 0) (value_at vs (get_or holders c 0)) (word_no ws u) (word_no ws (u + 1)) p

  unfoldable pub laid_record : Bool → ℕ → Record
  laid_record p c = record_from (used_by sizes c) p c

  abbrev pub laid_bytes : Bool → ℕ → List ℕ
  laid_bytes p c = bytes_of (laid_record p c)

-- ---- what is left of making, once nothing was refused early

-- the answer and both buffers at exit; scratch is zeroed behind it
pub record Writing : Type 0 where
  pub answer : Generated
  pub key0 : List ℕ
  pub key1 : List ℕ

abbrev pub writing : Generated → List ℕ → List ℕ → Writing
writing r k0 k1 = record { answer = r; key0 = k0; key1 = k1 }

abbrev pub refusing : ℕ → List ℕ → List ℕ → Writing
refusing n k0 k1 = writing (record { number = n; length = 0; words = 0; evictions = 0 }) k0 k1

-- Words and Room, of numbers and lengths
unfoldable pub room_rows : ℕ → Totals → ℕ → ℕ → List (Bool × ℕ)
room_rows words t room0 room1 =
    (ltb (words / 2) t.used, Words) ∷ (ltb room0 t.bytes, Room) ∷ (ltb room1 t.bytes, Room) ∷ []

-- from what was laid out, with as many evictions
unfoldable pub write_laid : (Word → Word) → ℕ → ℕ → List ℕ → List ℕ → List ℕ → List ℕ → List ℕ → List ℕ → ℕ → List ℕ → List ℕ
    → Writing
write_laid H d n keys holders sizes spots vs ws ev k0 k1 =
    let t = totals_of sizes in
    let number = first (room_rows (length ws) t (length k0) (length k1)) in
    on_success number
    (writing (record { number = 0; length = t.bytes; words = t.used; evictions = ev })
    (put k0 0 (multi_bytes 0 (length sizes) d n keys (laid_bytes H holders sizes spots vs ws false)))
    (put k1 0 (multi_bytes 1 (length sizes) d n keys (laid_bytes H holders sizes spots vs ws true))))
    (refusing number k0 k1)

-- from what was given
unfoldable pub write_given : (Word → Word) → (List ℕ → ℕ → ℕ → ℕ → ℕ) → Given → List ℕ → List ℕ → Writing
write_given H bucket g k0 k1 =
    let h = functions bucket g in
    let number = first (generate_late bucket g (length k0) (length k1)) in
    on_success number
    (writing
    (record {
      number = 0;
      length = image_length h g.domain g.buckets;
      words = words_used h g.domain g.buckets;
      evictions = (walk_in h g.buckets g.points).evictions;
    })
    (put k0 0 (image_made H bucket g false)) (put k1 0 (image_made H bucket g true)))
    (refusing number k0 k1)
