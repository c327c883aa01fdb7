-- Laws of what making writes and answers behind the early refusals.
--     laid out     laid_fits, laid_refused, laid_written: the numbers Words and Room, and both images
--     given        laid_given, given_up: what was laid out gives what was asked for
--     the slice    work-small, work-inside, work-given: the same from the working slice
-- Assumes nothing.
use mathlib.Core.Path.{◌≡◌, refl, sym, ap, ap₂, ◌∙◌}
use mathlib.Core.Bool.{Bool, true, false, not}
use mathlib.Core.List.{List, [], ◌++◌}
use Prim.Native.Nat.{ℕ, ◌+◌, ◌-◌, ◌*◌, ◌≤◌, ◌<◌}
use native.Mathlib.Omega.{arith}
use borrow.Author.Tests.{eq-eqb, ne_eqb, ltb-true, ltb-false}
use lib.Dec.{ltb}
use lib.ListN.{length, take, drop, get_or, get_or-eq_default}
use Rattle.words.specs.Limits.{largest_multi, largest_single, most_buckets}
use Rattle.std.specs.Prelude.{Err}
use Rattle.words.specs.declared.refusals.Refusal.{Refusal}
use Rattle.words.specs.declared.Word.{Word}
use Rattle.words.specs.Bytes.{put}
use Rattle.words.specs.Cells.{tab}
use Rattle.words.specs.Refusals.{Place, first, on_success, number_of}
use Rattle.words.proofs.CellLaws.{length-tab, get_or-tab, sum_same}
use Rattle.words.proofs.TestLaws.{first_hit, first_miss, first-clear, succeeded, refused}
use Rattle.cipher.specs.declared.TreeHash.{TreeHash}
use Rattle.cipher.specs.TreeHash.{fixed, hash_by, tree_hash}
use Rattle.placement.specs.Buckets.{size_of}
use Rattle.placement.specs.Shares.{alpha_of, beta_of, rising_from}
use Rattle.placement.specs.Calls.{walk_in, laid_out}
use Rattle.placement.proofs.BucketLaws.{size_le}
use Rattle.placement.proofs.LayLaws.{placement_in}
use Rattle.placement.proofs.PointLaws.{rising_is}
use Rattle.placement.proofs.ShareLaws.{alpha_below}
use Rattle.single.specs.Record as single
use Rattle.multi.specs.declared.make.Totals.{Totals}
use Rattle.multi.specs.Rules.{words_for, used_before, words_used, made_record}
use Rattle.multi.specs.Image.{multi_length, lengths_by, bytes_of, multi_bytes, header_bytes, directory_bytes, records_bytes}
use Rattle.multi.specs.Calls.{Given, image_length, functions, generate_late, image_made, told_made}
use Rattle.multi.specs.Making.{value_at, used_by, totals_of, Fitting, record_by, record_from, laid_record, laid_bytes, Writing, writing, refusing, room_rows, write_laid, write_given}
use Rattle.multi.proofs.ToldLaws.{refuses}
use Rattle.multi.proofs.RecordPlaces.{record_start_same}
use Rattle.multi.proofs.ImageBytes.{multi_same}
use Rattle.multi.proofs.LayingLaws.{image_laid}
use Rattle.multi.proofs.WorkCuts.{holders_cut, sizes_cut, spots_cut}

-- ---- from what was laid out

pub laid_fits : (words : ℕ) (sizes spots : List ℕ) (room0 room1 : ℕ) → length sizes ≤ most_buckets
    → ((c : ℕ) → get_or sizes c 0 ≤ largest_single) → ((c : ℕ) → get_or spots c 0 ≤ get_or sizes c 0 - 1)
    → first (room_rows words (totals_of sizes) room0 room1) ≡ 0 → Fitting sizes spots room0 room1
unfolding room_rows
laid_fits words sizes spots room0 room1 few small inside e =
    let rows = room_rows words (totals_of sizes) room0 room1 in
    record {
      few = few;
      small = small;
      inside = inside;
      first = ltb-false _ _ (first-clear rows 1 tt e);
      second = ltb-false _ _ (first-clear rows 2 tt e);
    }

module _ (H : Word → Word) (d n : ℕ) (keys holders sizes spots vs ws : List ℕ) (ev : ℕ) (k0 k1 : List ℕ) where
  pub laid_refused : (e : Refusal) → number_of e ≡ first (room_rows (length ws) (totals_of sizes) (length k0) (length k1))
      → writing (told_made (Err e)) k0 k1 ≡ write_laid H d n keys holders sizes spots vs ws ev k0 k1
  unfolding write_laid
  laid_refused e same = rw (← same) (sym (refused (number_of e) _ _ (refuses e)))

  images-written : {m0 m1 : List ℕ} (t : Totals) → t ≡ totals_of sizes
      → first (room_rows (length ws) (totals_of sizes) (length k0) (length k1)) ≡ 0
      → m0 ≡ put k0 0 (multi_bytes 0 (length sizes) d n keys (laid_bytes H holders sizes spots vs ws false))
      → m1 ≡ put k1 0 (multi_bytes 1 (length sizes) d n keys (laid_bytes H holders sizes spots vs ws true))
      → writing (record { number = 0; length = t.bytes; words = t.used; evictions = ev }) m0 m1
      ≡ write_laid H d n keys holders sizes spots vs ws ev k0 k1
  unfolding write_laid
  images-written t e none e0 e1 = rw (e0, e1, e) (sym (succeeded _ _ _ none))

-- headers and directories were written, and then all records, by a value of the tree hash
pub laid_written : (d n : ℕ) (keys holders sizes spots vs ws : List ℕ) (ev : ℕ) (k0 k1 : List ℕ) (t : Totals)
    → t ≡ totals_of sizes
    → first (room_rows (length ws) (totals_of sizes) (length k0) (length k1)) ≡ 0
    → Fitting sizes spots (length k0) (length k1) → length keys ≡ 48 → (x : TreeHash) → x ≡ fixed → (f0 f1 m0 m1 : List ℕ)
    → f0 ≡ put k0 0 (header_bytes 0 (length sizes) d n keys ++ directory_bytes (length sizes) (lengths_by sizes) (length sizes))
    → f1 ≡ put k1 0 (header_bytes 1 (length sizes) d n keys ++ directory_bytes (length sizes) (lengths_by sizes) (length sizes))
    → (m0 ≡ put f0 (72 + 8 * length sizes) (records_bytes (laid_bytes (hash_by x) holders sizes spots vs ws false) (length sizes)))
    × (m1 ≡ put f1 (72 + 8 * length sizes) (records_bytes (laid_bytes (hash_by x) holders sizes spots vs ws true) (length sizes)))
    → writing (record { number = 0; length = t.bytes; words = t.used; evictions = ev }) m0 m1
    ≡ write_laid tree_hash d n keys holders sizes spots vs ws ev k0 k1
laid_written d n keys holders sizes spots vs ws ev k0 k1 t e none fit keyed x own f0 f1 m0 m1 front0 front1 records =
    let b = length sizes in
    let behind : Bool → List ℕ → TreeHash → List ℕ =
    λ p l y. put l (72 + 8 * b) (records_bytes (laid_bytes (hash_by y) holders sizes spots vs ws p) b) in
    images-written tree_hash d n keys holders sizes spots vs ws ev k0 k1 t e none
    (image_laid tree_hash holders sizes spots vs ws fit.small false 0 d n keys k0 keyed fit.first front0
    (records.0 ∙ ap (behind false f0) own))
    (image_laid tree_hash holders sizes spots vs ws fit.small true 1 d n keys k1 keyed fit.second front1
    (records.1 ∙ ap (behind true f1) own))

-- ---- from what was laid out to what was given

module _ (H : Word → Word) (h : ℕ → ℕ → ℕ) (d b : ℕ) (pts vs ws t : List ℕ) where
  abbrev size_list : List ℕ
  size_list = tab (size_of h d) b

  abbrev spot_list : List ℕ
  spot_list = tab (alpha_of h d pts t) b

  used_laid : (c : ℕ) → c ≤ b → used_by size_list c ≡ used_before h d c
  unfolding used_by used_before
  used_laid c most = sum_same c _ _ (λ e below. ap words_for (get_or-tab (size_of h d) b e (omega arith)))

  bytes_laid : multi_length b (lengths_by size_list) ≡ image_length h d b
  unfolding image_length lengths_by
  bytes_laid = record_start_same b _ _ b (λ e below. ap single.length_for (get_or-tab (size_of h d) b e below))

  totals_laid : totals_of size_list ≡ record { used = words_used h d b; bytes = image_length h d b }
  totals_laid =
      let long = length-tab (size_of h d) b in
      ap₂ {A = ℕ} {B = ℕ} {C = Totals} (λ u n. record { used = u; bytes = n })
      (ap (used_by size_list) long ∙ used_laid b (omega arith))
      (ap (λ (n : ℕ). multi_length n (lengths_by size_list)) long ∙ bytes_laid)

  record_laid : (p : Bool) (c : ℕ) → c < b → laid_record H t size_list spot_list vs ws p c ≡ made_record H 64 h d pts vs t ws p c
  unfolding laid_record record_from record_by made_record value_at beta_of
  record_laid p c below =
      rw (get_or-tab (size_of h d) b c below, get_or-tab (alpha_of h d pts t) b c below, used_laid c (omega arith))

  image_laid_out : (p : Bool) (party n : ℕ) (keys : List ℕ)
      → multi_bytes party (length size_list) d n keys (laid_bytes H t size_list spot_list vs ws p)
      ≡ multi_bytes party b d n keys (λ c. bytes_of (made_record H 64 h d pts vs t ws p c))
  image_laid_out p party n keys =
      ap (λ (k : ℕ). multi_bytes party k d n keys (laid_bytes H t size_list spot_list vs ws p)) (length-tab (size_of h d) b)
      ∙ multi_same party b d n keys _ _ (λ c below. ap bytes_of (record_laid p c below))

  small_laid : d ≤ largest_multi → (c : ℕ) → get_or size_list c 0 ≤ largest_single
  small_laid few c = go (ltb c b) refl
    where
      go : (q : Bool) → ltb c b ≡ q → get_or size_list c 0 ≤ largest_single
      go true e = omega (arith, get_or-tab (size_of h d) b c (ltb-true c b e), size_le h c d)
      go false e =
          omega (arith, get_or-eq_default size_list 0 {n = c} (omega (arith, length-tab (size_of h d) b, ltb-false c b e)))

  inside_laid : ((c : ℕ) → alpha_of h d pts t c ≤ size_of h d c - 1) → (c : ℕ) → get_or spot_list c 0 ≤ get_or size_list c 0 - 1
  inside_laid inside c = go (ltb c b) refl
    where
      go : (q : Bool) → ltb c b ≡ q → get_or spot_list c 0 ≤ get_or size_list c 0 - 1
      go true e =
          let below = ltb-true c b e in
          omega (arith, get_or-tab (size_of h d) b c below, get_or-tab (alpha_of h d pts t) b c below, inside c)
      go false e = omega (arith, get_or-eq_default spot_list 0 {n = c} (omega (arith, length-tab (alpha_of h d pts t) b, ltb-false c b e)))

-- with every point placed
module _ (H : Word → Word) (bucket : List ℕ → ℕ → ℕ → ℕ → ℕ) (g : Given) (k0 k1 : List ℕ) where
  abbrev fns : ℕ → ℕ → ℕ
  fns = functions bucket g

  abbrev held : List ℕ
  held = (walk_in fns g.buckets g.points).table

  abbrev made : Totals
  made = record { used = words_used fns g.domain g.buckets; bytes = image_length fns g.domain g.buckets }

  late-room : (room0 room1 : ℕ) → (walk_in fns g.buckets g.points).hand ≡ 0
      → first (generate_late bucket g room0 room1) ≡ first (room_rows (length g.words) made room0 room1)
  unfolding room_rows
  late-room room0 room1 none = first_miss _ _ (ap not (eq-eqb _ 0 none))

  late-place : (room0 room1 : ℕ) → ((walk_in fns g.buckets g.points).hand ≡ 0 → ⊥)
      → first (generate_late bucket g room0 room1) ≡ Place
  late-place room0 room1 some = first_hit _ _ (ap not (ne_eqb _ 0 some))

  -- by the number, the sums and both images
  abbrev outcome : ℕ → Totals → List ℕ → List ℕ → Writing
  outcome number t i0 i1 =
      on_success number
      (writing (record {
        number = 0;
        length = t.bytes;
        words = t.used;
        evictions = (walk_in fns g.buckets g.points).evictions;
      }) (put k0 0 i0) (put k1 0 i1))
      (refusing number k0 k1)

  abbrev sizes_of : List ℕ
  sizes_of = tab (size_of fns g.domain) g.buckets

  abbrev spots_of_lem : List ℕ
  spots_of_lem = tab (alpha_of fns g.domain g.points held) g.buckets

  abbrev laid_image : Bool → ℕ → List ℕ
  laid_image p party =
      multi_bytes party (length sizes_of) g.domain (length g.points) g.keys
      (laid_bytes H held sizes_of spots_of_lem g.values g.words p)

  pub laid_given : (walk_in fns g.buckets g.points).hand ≡ 0
      → write_laid H g.domain (length g.points) g.keys held sizes_of spots_of_lem g.values g.words
      (walk_in fns g.buckets g.points).evictions k0 k1
      ≡ write_given H bucket g k0 k1
  unfolding write_laid write_given image_made
  laid_given none =
      let totals = totals_laid H fns g.domain g.buckets g.points g.values g.words held in
      let image = image_laid_out H fns g.domain g.buckets g.points g.values g.words held in
      ap (λ (t : Totals). outcome (first (room_rows (length g.words) t (length k0) (length k1))) t (laid_image false 0)
      (laid_image true 1)) totals
      ∙ ap₂ (outcome (first (room_rows (length g.words) made (length k0) (length k1))) made)
      (image false 0 (length g.points) g.keys) (image true 1 (length g.points) g.keys)
      ∙ ap (λ (n : ℕ). outcome n made (image_made H bucket g false) (image_made H bucket g true))
      (sym (late-room (length k0) (length k1) none))

  -- the walk gives up
  pub given_up : ((walk_in fns g.buckets g.points).hand ≡ 0 → ⊥) → refusing Place k0 k1 ≡ write_given H bucket g k0 k1
  unfolding write_given
  given_up some = rw (late-place (length k0) (length k1) some)

-- the working slice that was laid out, cut in three
module _ (H : Word → Word) (bucket : List ℕ → ℕ → ℕ → ℕ → ℕ) (g : Given)
    (low : (k x : ℕ) → k < 3 → functions bucket g k x < g.buckets)
    (none : (walk_in (functions bucket g) g.buckets g.points).hand ≡ 0) (l m : List ℕ)
    (filled : m ≡ put l 0 (laid_out (functions bucket g) g.domain g.buckets g.points))
  where
    abbrev b : ℕ
    b = g.buckets

    abbrev n : ℕ
    n = length g.points

    abbrev table : List ℕ
    table = (walk_in (functions bucket g) b g.points).table

    sizes_are : take b (drop (b + n) m) ≡ tab (size_of (functions bucket g) g.domain) b
    sizes_are =
        ap (λ (x : List ℕ). take b (drop (b + n) x)) filled
        ∙ sizes_cut (functions bucket g) g.domain b g.points l low none

    pub work-small : g.domain ≤ largest_multi → (c : ℕ) → get_or (take b (drop (b + n) m)) c 0 ≤ largest_single
    work-small few c =
        rw sizes_are (small_laid H (functions bucket g) g.domain b g.points g.values g.words [] few c)

    spots_are : take b (drop (b + n + b) m) ≡ tab (alpha_of (functions bucket g) g.domain g.points table) b
    spots_are = ap (λ (x : List ℕ). take b (drop (b + n + b) x)) filled ∙ spots_cut (functions bucket g) g.domain b g.points l low none

    pub work-inside : rising_from 0 g.domain g.points ≡ true
        → (c : ℕ) → get_or (take b (drop (b + n + b) m)) c 0 ≤ get_or (take b (drop (b + n) m)) c 0 - 1
    work-inside rising c =
        rw (sizes_are, spots_are)
        (inside_laid H (functions bucket g) g.domain b g.points g.values g.words table
        (alpha_below _ _ b _ _ (rising_is g.domain g.points rising) (placement_in (functions bucket g) b low g.points none)) c)

    pub work-given : {ev : ℕ} (k0 k1 : List ℕ) → ev ≡ (walk_in (functions bucket g) b g.points).evictions
        → write_laid H g.domain n g.keys (take b m) (take b (drop (b + n) m)) (take b (drop (b + n + b) m)) g.values
        g.words ev k0 k1
        ≡ write_given H bucket g k0 k1
    work-given k0 k1 e =
        rw (
          e,
          sizes_are,
          ap (take b) filled ∙ holders_cut (functions bucket g) g.domain b g.points l low none,
          spots_are,
        )
        (laid_given H bucket g k0 k1 none)
