-- Laws of a multi image that passes: what a reader goes by.
--     Recorded, Bare, Slot            a bucket that has a record, and one that has none
--     WellFormed, well_formed         what an image that passes has; header_few; header_long, few_cells_in, few_buckets_in, for what
--                                     needs no more
--     Handed, handed                  where handing out a record is not refused; record_refused, place_refused: where it is
-- Assumes nothing.
use mathlib.Core.Path.{◌≡◌, refl, sym, ap, ◌∙◌, subst}
use mathlib.Core.Bool.{Bool, true, false, not}
use mathlib.Core.List.{List, [], ◌∷◌}
use mathlib.Core.Logic.{◌⊎◌, inl, inr}
use Prim.Native.Nat.{ℕ, ◌+◌, ◌*◌, ◌≤◌, ◌<◌}
use native.Mathlib.Omega.{arith}
use borrow.Author.Tests.{eqb-true, eqb-false, leb-true, leb-false, not-false}
use lib.Dec.{eqb, leb}
use lib.ListN.{length}
use Rattle.std.specs.Prelude.{Err}
use Rattle.words.specs.declared.refusals.Refusal.{Refusal}
use Rattle.words.specs.Limits.{largest_multi, largest_single, most_buckets}
use Rattle.words.specs.Bytes.{le_num, field}
use Rattle.words.specs.Refusals.{Key, Index, number_of}
use Rattle.words.proofs.TestLaws.{every-at, first-clear}
use Rattle.words.proofs.HeightLaws.{limits_of}
use Rattle.placement.proofs.LimitLaws.{refused_as}
use Rattle.single.specs.Record as single
use Rattle.multi.specs.Image.{party_in, buckets_in, domain_in, count_in, offset_in, entry_in, bucket_part, bucket_size, header_tests, header_ok, next_in, slot_ok, slots_ok, multi_ok, record_number, RecordPlace, told_place, place_of, record_given}
use Rattle.multi.proofs.RecordPlaces.{standing, bucket_part-none, bucket_part_there}
use Rattle.multi.proofs.SlotLaws.{there_tests, slot_there, slots_at}

-- ---- images that pass

-- a bucket that has a record: it begins where the one before ends, and is one
pub record Recorded (l : List ℕ) (c : ℕ) : Type 0 where
  pub some : entry_in l c ≡ 0 → ⊥
  pub begins : entry_in l c ≡ next_in l c
  pub part : bucket_part l c ≡ single.record_part l (entry_in l c)
  pub sized : bucket_size l c ≡ field 8 l (entry_in l c)
  pub least : 1 ≤ bucket_size l c
  pub most : bucket_size l c ≤ largest_single
  pub long : length (bucket_part l c) ≡ single.length_for (bucket_size l c)
  pub enough : 56 ≤ length (bucket_part l c)
  pub inside : entry_in l c + length (bucket_part l c) ≤ length l
  pub ok : single.record_ok largest_single (bucket_part l c) ≡ true

-- a bucket that has none
pub record Bare (l : List ℕ) (c : ℕ) : Type 0 where
  pub entry : entry_in l c ≡ 0
  pub part : bucket_part l c ≡ []
  pub sized : bucket_size l c ≡ 0

abbrev pub Slot : List ℕ → ℕ → Type 0
Slot l c = Bare l c ⊎ Recorded l c

bare : (l : List ℕ) (c : ℕ) → entry_in l c ≡ 0 → Bare l c
unfolding bucket_size field le_num
bare l c e = let none = bucket_part-none l c e in record { entry = e; part = none; sized = ap single.size_in none }

recorded : (l : List ℕ) (c : ℕ) → (entry_in l c ≡ 0 → ⊥) → slot_ok l c ≡ true → Recorded l c
unfolding bucket_size
recorded l c some good =
    let ts = there_tests l c in
    let all = sym (slot_there l c some) ∙ good in
    let ok : single.record_ok largest_single (bucket_part l c) ≡ true = every-at ts 1 all in
    let part = bucket_part_there l c some in
    let s = standing largest_single l (entry_in l c) (subst (λ (r : List ℕ). single.record_ok largest_single r ≡ true) part ok) in
    let lim = limits_of (field 8 l (entry_in l c)) s.treed in
    let sized : bucket_size l c ≡ field 8 l (entry_in l c) = ap single.size_in part ∙ s.sized in
    let whole : length (bucket_part l c) ≡ single.length_for (field 8 l (entry_in l c)) = ap length part ∙ s.long in
    record {
      some = some;
      begins = eqb-true _ _ (every-at ts 0 all);
      part = part;
      sized = sized;
      least = rw sized lim.0;
      most = rw sized lim.1;
      long = whole ∙ ap single.length_for (sym sized);
      enough = omega (arith, s.least);
      inside = omega (arith, s.inside);
      ok = ok;
    }

slot_case : (l : List ℕ) (c : ℕ) → slot_ok l c ≡ true → (t : Bool) → eqb (entry_in l c) 0 ≡ t → Slot l c
slot_case l c good true e = inl (bare l c (eqb-true _ _ e))
slot_case l c good false e = inr (recorded l c (eqb-false _ _ e) good)

-- what a reader of an image that passes goes by
pub record WellFormed (l : List ℕ) : Type 0 where
  pub party : party_in l ≤ 1
  pub some_buckets : 1 ≤ buckets_in l
  pub few_buckets : buckets_in l ≤ most_buckets
  pub some_cells : 1 ≤ domain_in l
  pub few_cells : domain_in l ≤ largest_multi
  pub some_points : 1 ≤ count_in l
  pub few_points : count_in l ≤ buckets_in l
  pub offset : offset_in l ≡ 72
  pub directory : 72 + 8 * buckets_in l ≤ length l
  pub exact : next_in l (buckets_in l) ≡ length l
  pub slot : (c : ℕ) → c < buckets_in l → Slot l c

pub header_few : (l : List ℕ) → header_ok l ≡ true → buckets_in l ≤ most_buckets
unfolding header_tests
header_few l good =
    leb-true _ _ (every-at (header_tests (party_in l) (buckets_in l) (domain_in l) (count_in l) (offset_in l) (length l)) 2 good)

pub well_formed : (l : List ℕ) → multi_ok l ≡ true → WellFormed l
unfolding multi_ok header_tests
well_formed l e =
    let parts : List Bool = header_ok l ∷ slots_ok l (buckets_in l) ∷ eqb (next_in l (buckets_in l)) (length l) ∷ [] in
    let ts = header_tests (party_in l) (buckets_in l) (domain_in l) (count_in l) (offset_in l) (length l) in
    let head : header_ok l ≡ true = every-at parts 0 e in
    record {
      party = leb-true _ _ (every-at ts 0 head);
      some_buckets = leb-true _ _ (every-at ts 1 head);
      few_buckets = leb-true _ _ (every-at ts 2 head);
      some_cells = leb-true _ _ (every-at ts 3 head);
      few_cells = leb-true _ _ (every-at ts 4 head);
      some_points = leb-true _ _ (every-at ts 5 head);
      few_points = leb-true _ _ (every-at ts 6 head);
      offset = eqb-true _ _ (every-at ts 7 head);
      directory = leb-true _ _ (every-at ts 8 head);
      exact = eqb-true _ _ (every-at parts 2 e);
      slot = λ c below. slot_case l c (slots_at l (buckets_in l) c (every-at parts 1 e) below) (eqb (entry_in l c) 0) refl;
    }

pub header_long : (l : List ℕ) → multi_ok l ≡ true → 72 ≤ length l
header_long l ok = omega (arith, (well_formed l ok).directory)

pub few_cells_in : (l : List ℕ) → multi_ok l ≡ true → domain_in l ≤ largest_multi
few_cells_in l ok = (well_formed l ok).few_cells

pub few_buckets_in : (l : List ℕ) → multi_ok l ≡ true → buckets_in l ≤ most_buckets
few_buckets_in l ok = (well_formed l ok).few_buckets

-- ---- handing out a record

-- what holds where nothing is refused
pub record Handed (l : List ℕ) (c : ℕ) : Type 0 where
  pub passes : WellFormed l
  pub below : c < buckets_in l
  pub few : c ≤ most_buckets

pub handed : (l : List ℕ) (c : ℕ) → record_number l c ≡ 0 → Handed l c
unfolding record_number
handed l c e =
    let rows : List (Bool × ℕ) = (not (multi_ok l), Key) ∷ (leb (buckets_in l) c, Index) ∷ [] in
    let p = well_formed l (not-false (multi_ok l) (first-clear rows 0 tt e)) in
    let below : c < buckets_in l = leb-false (buckets_in l) c (first-clear rows 1 tt e) in
    record { passes = p; below = below; few = omega (arith, p.few_buckets) }

-- and where something is
pub record_refused : (l : List ℕ) (c : ℕ) (e : Refusal) → number_of e ≡ record_number l c → [] ≡ record_given l c
unfolding record_given
record_refused l c e same = refused_as {A = List ℕ} _ _ (λ _. []) e (sym same)

pub place_refused : (l : List ℕ) (c : ℕ) (e : Refusal) → number_of e ≡ record_number l c → told_place (Err e) ≡ place_of l c
unfolding place_of
place_refused l c e same = refused_as {A = RecordPlace} _ _ (λ n. record { number = n; start = 0; bytes = 0 }) e (sym same)
