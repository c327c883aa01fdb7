-- Laws of where records stand in a multi image.
--     starts     record_start-first, record_start_next, record_start_le, record_start-least, record_start_same
--     records    length-treed, length-zero, length_or_none; Standing, standing: what stands where a record was accepted
--     parts      bucket_part-none, bucket_part_there
-- Assumes nothing.
use mathlib.Core.Path.{◌≡◌, refl, sym, ap, ◌∙◌}
use mathlib.Core.Bool.{true}
use mathlib.Core.List.{List, []}
use Prim.Native.Nat.{ℕ, zero, suc, ◌+◌, ◌*◌, ◌≤◌, ◌<◌, min}
use native.Mathlib.Numerals.{add-one}
use native.Mathlib.Omega.{arith}
use borrow.Author.Tests.{eq-eqb, ne_eqb}
use lib.ListN.{length, take, drop, length-take, length-drop}
use Rattle.std.specs.Prelude.{Some, None, unwrap_or}
use Rattle.words.specs.Bytes.{field}
use Rattle.words.specs.Cells.{sum_to}
use Rattle.words.specs.Height as height
use Rattle.words.specs.Refusals.{first, on_success}
use Rattle.words.proofs.ByteLaws.{field_mid}
use Rattle.words.proofs.CellLaws.{sum_same, sum_mono}
use Rattle.single.specs.Record as single
use Rattle.single.proofs.RecordLaws.{length_for_lem, accepted}
use Rattle.multi.specs.Image.{record_start, entry_in, bucket_part}

-- ---- starts

module _ (b : ℕ) (lens : ℕ → ℕ) where
  pub record_start-first : record_start b lens 0 ≡ 72 + 8 * b
  unfolding record_start sum_to
  record_start-first = omega arith

  pub record_start_next : (c : ℕ) → record_start b lens (c + 1) ≡ record_start b lens c + lens c
  unfolding record_start sum_to
  record_start_next c = rw add-one (omega arith)

  pub record_start_le : (c e : ℕ) → c ≤ e → record_start b lens c ≤ record_start b lens e
  unfolding record_start
  record_start_le c e h = omega (arith, sum_mono lens c e h)

  pub record_start-least : (c : ℕ) → 72 + 8 * b ≤ record_start b lens c
  unfolding record_start
  record_start-least c = omega arith

pub record_start_same : (b : ℕ) (f g : ℕ → ℕ) (c : ℕ) → ((e : ℕ) → e < c → f e ≡ g e) → record_start b f c ≡ record_start b g c
unfolding record_start
record_start_same b f g c alike = ap (λ (n : ℕ). 72 + 8 * b + n) (sum_same c f g alike)

-- ---- records

pub length-treed : (s : ℕ) → height.height_number s ≡ 0 → single.length_for s ≡ 56 + 16 * single.word_count s
unfolding single.record_length
length-treed s e = length_for_lem s e

pub length-zero : single.length_for 0 ≡ 0
unfolding single.length_for height.height_number first
length-zero = refl

-- as code asks for it
pub length_or_none : (s : ℕ) → unwrap_or (single.length_of s) 0 ≡ single.length_for s
unfolding single.length_of single.length_for
length_or_none s = go (height.height_number s)
  where
    go : (n : ℕ) → unwrap_or (on_success n (Some (single.record_length s)) None) 0 ≡ on_success n (single.record_length s) 0
    go zero = refl
    go (suc n) = refl

-- what stands from a on where a record was accepted
pub record Standing (l : List ℕ) (a : ℕ) : Type 0 where
  pub treed : height.height_number (field 8 l a) ≡ 0
  pub sized : single.size_in (single.record_part l a) ≡ field 8 l a
  pub long : length (single.record_part l a) ≡ single.length_for (field 8 l a)
  pub least : 56 ≤ single.length_for (field 8 l a)
  pub inside : a + single.length_for (field 8 l a) ≤ length l

-- a size without a tree leaves no bytes, and those are no record
treed_there : (limit : ℕ) (l : List ℕ) (a : ℕ) → single.record_ok limit (single.record_part l a) ≡ true → (h : ℕ)
    → height.height_number (field 8 l a) ≡ h → h ≡ 0
unfolding single.length_for
treed_there limit l a ok zero e = refl
treed_there limit l a ok (suc h) e =
    let none : single.length_for (field 8 l a) ≡ 0 = rw e in
    let empty : length (single.record_part l a) ≡ 0 = ap (λ (n : ℕ). length (take n (drop a l))) none in
    let q = accepted limit _ ok in
    let z : ⊥ = omega (arith, q.exact) in
    absurd z

pub standing : (limit : ℕ) (l : List ℕ) (a : ℕ) → single.record_ok limit (single.record_part l a) ≡ true → Standing l a
standing limit l a ok =
    let treed = treed_there limit l a ok (height.height_number (field 8 l a)) refl in
    let whole = length-treed (field 8 l a) treed in
    let sized : single.size_in (single.record_part l a) ≡ field 8 l a =
    field_mid 8 l a (single.length_for (field 8 l a)) 0 (omega arith) ∙ ap (λ (k : ℕ). field 8 l k) (omega arith) in
    let long : length (single.record_part l a) ≡ single.length_for (field 8 l a) =
    (accepted limit _ ok).exact ∙ ap (λ (s : ℕ). 56 + 16 * single.word_count s) sized ∙ sym whole in
    let cut : length (single.record_part l a) ≡ min (single.length_for (field 8 l a)) (length (drop a l)) =
    length-take (single.length_for (field 8 l a)) (drop a l) in
    record { treed = treed; sized = sized; long = long; least = omega arith; inside = omega (arith, length-drop a l) }

-- ---- parts

pub bucket_part-none : (l : List ℕ) (c : ℕ) → entry_in l c ≡ 0 → bucket_part l c ≡ []
unfolding bucket_part
bucket_part-none l c e = rw (eq-eqb (entry_in l c) 0 e)

pub bucket_part_there : (l : List ℕ) (c : ℕ) → (entry_in l c ≡ 0 → ⊥) → bucket_part l c ≡ single.record_part l (entry_in l c)
unfolding bucket_part
bucket_part_there l c some = rw (ne_eqb (entry_in l c) 0 some)
