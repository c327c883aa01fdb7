-- Laws of the slots of a multi image, an entry of the directory and the record that it names.
--     one slot      slot_none, slot_there
--     a turn        next_or: what a pass over the slots goes on with; next_none, next_elsewhere, next_bad, next_good; next_on,
--                   next_off
--     all slots     slots_none, slots_more, slots_at, slots_fail
-- Assumes nothing.
use mathlib.Core.Path.{◌≡◌, refl, sym, ap, ◌∙◌, subst}
use mathlib.Core.Bool.{Bool, true, false, cond}
use mathlib.Core.List.{List, [], ◌∷◌}
use mathlib.Core.Logic.{⊎_elim}
use Rattle.std.specs.Prelude.{Option, Some, None}
use Prim.Native.Nat.{ℕ, zero, suc, ◌+◌, ◌<◌}
use native.Mathlib.Nat.{eq-or-lt_of_le, le_of_suc-le-suc}
use native.Mathlib.Numerals.{add-one}
use native.Mathlib.Omega.{arith}
use borrow.Author.Tests.{eq-eqb, ne_eqb}
use lib.Dec.{T, eqb}
use lib.ListN.{length}
use Rattle.words.specs.Limits.{largest_single}
use Rattle.words.specs.Refusals.{every}
use Rattle.words.proofs.TestLaws.{every-none, every_pass, every_fail, every-at}
use Rattle.single.specs.Record as single
use Rattle.multi.specs.Image.{buckets_in, entry_in, bucket_part, lengths, next_in, slot_ok, slots_ok}
use Rattle.multi.proofs.RecordPlaces.{record_start_next, bucket_part-none, bucket_part_there}

-- ---- slots

-- the tests of a slot that has a record
abbrev pub there_tests : List ℕ → ℕ → List Bool
there_tests l c = eqb (entry_in l c) (next_in l c) ∷ single.record_ok largest_single (bucket_part l c) ∷ []

pub slot_none : (l : List ℕ) (c : ℕ) → entry_in l c ≡ 0 → slot_ok l c ≡ true
unfolding slot_ok
slot_none l c e = rw (eq-eqb (entry_in l c) 0 e)

pub slot_there : (l : List ℕ) (c : ℕ) → (entry_in l c ≡ 0 → ⊥)
    → slot_ok l c ≡ every (eqb (entry_in l c) (next_in l c) ∷ single.record_ok largest_single (bucket_part l c) ∷ [])
unfolding slot_ok
slot_there l c some = rw (ne_eqb (entry_in l c) 0 some)

-- what a pass over the slots goes on with: where the next record has to begin
abbrev pub next_or : List ℕ → ℕ → Option ℕ
next_or l c = cond (slot_ok l c) (Some (next_in l (c + 1))) None

-- no record: the next one begins where this one had to
pub next_none : (l : List ℕ) (c at : ℕ) → at ≡ next_in l c → entry_in l c ≡ 0 → Some at ≡ next_or l c
next_none l c at p e =
    let empty : length (bucket_part l c) ≡ 0 = ap length (bucket_part-none l c e) in
    let next : at ≡ next_in l (c + 1) = omega (arith, record_start_next (buckets_in l) (lengths (bucket_part l)) c) in
    rw (slot_none l c e) (ap Some next)

-- an entry that points elsewhere
pub next_elsewhere : (l : List ℕ) (c : ℕ) → (entry_in l c ≡ 0 → ⊥) → (entry_in l c ≡ next_in l c → ⊥) → None ≡ next_or l c
next_elsewhere l c some other = rw (slot_there l c some ∙ every_fail _ (ne_eqb _ _ other))

module _ (l : List ℕ) (c : ℕ) (some : entry_in l c ≡ 0 → ⊥) (at : ℕ) (begins : entry_in l c ≡ at) (due : at ≡ next_in l c) where
  same_part : single.record_part l at ≡ bucket_part l c
  same_part = sym (bucket_part_there l c some ∙ ap (single.record_part l) begins)

  -- no record begins where one has to
  pub next_bad : single.record_ok largest_single (single.record_part l at) ≡ false → None ≡ next_or l c
  next_bad bad =
      rw (slot_there l c some ∙ every_pass _ (eq-eqb _ _ (begins ∙ due))
      ∙ every_fail _ (sym (ap (single.record_ok largest_single) same_part) ∙ bad))

  -- one does: the next one begins behind it
  pub next_good : single.record_ok largest_single (single.record_part l at) ≡ true
      → Some (at + length (single.record_part l at)) ≡ next_or l c
  next_good good =
      let long : length (single.record_part l at) ≡ length (bucket_part l c) = ap length same_part in
      let next : at + length (single.record_part l at) ≡ next_in l (c + 1) =
      omega (arith, record_start_next (buckets_in l) (lengths (bucket_part l)) c) in
      rw (slot_there l c some ∙ every_pass _ (eq-eqb _ _ (begins ∙ due))
      ∙ every_pass _ (sym (ap (single.record_ok largest_single) same_part) ∙ good) ∙ every-none)
      (ap Some next)

-- the pass goes on, or ends
pub next_on : (l : List ℕ) (c next : ℕ) → Some next ≡ next_or l c → (slot_ok l c ≡ true) × (next ≡ next_in l (c + 1))
next_on l c next e = go (slot_ok l c) refl
  where
    go : (t : Bool) → slot_ok l c ≡ t → (slot_ok l c ≡ true) × (next ≡ next_in l (c + 1))
    go true f = let g = rw f at e in (f, cc)
    go false f = let g = rw f at e in cc

pub next_off : (l : List ℕ) (c : ℕ) → None ≡ next_or l c → slot_ok l c ≡ false
next_off l c e = go (slot_ok l c) refl
  where
    go : (t : Bool) → slot_ok l c ≡ t → slot_ok l c ≡ false
    go true f = let g = rw f at e in cc
    go false f = f

pub slots_none : (l : List ℕ) → slots_ok l 0 ≡ true
unfolding slots_ok
slots_none l = refl

pub slots_more : (l : List ℕ) (c : ℕ) → slots_ok l c ≡ true → slot_ok l c ≡ true → slots_ok l (c + 1) ≡ true
unfolding slots_ok
slots_more l c e f = rw add-one (every_pass _ e ∙ every_pass _ f ∙ every-none)

slots_split : (l : List ℕ) (c : ℕ) → slots_ok l (suc c) ≡ true → (slots_ok l c ≡ true) × (slot_ok l c ≡ true)
unfolding slots_ok
slots_split l c e = let ts = slots_ok l c ∷ slot_ok l c ∷ [] in (every-at ts 0 e, every-at ts 1 e)

pub slots_at : (l : List ℕ) (n c : ℕ) → slots_ok l n ≡ true → c < n → slot_ok l c ≡ true
slots_at l zero c e h = let z : ⊥ = omega arith in absurd z
slots_at l (suc n) c e h =
    let q = slots_split l n e in
    ⊎_elim (λ same. rw same q.1) (λ below. slots_at l n c q.0 below) (eq-or-lt_of_le (le_of_suc-le-suc h))

true_false : {A : Type 0} → true ≡ false → A
true_false e = absurd (subst (λ (b : Bool). T b) e tt)

-- one slot that fails
pub slots_fail : (l : List ℕ) (n c : ℕ) → c < n → slot_ok l c ≡ false → slots_ok l n ≡ false
slots_fail l n c h e = go (slots_ok l n) refl
  where
    go : (t : Bool) → slots_ok l n ≡ t → t ≡ false
    go true f = true_false (sym (slots_at l n c f h) ∙ e)
    go false f = refl
