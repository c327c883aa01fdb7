-- Laws of the public calls' tests.
--     rows         first_front: where nothing is answered, nothing was answered early; avoids, first_avoids: a number that no
--                  row has is not answered
--     an image     image-refused, image_passed: a call on it as a whole
--     alike        alike-none, alike_next, alike_all, alike_at, alike_fails, alike_ext: two functions agree below n
-- Assumes nothing.
use mathlib.Core.Path.{◌≡◌, refl, sym, ap, ap₂, ◌∙◌}
use mathlib.Core.Bool.{Bool, true, false, not, cond}
use mathlib.Core.Logic.{⊎_elim}
use mathlib.Core.List.{List, [], ◌∷◌, ◌++◌}
use Prim.Native.Nat.{ℕ, zero, suc, ◌+◌, ◌<◌}
use native.Mathlib.Nat.{eq-or-lt_of_le, le_of_suc-le-suc}
use native.Mathlib.Numerals.{add-one}
use native.Mathlib.Omega.{arith}
use native.Mathlib.Decide.{ℕ_discrete}
use lib.Dec.{T, eqb, ltb}
use borrow.Author.Tests.{ltb-true, eqb-true, eqb-false, eq-eqb, ne_eqb}
use Rattle.words.specs.Cells.{zeroed}
use Rattle.words.specs.Refusals.{Mismatch, every, first, on_success}
use Rattle.words.proofs.TestLaws.{every-none, every_pass, every-at, numbered}
use Rattle.placement.proofs.LimitLaws.{before, past}
use Rattle.multi.specs.Calls.{alike, functions_in, matches, late, scratch_read}
use Rattle.multi.specs.Reading.{matches_by, found}

-- ---- rows in two parts

pub first_front : (rows late : List (Bool × ℕ)) → first (rows ++ late) ≡ 0 → first rows ≡ 0
first_front rows late e =
    elim (ℕ_discrete (first rows) 0) [ yes z ↦ z | no some ↦ absurd (some (sym (before rows late some) ∙ e)) ]

true_of : (t : Bool) → T t → t ≡ true
true_of true h = refl
true_of false h = absurd h

abbrev pub avoids : ℕ → List (Bool × ℕ) → Bool
avoids m [] = ltb 0 m
avoids m (row ∷ rows) = cond (eqb row.1 m) false (avoids m rows)

pub first_avoids : (m : ℕ) (rows : List (Bool × ℕ)) → T (avoids m rows) → first rows ≡ m → ⊥
unfolding first
first_avoids m [] h e = omega (arith, ltb-true 0 m (true_of (ltb 0 m) h))
first_avoids m (row ∷ rows) h e = go (eqb row.1 m) refl row.0 (first_avoids m rows) h e
  where
    go : (u : Bool) → eqb row.1 m ≡ u → (t : Bool) → (T (avoids m rows) → first rows ≡ m → ⊥)
        → T (cond u false (avoids m rows))
        → cond t row.1 (first rows) ≡ m → ⊥
    go true q t rec h e = absurd h
    go false q true rec h e = eqb-false _ _ q e
    go false q false rec h e = rec h e

-- ---- a call on an image

-- its number, scratch and value at exit make up what it gives; the value is x on success, and o where it is refused

module _ {A X : Type 0} (make : ℕ → List ℕ → X → A) (bucket : List ℕ → ℕ → ℕ → ℕ → ℕ) (l : List ℕ) (early : List (Bool × ℕ))
    (need : ℕ)
    (s : List ℕ) (x o : X) where
  -- by its number
  abbrev numbering : ℕ → A
  numbering n = make n (scratch_read n need s) (on_success n x o)

  abbrev called : A
  called = numbering (first (early ++ late bucket l))

  pub image-refused : (n : ℕ) → T (avoids Mismatch early) → n ≡ first early → (n ≡ 0 → ⊥) → make n s o ≡ called
  image-refused n away e some =
      let same : first (early ++ late bucket l) ≡ n = before early (late bucket l) (λ z. some (e ∙ z)) ∙ sym e in
      sym (ap numbering same ∙ go n some (λ z. first_avoids Mismatch early away (sym e ∙ z)))
    where
      go : (k : ℕ) → (k ≡ 0 → ⊥) → (k ≡ Mismatch → ⊥) → numbering k ≡ make k s o
      go zero some other = absurd (some refl)
      go (suc k) some other = rw (ne_eqb (suc k) Mismatch other)

  -- the late test
  late_is : T (numbered early) → first early ≡ 0 → first (early ++ late bucket l) ≡ found (functions_in bucket l) l
  unfolding matches first
  late_is fair e = past early (late bucket l) fair e ∙ go (matches_by (functions_in bucket l) l)
    where
      go : (t : Bool) → cond (not t) Mismatch 0 ≡ cond t 0 Mismatch
      go true = refl
      go false = refl

  pub image_passed : T (numbered early) → first early ≡ 0 → (r : ℕ) (m : List ℕ) (y : X)
      → (r ≡ found (functions_in bucket l) l) × ((m ≡ zeroed need s) × (y ≡ cond (matches_by (functions_in bucket l) l) x o))
      → make r m y ≡ called
  image_passed fair e r m y q = rw (q.0, q.1.0, q.1.1, late_is fair e) (go (matches_by (functions_in bucket l) l))
    where
      go : (t : Bool) → make (cond t 0 Mismatch) (zeroed need s) (cond t x o) ≡ numbering (cond t 0 Mismatch)
      go true = refl
      go false = refl

-- ---- two functions that agree

module _ (f g : ℕ → ℕ) where
  pub alike-none : alike f g 0 ≡ true
  unfolding alike
  alike-none = refl

  pub alike_next : (n : ℕ) → alike f g n ≡ true → f n ≡ g n → alike f g (n + 1) ≡ true
  unfolding alike
  alike_next n e same = rw add-one (every_pass _ e ∙ every_pass _ (eq-eqb (f n) (g n) same) ∙ every-none)

  pub alike_all : (n : ℕ) → ((i : ℕ) → i < n → f i ≡ g i) → alike f g n ≡ true
  unfolding alike
  alike_all zero h = refl
  alike_all (suc n) h =
      every_pass _ (alike_all n (λ i l. h i (omega arith))) ∙ every_pass _ (eq-eqb (f n) (g n) (h n (omega arith))) ∙ every-none

  pub alike_at : (n i : ℕ) → alike f g n ≡ true → i < n → f i ≡ g i
  unfolding alike
  alike_at zero i e l = let z : ⊥ = omega arith in absurd z
  alike_at (suc n) i e l =
      let ts = alike f g n ∷ eqb (f n) (g n) ∷ [] in
      ⊎_elim (λ same. rw same (eqb-true _ _ (every-at ts 1 e))) (λ less. alike_at n i (every-at ts 0 e) less)
      (eq-or-lt_of_le (le_of_suc-le-suc l))

  pub alike_fails : (n i : ℕ) → i < n → (f i ≡ g i → ⊥) → alike f g n ≡ false
  alike_fails n i l other = go (alike f g n) refl
    where
      go : (t : Bool) → alike f g n ≡ t → t ≡ false
      go true e = absurd (other (alike_at n i e l))
      go false e = refl

-- two functions that agree below n are held against a third alike
pub alike_ext : (f g k : ℕ → ℕ) (n : ℕ) → ((i : ℕ) → i < n → g i ≡ k i) → alike f g n ≡ alike f k n
unfolding alike
alike_ext f g k zero same = refl
alike_ext f g k (suc n) same =
    ap₂ (λ (t : Bool) (x : ℕ). every (t ∷ eqb (f n) x ∷ [])) (alike_ext f g k n (λ i l. same i (omega arith)))
    (same n (omega arith))
