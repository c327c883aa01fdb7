-- A made record is the single key's over the bucket's entries, or none where there are none: size, count and bounds are those
-- of the single key. Words are counted up bucket by bucket.
--     made_some, made_none     a made record, where the bucket has entries and where it has none
--     used_before_next, used_before_mono     the words used before a bucket, and before a later one
-- Assumes nothing.
use mathlib.Core.Path.{◌≡◌, sym, ap, ◌∙◌}
use mathlib.Core.Bool.{Bool}
use mathlib.Core.List.{List}
use Prim.Native.Nat.{ℕ, zero, suc, ◌+◌, ◌-◌, ◌^◌, ◌≤◌, ◌<◌}
use native.Mathlib.Nat.{not-suc-le-zero, le_refl}
use native.Mathlib.Numerals.{add-one}
use native.Mathlib.Omega.{arith}
use native.Mathlib.Decide.{ℕ_discrete}
use lib.ListN.{get_or, length}
use lib.Pow.{pow_pos}
use borrow.Author.Tests.{eq-eqb, ne_eqb}
use Rattle.words.specs.declared.Word.{Word}
use Rattle.words.specs.Word.{Fits, On128}
use Rattle.words.specs.Height.{height}
use Rattle.words.proofs.CellLaws.{sum_to_next}
use Rattle.words.proofs.WordLaws.{fits-none}
use Rattle.words.specs.Cells.{word_no}
use Rattle.single.specs.Rules.{Record, made}
use Rattle.single.specs.Record.{no_record}
use Rattle.single.specs.Promises.{all_nil, FitsRecord}
use Rattle.single.proofs.MadeFits.{made-fits}
use Rattle.placement.specs.Buckets.{size_of}
use Rattle.placement.specs.Shares.{alpha_of, beta_of}
use Rattle.multi.specs.Rules.{words_for, used_before, made_record}
use Rattle.multi.specs.Promises.{RecordsMade}

-- ---- one record

module _ (H : Word → Word) (w : ℕ) (h : ℕ → ℕ → ℕ) (D : ℕ) (pts vs t ws : List ℕ) (p : Bool) (b : ℕ) where
  pub made_some : 0 < size_of h D b → made_record H w h D pts vs t ws p b
      ≡ made H (size_of h D b) (alpha_of h D pts t b) (word_no ws (used_before h D b)) (word_no ws (used_before h D b + 1)) w
      (beta_of vs t b) p
  unfolding made_record
  made_some some = rw (ne_eqb (size_of h D b) 0 (omega arith))

  pub made_none : size_of h D b ≡ 0 → made_record H w h D pts vs t ws p b ≡ no_record
  unfolding made_record
  made_none none = rw (eq-eqb (size_of h D b) 0 none)

  pub made-size : (made_record H w h D pts vs t ws p b).size ≡ size_of h D b
  made-size = elim (ℕ_discrete (size_of h D b) 0) [
    | yes e ↦ ap (λ (r : Record). r.size) (made_none e) ∙ sym e
    | no n ↦ ap (λ (r : Record). r.size) (made_some (omega arith)) ∙ made-fits.sized H _ _ _ _ w _ p
  ]

  pub made-count : 0 < size_of h D b → length (made_record H w h D pts vs t ws p b).cws ≡ height (size_of h D b) - 1
  made-count some = ap (λ (r : Record). length r.cws) (made_some some) ∙ made-fits.counted H _ _ _ _ w _ p

-- ---- what fits

pub fits_word : (ws : List ℕ) (i : ℕ) → ((k : ℕ) → get_or ws k 0 < 2 ^ 64) → Fits (word_no ws i)
unfolding word_no
fits_word ws i low = record { low = low _; high = low _ }

fits_none_record : (w : ℕ) → FitsRecord w no_record
fits_none_record w = record { seed = fits-none; hcw = fits-none; last = pow_pos w; cws = all_nil }

module _ (H : Word → Word) (fits-H : On128 H) (w : ℕ) (h : ℕ → ℕ → ℕ) (D : ℕ) (pts vs t ws : List ℕ)
    (low : (i : ℕ) → get_or ws i 0 < 2 ^ 64) where
  pub made_fit : (p : Bool) (b : ℕ) → FitsRecord w (made_record H w h D pts vs t ws p b)
  made_fit p b = elim (ℕ_discrete (size_of h D b) 0) [
    | yes e ↦ rw (made_none H w h D pts vs t ws p b e) (fits_none_record w)
    | no n ↦ rw (made_some H w h D pts vs t ws p b (omega arith))
        (made-fits.fits H fits-H _ _ _ _ (fits_word ws _ low) (fits_word ws _ low) w _ p)
  ]

-- ---- words used

module _ (h : ℕ → ℕ → ℕ) (D : ℕ) where
  pub used_before_next : (b : ℕ) → used_before h D (b + 1) ≡ used_before h D b + words_for (size_of h D b)
  unfolding used_before
  used_before_next b = sum_to_next b (λ c. words_for (size_of h D c))

  pub used_before_mono : (b c : ℕ) → b < c → used_before h D b + words_for (size_of h D b) ≤ used_before h D c
  used_before_mono b zero l = absurd (not-suc-le-zero l)
  used_before_mono b (suc c) l = elim (ℕ_discrete b c) [
    | yes e ↦ rw (e, ← add-one c, used_before_next c) (le_refl _)
    | no n ↦ rw (← add-one c, used_before_next c) (omega (arith, used_before_mono b c (omega arith)))
  ]

pub records-made : RecordsMade
records-made = record {
  sized = made-size;
  counted = made-count;
  fits = λ H on w h D pts vs t ws low p b. made_fit H on w h D pts vs t ws low p b;
  within = λ h D B b l. used_before_mono h D b B l;
  apart = used_before_mono;
}
