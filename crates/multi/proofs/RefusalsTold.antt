-- What is told as numbers is told whole: the number says which refusal it was, and the other fields what was answered.
-- Assumes nothing.
use Rattle.std.proofs.Common.{◌≡◌, ℕ, refl, sym, ap, ◌∙◌, Result, Ok, Err}
use Rattle.words.specs.declared.refusals.Refusal.{Refusal}
use Rattle.words.specs.Refusals.{outcome}
use Rattle.words.proofs.RefusalsTold.{told_whole}
use Rattle.multi.specs.declared.calls.Made.{Made}
use Rattle.multi.specs.declared.image.RecordPlace as code
use Rattle.multi.specs.Image.{told_place}
use Rattle.multi.specs.Calls.{told_made, told_share}
use Rattle.multi.specs.Promises.{RefusalsTold}

-- told by a number and what is held
module _ {A R : Type 0} (told : Result A Refusal → R) (number : R → ℕ) (held : R → A)
    (numbered : (r : Result A Refusal) → number (told r) ≡ outcome r) (kept : (a : A) → held (told (Ok a)) ≡ a) where
  whole : (r s : Result A Refusal) → told r ≡ told s → r ≡ s
  whole r s p =
      told_whole r s (sym (numbered r) ∙ ap number p ∙ numbered s)
      (λ a b e f. sym (kept a) ∙ ap held (ap told (sym e) ∙ p ∙ ap told f) ∙ kept b)

made_number : (r : Result Made Refusal) → (told_made r).number ≡ outcome r
made_number (Ok a) = refl
made_number (Err e) = refl

share_number : (r : Result ℕ Refusal) → (told_share r).number ≡ outcome r
share_number (Ok a) = refl
share_number (Err e) = refl

place_number : (r : Result code.RecordPlace Refusal) → (told_place r).number ≡ outcome r
place_number (Ok a) = refl
place_number (Err e) = refl

pub multi_told : RefusalsTold
multi_told = record {
  made = whole told_made (λ t. t.number) (λ t. record { length = t.length; words = t.words; evictions = t.evictions }) made_number (λ _. refl);
  shares = whole told_share (λ t. t.number) (λ t. t.share) share_number (λ _. refl);
  places = whole told_place (λ t. t.number) (λ t. record { start = t.start; bytes = t.bytes }) place_number (λ _. refl);
}
