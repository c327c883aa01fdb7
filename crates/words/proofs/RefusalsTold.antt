-- What is told as numbers is told whole: a refusal is had back from its number. Assumes nothing.
--     refusal_no n      the refusal with the number n; back: it is the refusal that had it
--     some              a refusal's number is not that of success; is_ok_told: a result with that number is Ok
--     told_whole        results are equal where their numbers and what they hold are
use Rattle.std.proofs.Common.{◌≡◌, ℕ, ◌==◌, ◌≤◌, cond, sym, refl, ap, ◌∙◌, arith, Result, Ok, Err}
use Rattle.std.specs.Result.{IsOk}
use Rattle.words.specs.declared.refusals.Refusal.{Refusal}
use Rattle.words.specs.declared.refusals.Refusal.TheVariants as refusal
use Rattle.words.specs.Height.{Tree, told}
use Rattle.words.specs.Refusals.{number_of, outcome}
use Rattle.words.specs.Promises.{RefusalsTold}

refusal_no : ℕ → Refusal
refusal_no n =
    cond (n == 1) refusal.Domain (cond (n == 2) refusal.Buckets (cond (n == 3) refusal.Count (cond (n == 4) refusal.Point
    (cond (n == 5) refusal.Scratch (cond (n == 6) refusal.Place (cond (n == 7) refusal.Words (cond (n == 8) refusal.Room
    (cond (n == 9) refusal.Key (cond (n == 10) refusal.Index (cond (n == 11) refusal.Table refusal.Mismatch))))))))))

back : (e : Refusal) → refusal_no (number_of e) ≡ e
unfolding refusal_no
back refusal.Domain = refl
back refusal.Buckets = refl
back refusal.Count = refl
back refusal.Point = refl
back refusal.Scratch = refl
back refusal.Place = refl
back refusal.Words = refl
back refusal.Room = refl
back refusal.Key = refl
back refusal.Index = refl
back refusal.Table = refl
back refusal.Mismatch = refl

pub some : (e : Refusal) → 1 ≤ number_of e
some refusal.Domain = omega arith
some refusal.Buckets = omega arith
some refusal.Count = omega arith
some refusal.Point = omega arith
some refusal.Scratch = omega arith
some refusal.Place = omega arith
some refusal.Words = omega arith
some refusal.Room = omega arith
some refusal.Key = omega arith
some refusal.Index = omega arith
some refusal.Table = omega arith
some refusal.Mismatch = omega arith

pub numbers : (d e : Refusal) → number_of d ≡ number_of e → d ≡ e
numbers d e p = sym (back d) ∙ ap refusal_no p ∙ back e

pub is_ok_told : {A : Type 0} (r : Result A Refusal) → outcome r ≡ 0 → IsOk r
is_ok_told (Ok a) p = refl
is_ok_told (Err e) p = let z : ⊥ = omega (arith, some e) in absurd z

-- results with one number, that hold the same where it is 0
pub told_whole : {A : Type 0} (r s : Result A Refusal) → outcome r ≡ outcome s → ((a b : A) → r ≡ Ok a → s ≡ Ok b → a ≡ b) → r ≡ s
told_whole (Ok a) (Ok b) p same = ap Ok (same a b refl refl)
told_whole (Ok a) (Err e) p same = let z : ⊥ = omega (arith, some e) in absurd z
told_whole (Err d) (Ok b) p same = let z : ⊥ = omega (arith, some d) in absurd z
told_whole (Err d) (Err e) p same = ap Err (numbers d e p)

pub refusals_told : RefusalsTold
refusals_told = record {
  numbers = numbers;
  some = some;
  outcomes = λ r s p. told_whole r s p (λ a b _ _. refl);
  heights = heights;
}
  where
    heights : (r s : Result ℕ Refusal) → told r ≡ told s → r ≡ s
    heights (Ok a) (Ok b) p = ap (λ (t : Tree). Ok t.height) p
    heights (Ok a) (Err e) p = let z : ⊥ = omega (arith, some e, ap (λ (t : Tree). t.number) p) in absurd z
    heights (Err d) (Ok b) p = let z : ⊥ = omega (arith, some d, ap (λ (t : Tree). t.number) p) in absurd z
    heights (Err d) (Err e) p = ap Err (numbers d e (ap (λ (t : Tree). t.number) p))
