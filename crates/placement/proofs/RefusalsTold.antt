-- What is told as numbers is told whole. Assumes nothing.
use Rattle.std.proofs.Common.{◌≡◌, ℕ, ap, arith, Result, Ok, Err}
use Rattle.words.specs.declared.refusals.Refusal.{Refusal}
use Rattle.words.proofs.RefusalsTold.{refusals_told}
use Rattle.placement.specs.declared.Spots.{Spots as FoundSpots}
use Rattle.placement.specs.Answers.{Placed, Spots, told_placed, told_spots}
use Rattle.placement.specs.Promises.{RefusalsTold}

pub placement_told : RefusalsTold
placement_told = record { placed = placed; spots = spots }
  where
    placed : (r s : Result ℕ Refusal) → told_placed r ≡ told_placed s → r ≡ s
    placed (Ok a) (Ok b) p = ap (λ (t : Placed). Ok t.evictions) p
    placed (Ok a) (Err e) p = let z : ⊥ = omega (arith, refusals_told.some e, ap (λ (t : Placed). t.number) p) in absurd z
    placed (Err d) (Ok b) p = let z : ⊥ = omega (arith, refusals_told.some d, ap (λ (t : Placed). t.number) p) in absurd z
    placed (Err d) (Err e) p = ap Err (refusals_told.numbers d e (ap (λ (t : Placed). t.number) p))

    had : Spots → FoundSpots
    had t = record {
      first = record { bucket = t.bucket0; at = t.at0 };
      second = record { bucket = t.bucket1; at = t.at1 };
      third = record { bucket = t.bucket2; at = t.at2 };
    }

    spots : (r s : Result FoundSpots Refusal) → told_spots r ≡ told_spots s → r ≡ s
    spots (Ok a) (Ok b) p = ap (λ (t : Spots). Ok (had t)) p
    spots (Ok a) (Err e) p = let z : ⊥ = omega (arith, refusals_told.some e, ap (λ (t : Spots). t.number) p) in absurd z
    spots (Err d) (Ok b) p = let z : ⊥ = omega (arith, refusals_told.some d, ap (λ (t : Spots). t.number) p) in absurd z
    spots (Err d) (Err e) p = ap Err (refusals_told.numbers d e (ap (λ (t : Spots). t.number) p))
