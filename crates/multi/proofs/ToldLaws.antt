-- A refusal is no success. Assumes nothing.
--     refuses    its number is not 0
use Rattle.std.proofs.Common.{◌≡◌, arith}
use Rattle.words.specs.declared.refusals.Refusal.{Refusal}
use Rattle.words.specs.Refusals.{number_of}
use Rattle.words.proofs.RefusalsTold.{some}

pub refuses : (e : Refusal) → number_of e ≡ 0 → ⊥
refuses e z = omega (arith, some e)
