-- What the public calls answer, as numbers: 0 and what was asked, or the number of the refusal and zeros.
--     Placed           of placing points: the number and all evictions
--     Spots            of a cell: the number, its three buckets, and its position in each
--     told_placed r     what a result of the code tells as these; told_spots r
-- Assumes nothing.
use Rattle.std.specs.Prelude.{ℕ, Result, Ok, Err}
use Rattle.words.specs.declared.refusals.Refusal.{Refusal}
use Rattle.words.specs.Refusals.{number_of}
use Rattle.placement.specs.declared.Spots.{Spots as FoundSpots}

pub record Placed : Type 0 where
  pub number : ℕ
  pub evictions : ℕ

pub record Spots : Type 0 where
  pub number : ℕ
  pub bucket0 : ℕ
  pub bucket1 : ℕ
  pub bucket2 : ℕ
  pub at0 : ℕ
  pub at1 : ℕ
  pub at2 : ℕ

abbrev pub told_placed : Result ℕ Refusal → Placed
told_placed (Ok e) = record { number = 0; evictions = e }
told_placed (Err e) = record { number = number_of e; evictions = 0 }

abbrev pub told_spots : Result FoundSpots Refusal → Spots
told_spots (Ok s) = record {
  number = 0;
  bucket0 = s.first.bucket;
  bucket1 = s.second.bucket;
  bucket2 = s.third.bucket;
  at0 = s.first.at;
  at1 = s.second.at;
  at2 = s.third.at;
}
told_spots (Err e) = record { number = number_of e; bucket0 = 0; bucket1 = 0; bucket2 = 0; at0 = 0; at1 = 0; at2 = 0 }
