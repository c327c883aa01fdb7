-- The known sums that are shown of the rules themselves (document 01, "Known sums", marked P), as one table under one claim.
-- The rows of the layers below stand with their rules. The proof is proofs/KnownSums.antt. Assumes nothing.
use Rattle.std.specs.Prelude.{◌≡◌, true, false, [], ◌∷◌, map, length, replicate}
use Rattle.words.specs.KnownSums.{KnownSums as WordSums}
use Rattle.words.specs.Refusals.{Place}
use Rattle.single.specs.KnownSums.{KnownSums as SingleSums, zero_hash}
use Rattle.placement.specs.Calls.{place_number}
use Rattle.placement.specs.KnownSums.{KnownSums as PlacementSums, all_zero}
use Rattle.multi.specs.Calls.{Given, given, image_length, generate_number, image_made}

-- D 1, B 1: value 5 at cell 0, two words, hash keys of zeros
abbrev pub one_cell : Given
one_cell = given 1 1 (replicate 48 0) (0 ∷ []) (5 ∷ []) (0 ∷ 0 ∷ 4 ∷ 0 ∷ [])

pub record KnownSums : Type 0 where
  -- the heights of 1, 2, 3, 4, 5 and 2^34, and the two sizes outside the limits; both halves 1, converted after the shift
  pub words : WordSums
  -- one cell, beta 5, low half 7; zero hash, 2 cells, beta 5 at 1; zero hash, 3 cells, beta 9 at 0
  pub single : SingleSums
  -- 3 cells in 2 buckets; 3 points in 3 buckets after 2 evictions; 2 points in one bucket, a third eviction; 1 cell in 1 bucket
  pub placement : PlacementSums
  -- where the third eviction leaves a point in hand, the refusal is Place: D 2, B 2, points 0 and 1, all functions 0
  pub place : place_number all_zero 2 2 (0 ∷ 1 ∷ []) 4 4 ≡ Place
  -- D 1, B 1: bucket 0 is 0,0,0 and S is 3 (rows of placement); the pair is made, and either image has 152 bytes
  pub accepted : generate_number (λ ks b. all_zero) one_cell 5 152 152 ≡ 0
  pub answered : image_length all_zero 1 1 ≡ 152
  pub written : map (λ p. length (image_made zero_hash (λ ks b. all_zero) one_cell p)) (false ∷ true ∷ []) ≡ 152 ∷ 152 ∷ []
