-- Laws of what making was given and did not refuse.
--     early       Early, early: what the early refusals leave; early_long, early_placeable: a part of the scratch will do
--     answer 0    given_early, given-placed: what it says
-- Assumes nothing.
use mathlib.Core.Path.{◌≡◌, ap, ◌∙◌}
use mathlib.Core.Bool.{true, not}
use mathlib.Core.List.{List, ◌++◌}
use Prim.Native.Nat.{ℕ, ◌+◌, ◌≤◌}
use native.Mathlib.Omega.{arith}
use borrow.Author.Tests.{eqb-true, le-ltb, ltb-false, not-false}
use lib.ListN.{length}
use Rattle.words.specs.Limits.{largest_multi, most_buckets}
use Rattle.words.specs.Refusals.{first}
use Rattle.words.proofs.TestLaws.{first-none, first_miss, first-clear}
use Rattle.placement.specs.Shares.{rising_from}
use Rattle.placement.specs.Calls.{walk_in, place_rows, placeable}
use Rattle.multi.specs.Calls.{Given, generate_room, functions, generate_early, generate_late, generate_number}
use Rattle.multi.proofs.CallLaws.{first_front}

-- ---- what the early refusals leave

pub record Early (g : Given) (len : ℕ) : Type 0 where
  pub some_cells : 1 ≤ g.domain
  pub few_cells : g.domain ≤ largest_multi
  pub some_buckets : 1 ≤ g.buckets
  pub few_buckets : g.buckets ≤ most_buckets
  pub some_points : 1 ≤ length g.points
  pub few_points : length g.points ≤ g.buckets
  pub paired : length g.values ≡ length g.points
  pub rising : rising_from 0 g.domain g.points ≡ true
  pub room : generate_room g ≤ len

pub early : (g : Given) (len : ℕ) → first (generate_early g len) ≡ 0 → Early g len
early g len e =
    let rows = generate_early g len in
    record {
      some_cells = ltb-false _ _ (first-clear rows 0 tt e);
      few_cells = ltb-false _ _ (first-clear rows 1 tt e);
      some_buckets = ltb-false _ _ (first-clear rows 2 tt e);
      few_buckets = ltb-false _ _ (first-clear rows 3 tt e);
      some_points = ltb-false _ _ (first-clear rows 4 tt e);
      few_points = ltb-false _ _ (first-clear rows 5 tt e);
      paired = eqb-true _ _ (not-false _ (first-clear rows 6 tt e));
      rising = not-false _ (first-clear rows 7 tt e);
      room = ltb-false _ _ (first-clear rows 8 tt e);
    }

-- the tests know no more of the scratch than that there is room
pub early_long : (g : Given) (len more : ℕ) → first (generate_early g len) ≡ 0 → generate_room g ≤ more → Early g more
early_long g len more e room =
    let q = early g len e in
    record {
      some_cells = q.some_cells;
      few_cells = q.few_cells;
      some_buckets = q.some_buckets;
      few_buckets = q.few_buckets;
      some_points = q.some_points;
      few_points = q.few_points;
      paired = q.paired;
      rising = q.rising;
      room = room;
    }

-- laying out refuses none of it, in a part of the scratch
pub early_placeable : (g : Given) (len part : ℕ) → Early g len → generate_room g ≤ part
    → placeable g.domain g.buckets g.points part (g.buckets + length g.points + g.buckets + g.buckets) ≡ 0
unfolding placeable place_rows
early_placeable g len part q room =
    first_miss _ _ (le-ltb _ _ q.some_cells)
    ∙ first_miss _ _ (le-ltb _ _ q.few_cells)
    ∙ first_miss _ _ (le-ltb _ _ q.some_buckets)
    ∙ first_miss _ _ (le-ltb _ _ q.few_buckets)
    ∙ first_miss _ _ (le-ltb _ _ q.some_points)
    ∙ first_miss _ _ (le-ltb _ _ q.few_points)
    ∙ first_miss _ _ (ap not q.rising)
    ∙ first_miss _ _ (le-ltb part (g.buckets + length g.points + g.buckets + g.buckets) (omega arith))
    ∙ first-none

-- ---- an answer of 0

module _ (bucket : List ℕ → ℕ → ℕ → ℕ → ℕ) (g : Given) (len room0 room1 : ℕ)
    (e : generate_number bucket g len room0 room1 ≡ 0) where
  pub given_early : Early g len
  unfolding generate_number
  given_early = early g len (first_front (generate_early g len) (generate_late bucket g room0 room1) e)

  pub given-placed : (walk_in (functions bucket g) g.buckets g.points).hand ≡ 0
  unfolding generate_number
  given-placed = eqb-true _ _ (not-false _ (first-clear (generate_early g len ++ generate_late bucket g room0 room1) 9 tt e))
