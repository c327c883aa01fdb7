-- Demand 3 for images as bytes: what a maker wrote is read back, so its shares are those of the rules, and the sum rule of its
-- kind adds them up.
--     one-adds, many_adds     the two shares of a cell of a single pair, and of a multi pair
-- Assumes nothing.
use mathlib.Core.Path.{◌≡◌, sym, ap, ap₂, ◌∙◌}
use mathlib.Core.Bool.{Bool, true, false}
use mathlib.Core.List.{List}
use Prim.Native.Nat.{ℕ, ◌+◌, ◌%◌, ◌^◌, ◌≤◌, ◌<◌}
use native.Mathlib.Omega.{arith}
use borrow.Author.Tests.{ltb-false}
use lib.ListN.{length, get_or}
use Rattle.words.specs.Limits.{largest_single}
use Rattle.words.specs.declared.Word.{Word}
use Rattle.words.specs.Word.{On128}
use Rattle.words.proofs.TestLaws.{first-clear}
use Rattle.single.specs.Rules as rule
use Rattle.single.specs.Calls as one
use Rattle.single.specs.Demand.{PostingOf}
use Rattle.single.proofs.SharesSum.{shares_sum}
use Rattle.single.proofs.TableSums.{demand3}
use Rattle.single.proofs.SingleDemand3.{image-share}
use Rattle.single.proofs.MadeIsTaken as one_taken
use Rattle.placement.specs.Shares.{at_points, posted}
use Rattle.placement.specs.Calls.{walk_in}
use Rattle.placement.proofs.WalkLaws.{placed}
use Rattle.placement.proofs.PointLaws.{rising_is}
use Rattle.multi.specs.Calls.{Given, functions, image_made, share_in}
use Rattle.multi.specs.Promises.{Below, Accepted}
use Rattle.multi.specs.Demand.{AcceptedOne, answer_of, share_of, Pair, one_point, many_points, posted_by, image_of, PairsAddUp}
use Rattle.multi.proofs.GivenLaws.{given_early, given-placed}
use Rattle.multi.proofs.MadeKeysRead.{made_keys_read}
use Rattle.multi.proofs.SharesSum.{sum_placed}

-- ---- single pairs

-- what a maker's answer of 0 says of the domain
pub one_limits : (S : ℕ) (q : AcceptedOne S) → (1 ≤ S) × (S ≤ largest_single)
unfolding one.generate_number one.generate_tests
one_limits S q =
    let rows = one.generate_tests S q.α (length q.words) q.room0 q.room1 in
    (ltb-false _ _ (first-clear rows 0 tt q.number), ltb-false _ _ (first-clear rows 1 tt q.number))

pub one-posting : (H : Word → Word) (S : ℕ) (q : AcceptedOne S) → PostingOf H S q.α q.β q.words
one-posting H S q = (one_taken.made_is_taken).succeeded H S q.α q.β q.words q.room0 q.room1 q.halves q.number

one-adds : (H : Word → Word) → On128 H → (S : ℕ) (q : AcceptedOne S) (x : ℕ) → x < S
    → (one.share_in H (one.image_made H S q.α q.β q.words false) x
    + one.share_in H (one.image_made H S q.α q.β q.words true) x) % 2 ^ 64
    ≡ rule.point q.α q.β x % 2 ^ 64
one-adds H on S q x inside =
    let lim = one_limits S q in
    let made = one-posting H S q in
    let post = made.posting in
    let each : (p : Bool) → one.share_in H (one.image_made H S q.α q.β q.words p) x
    ≡ rule.share H 64 p (rule.made H S post.α post.r0 post.r1 64 post.β p) x =
    λ p. ap (λ (l : List ℕ). one.share_in H l x) (sym (made.images p)) ∙ image-share H on S lim.0 lim.1 p post x in
    ap₂ (λ (a b : ℕ). (a + b) % 2 ^ 64) (each false) (each true)
    ∙ shares_sum H 64 S post.α post.β post.r0 post.r1 (omega (arith, lim.1)) post.inside x inside
    ∙ ap₂ (λ (a b : ℕ). rule.point a b x % 2 ^ 64) made.point made.value

-- ---- multi pairs

many_adds : (H : Word → Word) → On128 H → (bucket : List ℕ → ℕ → ℕ → ℕ → ℕ) → Below bucket → (g : Given) → Accepted bucket g
    → (x : ℕ) → x < g.domain
    → (share_in H bucket (image_made H bucket g false) x + share_in H bucket (image_made H bucket g true) x) % 2 ^ 64
    ≡ posted g.points g.values x % 2 ^ 64
unfolding walk_in at_points
many_adds H on bucket low g a x inside =
    let h = functions bucket g in
    let q = given_early bucket g a.scratch a.room0 a.room1 a.number in
    let none = given-placed bucket g a.scratch a.room0 a.room1 a.number in
    let rising = rising_is g.domain g.points q.rising in
    let place =
    placed (at_points h g.points) g.buckets (length g.points)
    (λ k p lk lp. low g.keys g.buckets k (get_or g.points p 0) q.some_buckets) none in
    ap₂ (λ (b c : ℕ). (b + c) % 2 ^ 64) ((made_keys_read H on bucket low g a false).shares x inside)
    ((made_keys_read H on bucket low g a true).shares x inside)
    ∙ sum_placed H 64 h g.domain g.points g.values (walk_in h g.buckets g.points).table g.words
    g.buckets rising place (omega (arith, q.few_cells)) q.paired x inside

-- ---- a pair of either kind

module _ (H : Word → Word) (on : On128 H) (bucket : List ℕ → ℕ → ℕ → ℕ → ℕ) (low : Below bucket) (D : ℕ) where
  pub pair_adds_up : (q : Pair H bucket D) (x : ℕ) → x < D
      → (share_of H bucket (image_of H bucket D false q) x + share_of H bucket (image_of H bucket D true q) x) % 2 ^ 64
      ≡ posted_by H bucket D q x % 2 ^ 64
  pair_adds_up (one_point q) x inside = one-adds H on D q x inside
  pair_adds_up (many_points g a e) x inside = many_adds H on bucket low g a x (omega arith)

pub pairs_add_up : PairsAddUp
pairs_add_up H on bucket low D =
    demand3 (answer_of H bucket) 64 (share_of H bucket) (image_of H bucket D) (posted_by H bucket D) D
    (pair_adds_up H on bucket low D)
