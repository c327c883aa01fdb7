-- `placement::Functions::place` meets its contract: the walk over zeros gives up, or what it placed stands before
-- the zeros that are left. Assumes nothing.
use mathlib.Core.Path.{◌≡◌, sym, ap, ◌∙◌}
use mathlib.Core.List.{List, ◌++◌}
use Prim.Native.Nat.{ℕ, ◌+◌, ◌*◌, ◌≤◌}
use native.Mathlib.Nat.{mul-le-mul}
use native.Mathlib.Omega.{arith}
use lib.ListN.{length, drop, replicate}
use lib.Seq.{length-take-le}
use Rattle.words.specs.Bytes.{put}
use Rattle.words.specs.Cells.{zeroed}
use Rattle.words.proofs.CellLaws.{length-zeroed}
use Rattle.placement.specs.Walk.{Walk}
use Rattle.placement.specs.Passes.{walk_at}
use Rattle.placement.specs.Calls.{placed, walk_in, placing_over}
use Rattle.placement.proofs.LimitLaws.{gave_up, went}
use Rattle.placement.proofs.SliceLaws.{cells-walk_at}
use Rattle.placement.proofs.CallLaws.{part-put, placed_gave_up, placed-all, over_zeros}
use Rattle.placement.proofs.LayLaws.{zeroed_again}
use Rattle.placement.proofs.Functions.place.Goals as goal

-- what is needed, and what was lent to the walk: `whole` is the scratch once it is zeroed where needed
module _ (B more : ℕ) (pts scratch : List ℕ) where
  abbrev needed : ℕ
  needed = B + length pts + B * more

  lent : {whole : List ℕ} → needed ≤ length scratch → whole ≡ zeroed needed scratch → B + length pts ≤ length whole
  lent h zero = omega (arith, h, ap length zero, length-zeroed needed scratch)

  -- what the walk left in the part that it was lent, and the zeros behind it
  joined : {whole : List ℕ} (left : List ℕ) → length left ≡ B + length pts → whole ≡ zeroed needed scratch
      → left ++ drop (B + length pts) whole ≡ put (zeroed needed scratch) 0 left
  joined {whole = whole} left long zero = part-put _ whole left long ∙ ap (λ (k : List ℕ). put k 0 left) zero

pub slice_bounds-walk-end : goal.slice_bounds-walk-end
slice_bounds-walk-end c =
    let a = c.args in
    lent a.self.now.buckets a.more a.points.now a.scratch.now c.requires.2 c.zero_first.ensures

pub slice_bounds-walk-end-2 : goal.slice_bounds-walk-end-2
slice_bounds-walk-end-2 c =
    let a = c.args in
    sym (length-take-le _ _ (lent a.self.now.buckets a.more a.points.now a.scratch.now c.requires.2 c.zero_first.ensures))

pub walk-walked-requires : goal.walk-walked-requires
walk-walked-requires c =
    let a = c.args in (
      omega (arith, c.requires.1, a.self.now.few),
      length-take-le _ _ (lent a.self.now.buckets a.more a.points.now a.scratch.now c.requires.2 c.zero_first.ensures),
    )

-- ---- the ways out behind the walk
pub returns-then-is_err : goal.returns-then-is_err
unfolding placing_over walk_in
returns-then-is_err c =
    let a = c.args in
    let B : ℕ = a.self.now.buckets in
    let told = gave_up _ c.if-is_err.ensures.value c.walk-walked.ensures.stuck in
    let left : List ℕ = c.walk-walked.new.work in
    let fits = length-take-le (B + length a.points.now) c.zero_first.new.cells (lent B a.more a.points.now a.scratch.now c.requires.2 c.zero_first.ensures) in
    let long : length left ≡ B + length a.points.now = omega (arith, c.walk-walked.auto, fits) in
    let n : ℕ = needed B a.more a.points.now a.scratch.now in
    rw told.0 (ap (placed _) (c.zero_first-then-is_err.ensures
    ∙ ap (zeroed n) (joined B a.more a.points.now a.scratch.now left long c.zero_first.ensures)
    ∙ zeroed_again n a.scratch.now left c.requires.2 (omega (arith, long)))
    ∙ placed_gave_up _ _ _ _ _ _ _ c.requires.3 told.1)

pub returns-else-is_err : goal.returns-else-is_err
unfolding placing_over walk_in walk_at
returns-else-is_err c =
    let a = c.args in
    let B : ℕ = a.self.now.buckets in
    let told = went _ c.if-is_err.ensures.value c.walk-walked.ensures.placed in
    let left : List ℕ = c.walk-walked.new.work in
    let fits = length-take-le (B + length a.points.now) c.zero_first.new.cells (lent B a.more a.points.now a.scratch.now c.requires.2 c.zero_first.ensures) in
    let long : length left ≡ B + length a.points.now = omega (arith, c.walk-walked.auto, fits) in
    let hand = ap (λ (v : Walk). v.hand) told.1.1 in
    let evictions = ap (λ (v : Walk). v.evictions) told.1.1 in
    rw told.1.0 (placed-all _ _ _ _ _ _ _ c.requires.3 _ _ (sym hand) evictions
    (joined B a.more a.points.now a.scratch.now left long c.zero_first.ensures
    ∙ over_zeros _ _ a.scratch.now left long c.requires.2
    ∙ ap (λ (k : List ℕ). put a.scratch.now 0 (k ++ replicate (B * a.more) 0))
    (cells-walk_at _ _ _ _ _ told.1.1)))

-- ---- sums and products
pub overflow_mul-need : goal.overflow_mul-need
overflow_mul-need c = omega (arith, mul-le-mul c.args.self.now.few c.requires.0)

pub overflow_add-need : goal.overflow_add-need
overflow_add-need c = omega (arith, c.args.self.now.few, c.requires.1, mul-le-mul c.args.self.now.few c.requires.0)
