-- `placement::cells::sum_up` meets its contract. The invariant: the sums before the counters passed are in front, and `sum`
-- is the next one. Assumes nothing.
use mathlib.Core.Path.{◌≡◌, refl, sym, ap, ◌∙◌}
use mathlib.Core.List.{List}
use Prim.Native.Nat.{ℕ, ◌+◌, ◌<◌, ◌≤◌}
use native.Mathlib.Omega.{arith}
use lib.ListN.{length, get_or, set}
use lib.Seq.{get_or-set_other}
use Rattle.words.specs.Bytes.{put}
use Rattle.words.specs.Cells.{tab, sum_to}
use Rattle.words.proofs.ByteLaws.{put_nil, get_or-put}
use Rattle.words.proofs.CellLaws.{length-tab, put-tab, sum_to_next, sum_mono}
use Rattle.placement.specs.Passes.{sum_before}
use Rattle.placement.proofs.cells.sum_up.Goals as goal

pub loop-c-init : goal.loop-c-init
unfolding tab sum_before sum_to
loop-c-init c = (sym (put_nil _ _), refl)

-- the counter that is read is as it came
counter : (b : ℕ) (l₀ l : List ℕ) (c v : ℕ) → c < b → b + b ≤ length l₀ → l ≡ put l₀ 0 (tab (sum_before b l₀) c) → get_or (set l c v) (b + c) 0 ≡ get_or l₀ (b + c) 0
counter b l₀ l c v below fits e =
    get_or-set_other l c (b + c) v 0 (λ q. absurd (omega arith))
    ∙ ap (λ (k : List ℕ). get_or k (b + c) 0) e
    ∙ get_or-put l₀ (tab (sum_before b l₀) c) (b + c) (omega (arith, length-tab (sum_before b l₀) c)) (omega (arith, length-tab (sum_before b l₀) c))

-- and makes the next sum, which is at most that of all
next : (b : ℕ) (l₀ : List ℕ) (c : ℕ) → sum_before b l₀ (c + 1) ≡ sum_before b l₀ c + get_or l₀ (b + c) 0
unfolding sum_before
next b l₀ c = sum_to_next c _

most : (b : ℕ) (l₀ : List ℕ) (c : ℕ) → c ≤ b → sum_before b l₀ c ≤ sum_before b l₀ b
unfolding sum_before
most b l₀ c h = sum_mono _ c b h

pub overflow_add-sum-in-loop-c : goal.overflow_add-sum-in-loop-c
overflow_add-sum-in-loop-c c =
    let a = c.args in
    let l = c.loop-c in
    omega (
      arith,
      counter a.buckets a.work.now l.work l.c l.sum c.loop-c-test.true c.requires.1
          l.invariant.0,
      next a.buckets a.work.now l.c,
      most a.buckets a.work.now (l.c + 1) (omega arith),
      c.requires.2,
      l.invariant.1,
    )

pub loop-c-preserved : goal.loop-c-preserved
loop-c-preserved c =
    let a = c.args in
    let l = c.loop-c in
    let same = counter a.buckets a.work.now l.work l.c l.sum c.loop-c-test.true c.requires.1
    l.invariant.0 in (
      put-tab _ _ l.c _ l.invariant.0 l.invariant.1 (omega arith),
      omega (arith, same, next a.buckets a.work.now l.c, l.invariant.1),
    )

pub returns : goal.returns
returns c =
    let l = c.loop-c in
    let a = c.args in
    let e : l.c ≡ a.buckets = omega arith in
    l.invariant.0 ∙ ap (λ (k : ℕ). put a.work.now 0 (tab (sum_before a.buckets a.work.now) k)) e
