-- `placement::walk::walk` meets its contract. The invariant: the slice shows the walk over the points passed. Assumes
-- nothing.
use mathlib.Core.Path.{ap, ◌∙◌}
use Prim.Native.Nat.{ℕ, ◌+◌, ◌*◌, ◌≤◌}
use native.Mathlib.Nat.{mul-le-mul}
use native.Mathlib.Omega.{arith}
use lib.ListN.{replicate}
use Rattle.placement.proofs.LimitLaws.{handed_on}
use Rattle.placement.proofs.TurnLaws.{placing-start, placing_ready, placing_next, placing_gave_up, placing_done}
use Rattle.placement.proofs.walk.walk.Goals as goal

pub loop-p-init : goal.loop-p-init
loop-p-init c =
    placing-start _ _ _ _ (c.fill.ensures.after (λ y same. same) ∙ ap (λ (k : ℕ). replicate k 0) c.requires.1)

-- the evictions so far are far below what fits
few : (n i ev : ℕ) → n ≤ 65535 → i ≤ n → ev ≤ (n + 1) * i → ev ≤ 65536 * 65535
few n i ev h l e =
    let below : n + 1 ≤ 65536 = omega arith in
    let within : i ≤ 65535 = omega arith in
    omega (arith, mul-le-mul below within)

pub insert-requires : goal.insert-requires
insert-requires c =
    let q = c.requires in
    let v = c.loop-p.invariant in
    let below = c.loop-p-test.true in
    (below, omega (arith, few _ _ _ q.0 v.at_most v.few), placing_ready _ _ _ _ _ _ v below)

pub returns-in_err-evictions-clause-stuck : goal.returns-in_err-evictions-clause-stuck
returns-in_err-evictions-clause-stuck c =
    let stuck = c.in_err-evictions.ensures.stuck in
    rw (handed_on _ c.from_residual.ensures.1)
    (stuck.0, placing_gave_up _ _ _ _ _ _ c.loop-p.invariant c.loop-p-test.true stuck.1)

pub returns-in_err-evictions-clause-placed : goal.returns-in_err-evictions-clause-placed
returns-in_err-evictions-clause-placed c = rw (handed_on _ c.from_residual.ensures.1) tt

pub loop-p-preserved : goal.loop-p-preserved
loop-p-preserved c =
    placing_next _ _ _ _ _ _ c.loop-p.invariant c.loop-p-test.true _ _ c.in_ok-evictions.ensures.placed

pub returns-clause-placed : goal.returns-clause-placed
returns-clause-placed c = placing_done _ _ _ _ _ _ c.loop-p.invariant c.loop-p-test.false
