-- `placement::walk::insert` meets its contract. The invariant: what is left of the tries comes to what they all come to.
-- Assumes nothing.
use mathlib.Core.Path.{◌≡◌, refl, ap, ◌∙◌}
use Rattle.std.proofs.Common.{ℕ, Err, IfErr}
use Rattle.words.specs.declared.refusals.Refusal.TheVariants as refusal
use native.Mathlib.Omega.{arith}
use Rattle.placement.specs.Walk.{Walk}
use Rattle.placement.specs.Passes.{label, walk_at}
use Rattle.placement.proofs.SliceLaws.{sound-hand, label-some, label-none}
use Rattle.placement.proofs.TurnLaws.{trying_start, trying_done, trying_out, trying_step}
use Rattle.placement.proofs.walk.insert.Goals as goal

pub loop-tries-init : goal.loop-tries-init
loop-tries-init c = trying_start _ _ _ _ _ _ c.requires.2

-- Place is told of a walk that gave up
stuck : {Q : Type 0} → Q → IfErr {T = ℕ} (Err refusal.Place) (λ e. (e ≡ refusal.Place) × Q)
stuck q = (refl, q)

pub returns-in_default-clause-placed : goal.returns-in_default-clause-placed
returns-in_default-clause-placed c =
    trying_done _ _ _ _ _ _ _ 0 _ _ (rw (ap label c.in_default.is) at c.loop-tries.invariant) refl

pub step-hand-requires : goal.step-hand-requires
step-hand-requires c =
    let v = c.loop-tries.invariant in
    let e = ap label c.in-Some.is in
    (omega (arith, e, sound-hand _ _ _ _ _ v.sound), omega (arith, v.few, v.tries), rw e at v.sound)

pub loop-tries-preserved : goal.loop-tries-preserved
loop-tries-preserved c =
    let v = rw (ap label c.in-Some.is) at c.loop-tries.invariant in
    trying_step _ _ _ _ _ _ _ _ _ _ _ _ _ v (omega (arith, c.loop-tries-test.true)) c.step-hand.ensures

pub returns-then-is_some-clause-stuck : goal.returns-then-is_some-clause-stuck
unfolding walk_at
returns-then-is_some-clause-stuck c =
    let e = trying_out _ _ _ _ _ _ _ _ _ _ c.loop-tries.invariant (omega (arith, c.loop-tries-test.false)) in
    stuck (λ z. label-some _ c.if-is_some.ensures (ap (λ (v : Walk). v.hand) e ∙ z))

pub returns-clause-placed : goal.returns-clause-placed
returns-clause-placed c =
    trying_out _ _ _ _ _ _ _ 0 _ _ (rw (label-none _ c.if-is_some.ensures) at c.loop-tries.invariant)
    (omega (arith, c.loop-tries-test.false))
