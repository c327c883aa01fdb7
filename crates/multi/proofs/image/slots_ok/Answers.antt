-- `multi::image::slots_ok` meets its contract: the pass ends at a slot that is not ok, or has seen them all. Assumes nothing.
use mathlib.Core.Path.{◌≡◌, sym, ap, ◌∙◌}
use Prim.Native.Nat.{ℕ, ◌+◌, ◌*◌}
use native.Mathlib.Omega.{arith}
use Rattle.words.proofs.TestLaws.{every_pass, every_fail}
use Rattle.single.proofs.RecordLaws.{every_one}
use Rattle.multi.proofs.RecordPlaces.{record_start-first}
use Rattle.multi.proofs.SlotLaws.{next_on, next_off, slots_none, slots_more, slots_fail}
use Rattle.multi.proofs.image.slots_ok.Goals as goal

pub loop-c-init : goal.loop-c-init
loop-c-init c = record {
  due = sym (record_start-first _ _ ∙ ap (λ (b : ℕ). 72 + 8 * b) (sym c.requires.0));
  ok = slots_none _;
}

pub returns-in_default : goal.returns-in_default
returns-in_default c =
    sym (every_fail _ (slots_fail c.args.key.now c.args.n _ c.loop-c-test.true
    (next_off _ _ (sym c.in_default.is ∙ c.next_start.ensures))))

pub loop-c-preserved : goal.loop-c-preserved
loop-c-preserved c =
    let on = next_on _ _ _ c.in-Some.ensures in record { due = on.1; ok = slots_more _ _ c.loop-c.invariant.ok on.0 }

pub returns : goal.returns
returns c =
    let l = c.loop-c in
    let e : l.c ≡ c.args.n = omega arith in
    sym (every_pass _ (rw e at l.invariant.ok) ∙ every_one _ ∙ rw (← e, ← l.invariant.due))
