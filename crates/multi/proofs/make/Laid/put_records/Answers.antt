-- `multi::make::Laid::put_records` meets its contract. The invariant is `Laying`: the records of the buckets before c are written.
-- Assumes nothing.
use Prim.Native.Nat.{◌+◌, ◌≤◌, ◌<◌}
use native.Mathlib.Omega.{arith}
use lib.ListN.{length, get_or}
use Rattle.single.specs.Record as single
use Rattle.multi.proofs.LayingLaws.{laying_none, laying_room0, laying_room1, laying_more}
use Rattle.multi.proofs.make.Laid.put_records.Goals as goal

pub loop-c-init : goal.loop-c-init
loop-c-init c = laying_none _ _ _ _ _ _ _ _

pub put_bucket-requires : goal.put_bucket-requires
put_bucket-requires c =
    let room0 : c.loop-c.at + single.length_for (get_or c.args.self.now.sizes.now c.loop-c.c 0) ≤ length c.loop-c.key0 = laying_room0 _ _ _ _ _ _ _ _ _ _ _ _ _ c.requires c.loop-c.invariant c.loop-c-test.true in
    let room1 : c.loop-c.at + single.length_for (get_or c.args.self.now.sizes.now c.loop-c.c 0) ≤ length c.loop-c.key1 = laying_room1 _ _ _ _ _ _ _ _ _ _ _ _ _ c.requires c.loop-c.invariant c.loop-c-test.true in
    let few : c.loop-c.used < 131070 = omega (arith, c.loop-c.invariant.fewer, c.loop-c-test.true, c.requires.few) in
    (omega (arith, few), room0, room1)

pub overflow_add-at-in-loop-c : goal.overflow_add-at-in-loop-c
overflow_add-at-in-loop-c c =
    let room0 : c.loop-c.at + single.length_for (get_or c.args.self.now.sizes.now c.loop-c.c 0) ≤ length c.loop-c.key0 = laying_room0 _ _ _ _ _ _ _ _ _ _ _ _ _ c.requires c.loop-c.invariant c.loop-c-test.true in
    let next = c.length_for.ensures in
    omega (arith, next, room0, c.loop-c.invariant.same0, c)

pub loop-c-preserved : goal.loop-c-preserved
loop-c-preserved c =
    let bucket = c.put_bucket in
    laying_more _ _ _ _ _ _ _ _ _ _ _ _ _ c.requires c.loop-c.invariant c.loop-c-test.true _ _ bucket.ensures.first
    bucket.ensures.second
    (c.length_for.ensures) (c.words_for.ensures)
