-- `multi::read::expand` meets its contract. The invariant is `Expanding`: the parts of the buckets before c are in their
-- places. Assumes nothing.
use mathlib.Core.Path.{◌≡◌}
use Prim.Native.Nat.{ℕ, ◌<◌}
use native.Mathlib.Omega.{arith}
use Rattle.cipher.specs.TreeHash.{hash_by}
use Rattle.multi.specs.Calls.{side_in}
use Rattle.multi.proofs.ExpandLaws.{expanding_none, expanding_all, expanding_room, expanding_start, expanding_next}
use Rattle.multi.proofs.read.expand.Goals as goal

-- a bucket of the loop is one of the key's
inside : {n b c : ℕ} → n ≡ b → c < n → c < b
inside e below = omega arith

pub loop-c-init : goal.loop-c-init
loop-c-init c = expanding_none _ _ _ _

pub bounds-work-c : goal.bounds-work-c
bounds-work-c c =
    let below = inside c.buckets-n.ensures c.loop-c-test.true in
    let room = expanding_room (hash_by c.args.h) (side_in c.args.image.now.bytes.now) _ _ c.requires c.loop-c.c below in
    omega (arith, c.loop-c.invariant.long, room, below)

pub overflow_mul-start : goal.overflow_mul-start
overflow_mul-start c =
    let below = inside c.buckets-n.ensures c.loop-c-test.true in
    let starts = expanding_start _ _ _ _ c.requires c.loop-c.c below _ c.loop-c.invariant in
    let room = expanding_room (hash_by c.args.h) (side_in c.args.image.now.bytes.now) _ _ c.requires c.loop-c.c below in
    omega (arith, starts, room, c.loop-c.invariant.long, c)

pub overflow_add-n-in-loop-c : goal.overflow_add-n-in-loop-c
overflow_add-n-in-loop-c c =
    let below = inside c.buckets-n.ensures c.loop-c-test.true in
    let starts = expanding_start _ _ _ _ c.requires c.loop-c.c below _ c.loop-c.invariant in
    let room = expanding_room (hash_by c.args.h) (side_in c.args.image.now.bytes.now) _ _ c.requires c.loop-c.c below in
    omega (arith, starts, room, c.loop-c.invariant.long, c.buckets-n.ensures, c)

pub expand_one-requires : goal.expand_one-requires
expand_one-requires c =
    let below = inside c.buckets-n.ensures c.loop-c-test.true in
    let starts = expanding_start _ _ _ _ c.requires c.loop-c.c below _ c.loop-c.invariant in
    let room = expanding_room (hash_by c.args.h) (side_in c.args.image.now.bytes.now) _ _ c.requires c.loop-c.c below in
    (below, omega (arith, starts, room, c.loop-c.invariant.long, c.buckets-n.ensures))

pub loop-c-preserved : goal.loop-c-preserved
loop-c-preserved c =
    let below = inside c.buckets-n.ensures c.loop-c-test.true in
    let starts = expanding_start _ _ _ _ c.requires c.loop-c.c below _ c.loop-c.invariant in
    expanding_next _ _ _ _ c.requires c.loop-c.c below _ _ _ c.loop-c.invariant
    (omega (arith, c.buckets-n.ensures, starts))
    c.expand_one.ensures

-- ---- after the loop

pub shape_of-work : goal.shape_of-work
shape_of-work c = c.loop-c.invariant.long

pub returns : goal.returns
returns c =
    let l = c.loop-c in
    expanding_all _ _ _ _ l.c _ l.invariant (omega (arith, c.loop-c-test.false, c.buckets-n.ensures))
