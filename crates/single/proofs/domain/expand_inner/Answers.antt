-- `single::domain::expand_inner` meets its contract. The invariant is `Layered`: layer j stands in the slice. Assumes nothing.
use Prim.Native.Nat.{◌+◌, ◌-◌, ◌/◌, ◌^◌, ◌≤◌}
use lib.Pow.{shr_le}
use native.Mathlib.Omega.{arith}
use borrow.Author.Rules.{rules}
use Rattle.cipher.specs.TreeHash.{hash_by}
use Rattle.single.proofs.KeyLaws.{sound-few}
use Rattle.single.proofs.Layers.{layered_none, layered_more, layered_all, top_fits}
use Rattle.single.proofs.domain.expand_inner.Goals as goal

pub loop-j-init : goal.loop-j-init
loop-j-init c =
    let a = c.args in
    layered_none (hash_by a.h) a.held.key.lows a.held.key.highs a.held.key.seed (a.held.key.size - 1) a.held.key.count _ a.nodes.now
    (top_fits a.held.key.size a.held.key.count c.requires.0 (omega (arith, c.args.held.sound.within)) c.args.held.sound.counted) c.set_node.ensures

pub overflow_shr-last : goal.overflow_shr-last
overflow_shr-last c = omega (arith, sound-few c.args.held.sound)

pub overflow_add-last : goal.overflow_add-last
overflow_add-last c =
    let small : let a = c.args in
    (a.held.key.size - 1) / 2 ^ (a.held.key.count - c.loop-j.j) + 1 ≤ a.held.key.size = omega (arith, shr_le (c.args.held.key.size - 1) (c.args.held.key.count - c.loop-j.j), c.requires.0) in
    omega (arith, small)

pub expand-requires : goal.expand-requires
expand-requires c =
    let small : let a = c.args in
    (a.held.key.size - 1) / 2 ^ (a.held.key.count - c.loop-j.j) + 1 ≤ a.held.key.size = omega (arith, shr_le (c.args.held.key.size - 1) (c.args.held.key.count - c.loop-j.j), c.requires.0) in
    omega (arith, small, c.loop-j.invariant.long)

pub loop-j-preserved : goal.loop-j-preserved
loop-j-preserved c =
    let a = c.args in
    let l = c.loop-j in
    layered_more (hash_by a.h) a.held.key.lows a.held.key.highs a.held.key.seed (a.held.key.size - 1) a.held.key.count _ l.j c.loop-j-test.true l.invariant
    (rw c.word.ensures at c.expand.ensures) (search rules)

pub returns : goal.returns
returns c =
    let a = c.args in
    let l = c.loop-j in
    layered_all (hash_by a.h) a.held.key.lows a.held.key.highs a.held.key.seed (a.held.key.size - 1) a.held.key.count _ a.nodes.now l.j c.loop-j-test.false
    c.set_node.ensures l.invariant
