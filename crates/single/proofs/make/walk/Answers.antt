-- `single::make::walk` meets its contract. The invariant is `Walking`: the words of the first i levels are stored, and the rest
-- from the seeds in hand gives the whole. Assumes nothing.
use mathlib.Core.Path.{◌∙◌}
use Rattle.words.proofs.WordLaws.{bits_at}
use Rattle.cipher.specs.TreeHash.{hash_by}
use Rattle.single.proofs.MakeLaws.{walking_none, walking_more, walking_all}
use Rattle.single.proofs.make.walk.Goals as goal

pub loop-i-init : goal.loop-i-init
loop-i-init c =
    let a = c.args in
    rw c.none-columns.ensures (walking_none (hash_by a.h) a.delta a.y a.n a.t0 a.t1)

pub loop-i-preserved : goal.loop-i-preserved
loop-i-preserved c =
    let a = c.args in
    let l = c.loop-i in
    rw c.set.ensures
    (walking_more (hash_by a.h) a.delta a.y a.n a.t0 a.t1 l.i c.requires c.loop-i-test.true l.invariant
    (c.bit_of-a.ensures ∙ bits_at _ _ _ c.loop-i-test.true) c.hash-x0.ensures c.hash-x1.ensures c.xor.ensures c.when.ensures c.xor-cw.ensures
    c.moved-s0.ensures c.moved-s1.ensures)

pub returns : goal.returns
returns c =
    let a = c.args in
    walking_all (hash_by a.h) a.delta a.y a.n a.t0 a.t1 c.loop-i.i c.loop-i-test.false c.loop-i.invariant
