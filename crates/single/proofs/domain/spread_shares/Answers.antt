-- `single::domain::spread_shares` meets its contract: one cell is its last word; else all layers but the last, and the last.
-- Assumes nothing.
use Prim.Native.Nat.{◌<◌}
use native.Mathlib.Omega.{arith}
use Rattle.cipher.specs.TreeHash.{hash_by}
use Rattle.single.specs.Keys.{record_of}
use Rattle.single.proofs.Layers.{spread-one, spread-all}
use Rattle.single.proofs.domain.spread_shares.Goals as goal

pub returns-then-k-eq1 : goal.returns-then-k-eq1
returns-then-k-eq1 c =
    let a = c.args in
    spread-one (hash_by a.h) 64 a.party (record_of a.held.key) a.nodes.now c.if-k-eq1.true c.set_node.ensures

pub returns : goal.returns
returns c =
    let a = c.args in
    let many : 1 < a.held.key.size = omega (arith, a.held.sound.some, c.if-k-eq1.false) in
    spread-all (hash_by a.h) 64 a.party (record_of a.held.key) a.nodes.now many c.end_in-end.ensures c.expand_inner.ensures
    c.expand.ensures
