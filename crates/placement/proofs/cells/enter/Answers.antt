-- `placement::cells::enter` meets its contract: three entries, each of which leaves room for the next. Assumes nothing.
use Prim.Native.Nat.{◌+◌, ◌^◌}
use native.Mathlib.Omega.{arith}
use Rattle.placement.proofs.CountLaws.{counter_bump, counter_up}
use Rattle.placement.proofs.cells.enter.Goals as goal

pub count_one-requires-2 : goal.count_one-requires-2
count_one-requires-2 c =
    let q = c.requires in
    counter_up _ _ (2 ^ 62 + 1) _ (omega arith) (counter_bump _ _ _ _ (2 ^ 62) c.count_one.ensures q.0
    q.1)

pub count_one-requires-3 : goal.count_one-requires-3
count_one-requires-3 c =
    let q = c.requires in
    let e = c.count_one.ensures in
    counter_up _ _ (2 ^ 62 + 1 + 1) _ (omega arith)
    (counter_bump _ _ _ _ (2 ^ 62 + 1) c.count_one-2.ensures (counter_bump _ _ _ _ (2 ^ 62) e q.0 q.1)
    (counter_bump _ _ _ _ (2 ^ 62) e q.0 q.2))
