-- `placement::held::sizes_and_positions` meets its contract. The invariant: the cells below x are counted and noted. Assumes
-- nothing.
use mathlib.Core.Path.{ap, ◌∙◌}
use Prim.Native.Nat.{◌+◌, ◌^◌, ◌<◌, ◌≤◌}
use native.Mathlib.Omega.{arith}
use lib.ListN.{length}
use Rattle.placement.specs.Passes.{entered, noted_in}
use Rattle.placement.proofs.FunctionLaws.{bucket_in_lt}
use Rattle.placement.proofs.CountLaws.{counter_of}
use Rattle.placement.proofs.NoteLaws.{noting_start, noting_labels, noting_three, noting_enter, noting_done}
use Rattle.placement.proofs.held.sizes_and_positions.Goals as goal

pub loop-x-init : goal.loop-x-init
loop-x-init c =
    let low = bucket_in_lt c.args.functions.now in
    noting_start _ _ low _ _ _ _ c.requires

pub note_three-requires : goal.note_three-requires
note_three-requires c =
    let low = bucket_in_lt c.args.functions.now in
    let f = c.requires in
    let v = c.loop-x.invariant in
    let t = c.three-t.ensures.within in
    (t, f.after, omega (arith, f.room, v.long), noting_labels _ _ low _ _ _ _ f _ _ _ v)

pub enter-requires : goal.enter-requires
enter-requires c =
    let low = bucket_in_lt c.args.functions.now in
    let noted_here = noting_three _ _ low _ _ _ _ c.requires _ _ _ c.loop-x.invariant
    (c.note_three.ensures ∙ ap (noted_in _ _ _ _ _) c.three-t.ensures.buckets) in
    let fits : c.args.s + c.args.functions.now.buckets ≤ length c.note_three.new.work = omega (arith, c.requires.room, noted_here.long) in
    let t = c.three-t.ensures.within in
    let few : c.loop-x.x < 2 ^ 32 = omega (arith, c.args.functions.now.small) in
    (counter_of noted_here.counted fits few t.0, counter_of noted_here.counted fits few t.1, counter_of noted_here.counted fits few t.2)

pub loop-x-preserved : goal.loop-x-preserved
loop-x-preserved c =
    let low = bucket_in_lt c.args.functions.now in
    let noted_here = noting_three _ _ low _ _ _ _ c.requires _ _ _ c.loop-x.invariant
    (c.note_three.ensures ∙ ap (noted_in _ _ _ _ _) c.three-t.ensures.buckets) in
    noting_enter _ _ low _ _ _ _ c.requires _ _ _ noted_here (c.enter.ensures ∙ ap (entered _ _) c.three-t.ensures.buckets)

pub returns : goal.returns
returns c =
    let low = bucket_in_lt c.args.functions.now in
    noting_done _ _ low _ _ _ _ c.requires _ _ c.loop-x.invariant (omega arith)
