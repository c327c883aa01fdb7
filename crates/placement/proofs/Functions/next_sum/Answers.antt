-- `placement::Functions::next_sum` meets its contract: the sum is made before the cell is counted. Assumes nothing.
use mathlib.Core.Path.{ap, ◌∙◌}
use Prim.Native.Nat.{ℕ, ◌+◌, ◌%◌, ◌^◌}
use lib.ListN.{get_or}
use Rattle.placement.specs.declared.Three.{Three}
use Rattle.placement.specs.Shares.{once3}
use Rattle.placement.specs.Passes.{entered, entry_at}
use Rattle.placement.proofs.Functions.next_sum.Goals as goal

pub returns : goal.returns
returns c =
    let l = c.args.work.now in
    let b : ℕ = c.args.self.now.buckets in record {
      sum = c.cell_sum-sum.ensures ∙ ap (λ (t : Three). once3 t.first t.second t.third
          (λ k. entry_at b l k (get_or l (b + k) 0)) % 2 ^ 64) c.three-t.ensures.buckets;
      counters = c.enter.ensures ∙ ap (entered b l) c.three-t.ensures.buckets;
    }
