-- `single::table::lay_nodes` meets its contract. The invariant: the cells below x are laid, the others as they were. Assumes
-- nothing.
use mathlib.Core.Path.{◌≡◌}
use Prim.Native.Nat.{◌*◌}
use lib.ListN.{get_or}
use Rattle.words.specs.Bytes.{put}
use Rattle.words.specs.Cells.{tab}
use Rattle.single.proofs.table.lay_nodes.Given as goal

abbrev pub invariant-loop-x : goal.invariant-loop-x
invariant-loop-x g l = l.cells ≡ put l.initial.cells 0 (tab (λ i. g.L.Lay.op (get_or l.initial.cells i 0) (get_or l.nodes (2 * i) 0)) l.x)
