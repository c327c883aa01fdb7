-- `replay::fill` meets its contract. The invariant: the elements below i are fields. Assumes nothing.
use mathlib.Core.Path.{◌≡◌}
use lib.ListN.{length}
use Rattle.words.specs.Bytes.{put}
use Rattle.words.specs.Cells.{tab}
use Rattle.replay.specs.Lists.{field}
use Rattle.replay.proofs.fill.Given as goal

abbrev pub invariant-loop-i : goal.invariant-loop-i
invariant-loop-i l = (length l.cells ≡ length l.initial.cells) × (l.cells ≡ put l.initial.cells 0 (tab (field l.fields) l.i))
