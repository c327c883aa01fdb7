-- The elements so far are drawn, and x stands before the next. Assumes nothing.
use Rattle.std.proofs.Common.{◌≡◌, ◌+◌}
use Rattle.words.specs.Bytes.{put}
use Rattle.words.specs.Cells.{tab}
use Rattle.tools.specs.Tools.{later, drawn}
use Rattle.tools.proofs.fill.Given as goal

abbrev pub invariant-loop-word : goal.invariant-loop-word
invariant-loop-word l =
    (l.word-items ≡ put l.initial.word-items 0 (tab (drawn l.seed) l.word-index)) × (l.x ≡ later (l.word-index + 2) l.seed)
