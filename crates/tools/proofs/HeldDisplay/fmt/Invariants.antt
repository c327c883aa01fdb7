-- What is written so far is what the cells so far hold. Assumes nothing.
use Rattle.std.proofs.Common.{take}
use Rattle.std.specs.Fmt.{HasWritten, IsPlainFormatter}
use Rattle.std.specs.List.{flat_map, enumerate_from}
use Rattle.tools.specs.Tools.{held_at}
use Rattle.tools.proofs.HeldDisplay.fmt.Given as goal

abbrev pub invariant-loop-i : goal.invariant-loop-i
invariant-loop-i g l =
    IsPlainFormatter l.initial.f
    → HasWritten g.W.Write.write_str_gives l.initial.f (flat_map held_at (take l.i-counter (enumerate_from 0 l.x-items))) l.f
