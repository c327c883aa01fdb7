-- What is written so far is the elements so far, each after a space. Assumes nothing.
use Rattle.std.proofs.Common.{take}
use Rattle.std.specs.Fmt.{HasWritten, IsPlainFormatter}
use Rattle.tools.specs.Tools.{spaced}
use Rattle.tools.proofs.SpacedDisplay.fmt.Given as goal

abbrev pub invariant-loop-x : goal.invariant-loop-x
invariant-loop-x g l =
    IsPlainFormatter l.initial.f → HasWritten g.W.Write.write_str_gives l.initial.f (spaced (take l.x-index l.x-items)) l.f
