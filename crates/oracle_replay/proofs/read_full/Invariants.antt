-- `oracle_replay::read_full` stays within the space. Assumes nothing.
use Rattle.std.proofs.Common.{◌≤◌, length}
use Rattle.oracle_replay.proofs.read_full.Given as goal

abbrev pub invariant-loop : goal.invariant-loop
invariant-loop l = l.done ≤ length l.space
