-- `oracle_replay::Replay::records` ends. The measure is what is left of the list. Assumes nothing.
use Rattle.std.proofs.Common.{◌-◌, length}
use Rattle.oracle_replay.proofs.Replay.records.Given as goal

abbrev pub decreases-loop-r : goal.decreases-loop-r
decreases-loop-r l = length l.list - l.at
