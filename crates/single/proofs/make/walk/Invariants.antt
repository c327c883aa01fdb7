-- `single::make::walk` meets its contract. The invariant is `Walking`: the words of the first i levels are stored, and the rest
-- from the seeds in hand gives the whole. Assumes nothing.
use Rattle.cipher.specs.TreeHash.{hash_by}
use Rattle.single.proofs.MakeLaws.{Walking}
use Rattle.single.proofs.make.walk.Given as goal

abbrev pub invariant-loop-i : goal.invariant-loop-i
invariant-loop-i l = Walking (hash_by l.h) l.delta l.y l.n l.initial.s0 l.initial.s1 l.i l.s0 l.s1 l.columns.lows l.columns.highs
