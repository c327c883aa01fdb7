-- `cipher::Aes::rounds` meets its contract: before round n the block has gone through the rounds below n. Assumes nothing.
use mathlib.Core.Path.{◌≡◌}
use Prim.Native.Nat.{◌-◌}
use Rattle.cipher.specs.Fips197.{rounds}
use Rattle.cipher.specs.Columns.{block_of}
use Rattle.cipher.proofs.Aes.rounds.Given as goal

abbrev pub invariant-loop-n : goal.invariant-loop-n
invariant-loop-n l = block_of l.s ≡ rounds l.self.keys (block_of l.initial.s) (l.n - 1)
