-- `single::tree::descend` meets its contract. The invariant: the levels that are left, from the seed in hand, lead where all of
-- them lead from the key's seed. Assumes nothing.
use mathlib.Core.Path.{◌≡◌}
use Prim.Native.Nat.{◌-◌}
use Rattle.cipher.specs.TreeHash.{hash_by}
use Rattle.single.specs.Rules as rule
use Rattle.single.specs.Keys.{words_from, words_of}
use Rattle.single.proofs.tree.descend.Given as goal

abbrev pub invariant-loop-i : goal.invariant-loop-i
invariant-loop-i l =
    rule.descend (hash_by l.h) l.y (words_from l.k.lows l.k.highs l.i (l.n - l.i)) l.s ≡ rule.descend (hash_by l.h) l.y (words_of l.k) l.k.seed
