-- `single::make::finish` meets its contract: what its calls gave is the last level of the rules. Assumes nothing.
use mathlib.Core.Path.{◌≡◌}
use mathlib.Core.Bool.{not, cond}
use Rattle.cipher.specs.TreeHash.{hash_by}
use Rattle.single.proofs.MakeLaws.{ended}
use Rattle.single.proofs.make.finish.Goals as goal
use Rattle.single.proofs.make.finish.Goals.{then-a, else-a}

pub returns : goal.returns
returns c =
    let a = c.args in
    let own = not c.is_odd-own_bit.result in
    let other = c.is_odd-other_bit.result in
    let bits : c.if-a.lcw0 ≡ cond a.a (other, own) (own, other) = elim c.if-a.branch [ then-a w ↦ cc | else-a w ↦ cc ] in
    ended (hash_by a.h) a.beta a.a a.s0 a.s1 c.split-own.ensures c.split-other.ensures
    c.cleared-hcw.ensures c.is_odd-own_bit.ensures c.is_odd-other_bit.ensures bits
    c.last_level.ensures c.last_level-2.ensures c.last_word-last.ensures
