-- `single::tree::descend` meets its contract. The invariant: the levels that are left, from the seed in hand, lead where all of
-- them lead from the key's seed. Assumes nothing.
use mathlib.Core.Path.{sym, ◌∙◌}
use native.Mathlib.Nat.{sub-zero}
use native.Mathlib.Omega.{arith}
use Rattle.words.proofs.WordLaws.{bits_at}
use Rattle.cipher.specs.TreeHash.{hash_by}
use Rattle.single.specs.Rules as rule
use Rattle.single.proofs.KeyLaws.{descend_next, descend_done}
use Rattle.single.proofs.tree.descend.Goals as goal

pub loop-i-init : goal.loop-i-init
loop-i-init c = simp sub-zero

pub loop-i-preserved : goal.loop-i-preserved
unfolding rule.step
loop-i-preserved c =
    let a = c.args in
    let l = c.loop-i in
    let next = descend_next (hash_by a.h) a.y a.held.key.lows a.held.key.highs l.i a.held.key.count l.s (omega arith) in
    let bit = c.bit_of.ensures ∙ bits_at _ _ _ c.loop-i-test.true in
    rw (c.moved-s.ensures, c.word.ensures, c.hash.ensures, bit) (sym next ∙ l.invariant)

pub returns : goal.returns
returns c =
    let a = c.args in
    let l = c.loop-i in
    sym (descend_done (hash_by a.h) a.y a.held.key.lows a.held.key.highs l.i a.held.key.count l.s (omega arith)) ∙ l.invariant
