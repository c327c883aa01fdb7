-- `single::make::make_tall` meets its contract: what its calls gave are the parts of both records. Assumes nothing.
use native.Mathlib.Omega.{arith}
use Rattle.words.specs.Word.{is_odd}
use Rattle.words.proofs.HeightIsLeast.{height_le}
use Rattle.cipher.specs.TreeHash.{hash_by}
use Rattle.single.proofs.MakeLaws.{pair_tall}
use Rattle.single.proofs.make.make_tall.Goals as goal

pub walk-p-requires : goal.walk-p-requires
walk-p-requires c =
    omega (arith, c.levels-n.ensures, height_le c.args.size 34 (omega arith) (omega arith) (omega arith))

pub returns : goal.returns
unfolding is_odd
returns c =
    let a = c.args in
    pair_tall (hash_by a.h) a.size a.alpha a.beta a.r0 a.r1 c.requires.0 c.marked-delta.ensures c.xor-t1.ensures c.levels-n.ensures
    c.walk-p.ensures c.finish-e.ensures
