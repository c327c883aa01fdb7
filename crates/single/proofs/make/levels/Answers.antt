-- `single::make::levels` meets its contract: within the limits the height is answered, and of two cells or more it is not 0.
-- Assumes nothing.
use Rattle.std.proofs.Common.{◌≡◌, ℕ, ◌-◌, ap, arith, Ok}
use Rattle.words.specs.Height.{height}
use Rattle.words.proofs.HeightLaws.{in_limits, height_known}
use Rattle.single.proofs.MakeLaws.{height_pos}
use Rattle.single.proofs.make.levels.Goals.{After-height, After-unwrap}
use Rattle.single.proofs.make.levels.Goals as goal

known : (c : After-height) → c.height.result ≡ Ok (height c.args.size)
known c = height_known c.args.size _ c.height.ensures (in_limits _ (omega arith) (omega arith))

unwrapped : (c : After-unwrap) → c.unwrap.result ≡ height c.args.size
unwrapped c =
    let h = height_known c.args.size _ c.height.ensures (in_limits _ (omega arith) (omega arith)) in
    let u = c.unwrap.ensures in cc

pub unwrap-requires : goal.unwrap-requires
unwrap-requires c = rw (known c)

pub overflow_sub-result : goal.overflow_sub-result
overflow_sub-result c = omega (arith, unwrapped c, height_pos c.args.size (omega arith) (omega arith))

pub returns : goal.returns
returns c = ap (λ (n : ℕ). n - 1) (unwrapped c)
