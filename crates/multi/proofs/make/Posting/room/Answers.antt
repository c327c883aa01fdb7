-- `multi::make::Posting::room` meets its contract: buckets and points are few. Assumes nothing.
use native.Mathlib.Omega.{arith}
use Rattle.multi.specs.Posted.{given_by}
use Rattle.multi.proofs.GivenLaws.{early}
use Rattle.multi.proofs.make.Posting.room.Goals as goal

pub overflow_mul-result : goal.overflow_mul-result
overflow_mul-result c = let f = early (given_by c.args.self.now) _ c.args.self.now.passes in omega (arith, f.few_buckets)

pub overflow_add-result : goal.overflow_add-result
overflow_add-result c =
    let f = early (given_by c.args.self.now) _ c.args.self.now.passes in
    omega (arith, f.few_buckets, f.few_points)
