-- `multi::make::Posting::laid` meets its contract: the slice is cut in its parts. Assumes nothing.
use mathlib.Core.Path.{◌≡◌, ap, ◌∙◌}
use Prim.Native.Nat.{◌+◌}
use native.Mathlib.Omega.{arith}
use lib.ListN.{length, take, drop}
use lib.Seq.{drop-drop}
use Rattle.multi.specs.Posted.{given_by}
use Rattle.multi.proofs.GivenLaws.{early}
use Rattle.multi.proofs.make.Posting.laid.Goals as goal

pub invariant_of-result : goal.invariant_of-result
invariant_of-result c =
    let p = c.args.self.now in
    let b = p.buckets in
    let n = length p.points.now in
    let w = c.args.work.now in
    let behind : c.split_at-2.result.1.now ≡ drop (b + n) w =
    c.split_at-2.ensures.back ∙ ap (drop n) c.split_at.ensures.back ∙ drop-drop n b w in
    let sizes : c.split_at-3.result.0.now ≡ take b (drop (b + n) w) = c.split_at-3.ensures.front ∙ ap (take b) behind in
    let spots : c.split_at-4.result.0.now ≡ take b (drop (b + n + b) w) =
    c.split_at-4.ensures.front ∙ ap (take b) (c.split_at-3.ensures.back ∙ ap (drop b) behind ∙ drop-drop b (b + n) w) in
    record {
      few = omega (arith, c.split_at-3.ensures.front_len, (early (given_by p) _ p.passes).few_buckets);
      small = rw sizes c.requires.small;
      inside = rw (sizes, spots) c.requires.inside;
    }
