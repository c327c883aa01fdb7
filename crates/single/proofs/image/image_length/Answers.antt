-- `single::image::image_length` meets its contract: eight bytes and the record, whose length is known within the limits.
-- Assumes nothing.
use Rattle.std.proofs.Common.{◌≡◌, ℕ, ◌+◌, Some, ap, ◌∙◌, arith}
use Rattle.single.specs.Record.{record_length}
use Rattle.single.specs.Image.{image_length}
use Rattle.single.proofs.RecordLaws.{count_most, length_known}
use Rattle.single.proofs.image.image_length.Goals.{After-record_length, After-unwrap}
use Rattle.single.proofs.image.image_length.Goals as goal

known : (c : After-record_length) → c.record_length.result ≡ Some (record_length c.args.size)
known c = c.record_length.ensures ∙ length_known c.args.size c.requires

unwrapped : (c : After-unwrap) → c.unwrap.result ≡ record_length c.args.size
unwrapped c = let n = c.record_length.ensures ∙ length_known c.args.size c.requires in let u = c.unwrap.ensures in cc

pub unwrap-requires : goal.unwrap-requires
unwrap-requires c = rw (known c)

pub overflow_add-result : goal.overflow_add-result
unfolding record_length
overflow_add-result c = omega (arith, unwrapped c, count_most c.args.size c.requires)

pub returns : goal.returns
unfolding image_length
returns c = ap (λ (n : ℕ). 8 + n) (unwrapped c)
