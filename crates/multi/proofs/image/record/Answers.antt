-- `multi::image::record` meets its contract: nothing where the call refuses, else the bucket's part. Assumes nothing.
use mathlib.Core.Path.{sym, ap, ◌∙◌}
use mathlib.Core.List.{List}
use Prim.Native.Nat.{ℕ}
use Rattle.words.proofs.TestLaws.{succeeded}
use Rattle.multi.specs.Image.{bucket_part, record_given}
use Rattle.multi.proofs.ImageLaws.{handed, record_refused}
use Rattle.multi.proofs.image.record.Goals as goal

pub returns-in_default : goal.returns-in_default
returns-in_default c = record_refused _ _ c.in_default.field-0 c.in_default.ensures.answer

pub part-requires : goal.part-requires
part-requires c = (handed _ _ (sym c.in-Ok.ensures.answer)).few

pub returns : goal.returns
unfolding record_given
returns c =
    c.part.ensures ∙ ap (λ (l : List ℕ). bucket_part l c.args.bucket) c.in-Ok.ensures.image
    ∙ sym (succeeded _ _ _ (sym c.in-Ok.ensures.answer))
