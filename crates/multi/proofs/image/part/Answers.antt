-- `multi::image::part` meets its contract: an entry of 0 is no record, any other says where it begins. Assumes nothing.
use mathlib.Core.Path.{sym, ap, ◌∙◌}
use Rattle.single.specs.Record as single
use Rattle.multi.proofs.RecordPlaces.{bucket_part-none, bucket_part_there}
use Rattle.multi.proofs.image.part.Goals as goal

pub returns-then-e-eq0 : goal.returns-then-e-eq0
returns-then-e-eq0 c = sym (bucket_part-none _ _ (sym c.entry-e.ensures ∙ c.if-e-eq0.true))

pub returns : goal.returns
returns c =
    let e = c.entry-e.ensures in
    c.part_at.ensures ∙ ap (single.record_part _) e ∙ sym (bucket_part_there _ _ (λ z. c.if-e-eq0.false (e ∙ z)))
