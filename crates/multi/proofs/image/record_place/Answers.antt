-- `multi::image::record_place` meets its contract: zeros where the call refuses, else the entry and the part's length.
-- Assumes nothing.
use mathlib.Core.Path.{sym}
use Rattle.words.proofs.TestLaws.{succeeded}
use Rattle.multi.specs.Image.{place_of}
use Rattle.multi.proofs.ImageLaws.{handed}
use Rattle.multi.proofs.image.record_place.Goals as goal

pub entry-requires : goal.entry-requires
entry-requires c = (handed _ _ (sym c.in_ok-image.ensures.answer)).few

pub part-requires : goal.part-requires
part-requires c = (handed _ _ (sym c.in_ok-image.ensures.answer)).few

pub returns : goal.returns
unfolding place_of
returns c =
    rw (c.entry.ensures, c.part.ensures, c.in_ok-image.ensures.image) (sym (succeeded _ _ _ (sym c.in_ok-image.ensures.answer)))
