-- `multi::image::is_image` meets its contract: the header, and then the slots. Assumes nothing.
use mathlib.Core.Path.{sym, ap, ◌∙◌}
use mathlib.Core.List.{[], ◌∷◌}
use Prim.Native.Nat.{ℕ}
use lib.Dec.{eqb}
use lib.ListN.{length}
use Rattle.words.specs.Refusals.{every}
use Rattle.words.proofs.TestLaws.{every_pass, every_fail}
use Rattle.multi.specs.Image.{next_in, slots_ok, multi_ok}
use Rattle.multi.proofs.ImageLaws.{header_few}
use Rattle.multi.proofs.image.is_image.Goals as goal

pub slots_ok-requires : goal.slots_ok-requires
slots_ok-requires c =
    let b = c.get_u32.ensures in
    (b, rw b (header_few _ (sym c.header_ok.ensures ∙ c.if-header_ok.true)))

pub returns-then-header_ok : goal.returns-then-header_ok
unfolding multi_ok
returns-then-header_ok c =
    let l = c.args.key.now in
    sym (every_pass _ (sym c.header_ok.ensures ∙ c.if-header_ok.true)
    ∙ ap (λ (b : ℕ). every (slots_ok l b ∷ eqb (next_in l b) (length l) ∷ [])) (sym c.get_u32.ensures)
    ∙ sym c.slots_ok.ensures)

pub returns-else-header_ok : goal.returns-else-header_ok
unfolding multi_ok
returns-else-header_ok c =
    c.if-header_ok.false ∙ sym (every_fail _ (sym c.header_ok.ensures ∙ c.if-header_ok.false))
