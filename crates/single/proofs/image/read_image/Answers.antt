-- `single::image::read_image` meets its contract: the eight bytes and the record behind them decide. Assumes nothing.
use Rattle.std.proofs.Common.{ℕ, refl, sym, ap, ◌∙◌, eqb}
use Rattle.single.specs.Image.{side_in}
use Rattle.single.proofs.ImageLaws.{head-long, no_head, image_tail, tail_all}
use Rattle.single.proofs.image.read_image.Goals as goal

pub returns-then-not-head_ok : goal.returns-then-not-head_ok
returns-then-not-head_ok c = (refl, no_head c.args.l.now (sym c.head_ok.ensures ∙ c.if-not-head_ok.true))

pub slice_bounds-record-start : goal.slice_bounds-record-start
slice_bounds-record-start c = head-long c.args.l.now (sym c.head_ok.ensures ∙ c.if-not-head_ok.false)

pub slice_bounds-record-count : goal.slice_bounds-record-count
slice_bounds-record-count c = head-long c.args.l.now (sym c.head_ok.ensures ∙ c.if-not-head_ok.false)

pub returns-then-not-record_ok : goal.returns-then-not-record_ok
returns-then-not-record_ok c =
    let l = c.args.l.now in
    (refl, image_tail l (sym c.head_ok.ensures ∙ c.if-not-head_ok.false) ∙ (rw (tail_all l 8) at (sym c.record_ok.ensures ∙ c.if-not-record_ok.true)))

pub returns : goal.returns
unfolding side_in
returns c =
    let l = c.args.l.now in (
      image_tail l (sym c.head_ok.ensures ∙ c.if-not-head_ok.false) ∙ (rw (tail_all l 8) at (sym c.record_ok.ensures ∙ c.if-not-record_ok.false)),
      ap (λ (n : ℕ). eqb n 1) c.get_u32.ensures,
      tail_all l 8,
    )
