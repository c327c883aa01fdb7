-- `multi::read::same_sizes` meets its contract: the pass ends at a size that differs, or has seen them all. Assumes nothing.
use mathlib.Core.Path.{sym, ◌∙◌}
use lib.ListN.{get_or}
use Rattle.multi.specs.Image.{bucket_size}
use Rattle.multi.proofs.CallLaws.{alike-none, alike_next, alike_fails}
use Rattle.multi.proofs.read.same_sizes.Goals as goal

pub loop-c-init : goal.loop-c-init
loop-c-init c = alike-none _ _

pub returns-then-size : goal.returns-then-size
returns-then-size c =
    let a = c.args in
    sym (alike_fails (bucket_size a.image.now.bytes.now) (λ i. get_or a.sizes.now i 0) _ c.loop-c.c c.loop-c-test.true
    (λ e. c.if-size.true (c.size.ensures ∙ e)))

pub loop-c-preserved : goal.loop-c-preserved
loop-c-preserved c = alike_next _ _ c.loop-c.c c.loop-c.invariant (sym c.size.ensures ∙ c.if-size.false)
