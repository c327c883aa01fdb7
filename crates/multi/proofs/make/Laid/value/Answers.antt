-- `multi::make::Laid::value` meets its contract. Assumes nothing.
use mathlib.Core.Path.{sym, ◌∙◌}
use Rattle.multi.proofs.RecordWrites.{value_none, value-some}
use Rattle.multi.proofs.make.Laid.value.Goals as goal

pub returns-then-holder-eq0 : goal.returns-then-holder-eq0
returns-then-holder-eq0 c = sym (value_none _ _ (sym c.element-holder.ensures ∙ c.if-holder-eq0.true))

pub returns : goal.returns
returns c =
    rw (← c.element-holder.ensures) (c.element.ensures ∙ sym (value-some _ _ c.if-holder-eq0.false))
