-- The account that the code keeps is told whole, but for its first disagreement. Assumes nothing.
use mathlib.Core.Path.{◌≡◌, refl, sym, ap, ◌∙◌}
use Rattle.std.specs.Prelude.{Option}
use Rattle.replay.specs.declared.Disagreement.{Disagreement}
use Rattle.replay.specs.declared.Account as code
use Rattle.replay.specs.Lists.{Account, told, AccountTold}

made : Account → Option Disagreement → code.Account
made a first =
    record { total = record { records = a.records; calls = a.calls; disagree = a.disagree }; kind = a.kind; agrees = a.agrees; first = first }

whole : (a : code.Account) → a ≡ made (told a) a.first
unfolding made
whole a = refl

pub account_told : AccountTold
account_told a b e f = whole a ∙ (ap (λ (t : Account). made t a.first) e ∙ ap (made (told b)) f) ∙ sym (whole b)
