-- `single::tree::last_level` meets its contract: its calls put the rule of the last level together. Assumes nothing.
use Rattle.std.proofs.Common.{arith}
use Rattle.std.proofs.lemmas.Grind.{common_steps}
use Rattle.single.specs.Rules as rule
use Rattle.single.proofs.tree.last_level.Goals as goal

pub returns : goal.returns
unfolding rule.final
returns c = grind (arith, common_steps)
