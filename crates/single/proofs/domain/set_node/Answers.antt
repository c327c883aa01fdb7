-- `single::domain::set_node` meets its contract: two stores, one behind the other. Assumes nothing.
use Rattle.words.proofs.ByteLaws.{put_cons, put_nil}
use lib.ListN.{length-set}
use native.Mathlib.Omega.{arith}
use mathlib.Core.Path.{sym, ◌∙◌}
use Rattle.single.proofs.domain.set_node.Goals as goal

pub returns : goal.returns
returns c = sym (put_cons _ _ _ _ (omega arith) ∙ put_cons _ _ _ _ (simp length-set (omega arith)) ∙ put_nil _ _)
