-- `words::Word::xor` meets its contract: it is `◌⊕◌`, opened. Assumes nothing.
use Rattle.std.proofs.Common.{refl}
use Rattle.words.specs.Word.{◌⊕◌}
use Rattle.words.proofs.Word.xor.Goals as goal

pub returns : goal.returns
unfolding ◌⊕◌
returns c = refl
