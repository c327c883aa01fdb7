-- `words::bit_of` meets its contract: element i of the bits is bit count - 1 - i, and there is none behind the last.
-- Assumes nothing.
use Rattle.std.proofs.Common.{sym, ◌∙◌}
use Rattle.words.proofs.WordLaws.{bits_at, bits_none}
use Rattle.words.proofs.bit_of.Goals as goal

pub returns-then-i-count : goal.returns-then-i-count
returns-then-i-count c = c.bit.ensures ∙ sym (bits_at _ _ _ c.if-i-count.true)

pub returns : goal.returns
returns c = sym (bits_none _ _ _ c.if-i-count.false)
