-- `words::bit` meets its contract: a shift divides by a power of two, and above bit 63 there is nothing. Assumes nothing.
use Rattle.std.proofs.Common.{sym, refl, arith, rules}
use Rattle.words.specs.Word.{bit, is_odd}
use Rattle.words.proofs.WordLaws.{bit_high}
use Rattle.words.proofs.bit.Goals as goal

pub returns-then-k-gt63 : goal.returns-then-k-gt63
returns-then-k-gt63 c = sym (bit_high c.args.k c.args.x (omega arith) (search rules))

pub returns : goal.returns
unfolding bit is_odd
returns c = refl
