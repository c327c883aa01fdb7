-- `words::sums::minus` meets its contract: a number below 2^64 is its own remainder. Assumes nothing.
use Rattle.std.proofs.Common.{ℕ, ◌+◌, ◌-◌, ◌%◌, ◌^◌, sym, ap, mod-eq_of_lt, rules}
use Rattle.words.specs.Ring.{sub}
use Rattle.words.proofs.sums.minus.Goals as goal

pub returns : goal.returns
unfolding sub
returns c = ap (λ (n : ℕ). (c.args.a + (2 ^ 64 - n)) % 2 ^ 64) (sym (mod-eq_of_lt (search rules)))
