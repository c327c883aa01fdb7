-- `words::bytes::get_high` meets its contract: where `at` is behind the end, so is what stands eight further. Assumes nothing.
use Rattle.std.proofs.Common.{◌+◌, sym, arith}
use Rattle.words.proofs.ByteLaws.{field-none}
use Rattle.words.proofs.bytes.get_high.Goals as goal

pub returns-then-buf-at : goal.returns-then-buf-at
returns-then-buf-at c =
    let a = c.args in
    sym (field-none 8 a.buf.now (a.at + 8) (omega (arith, c.if-buf-at.true)))
