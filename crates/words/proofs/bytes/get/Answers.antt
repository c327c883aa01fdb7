-- `words::bytes::get` meets its contract: the bytes that are there, and zeros behind them. Assumes nothing.
use Rattle.std.proofs.Common.{◌∙◌, sym}
use Rattle.words.proofs.ByteLaws.{field-none, read_padded}
use Rattle.words.proofs.bytes.get.Goals as goal

pub returns-then-buf-at : goal.returns-then-buf-at
returns-then-buf-at c = sym (field-none c.args.n c.args.buf.now c.args.at c.if-buf-at.true)

pub returns : goal.returns
returns c =
    let a = c.args in
    c.from_le_bytes.ensures ∙ read_padded a.n a.buf.now a.at c.requires c.min-start.ensures c.min-there.ensures c.copy_from_slice.ensures.after
