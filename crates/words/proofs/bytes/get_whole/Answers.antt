-- `words::bytes::get_whole` meets its contract: the eight bytes from there on. Assumes nothing.
use Rattle.std.proofs.Common.{◌∙◌}
use Rattle.words.proofs.ByteLaws.{read_whole}
use Rattle.words.proofs.bytes.get_whole.Goals as goal

pub returns : goal.returns
returns c = c.from_le_bytes.ensures ∙ read_whole c.args.buf.now c.args.at c.requires c.copy_from_slice.ensures.after
