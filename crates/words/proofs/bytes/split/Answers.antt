-- `words::bytes::split` meets its contract: the library's bytes are `le_bytes`. Assumes nothing.
use Rattle.std.proofs.Common.{◌∙◌}
use Rattle.words.proofs.ByteLaws.{low_first}
use Rattle.words.proofs.bytes.split.Goals as goal

pub returns : goal.returns
returns c = c.to_le_bytes.ensures ∙ low_first 8 c.args.x
