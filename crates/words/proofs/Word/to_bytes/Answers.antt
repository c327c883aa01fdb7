-- `words::Word::to_bytes` meets its contract: the eight bytes of either half, low half first. Assumes nothing.
use Rattle.words.specs.Bytes.{le_bytes, word_bytes}
use Rattle.words.proofs.Word.to_bytes.Goals as goal

pub returns : goal.returns
unfolding word_bytes le_bytes
returns c = rw (c.copy_from_slice-2.ensures.after, c.copy_from_slice.ensures.after, c.split.ensures, c.split-2.ensures)
