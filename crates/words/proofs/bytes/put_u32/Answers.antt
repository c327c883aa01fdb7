-- `words::bytes::put_u32` meets its contract: the library's bytes are `le_bytes`. Assumes nothing.
use Rattle.std.proofs.Common.{◌∙◌, List, ℕ, ap}
use Rattle.words.specs.Bytes.{stored, stored_number}
use Rattle.words.proofs.ByteLaws.{low_first}
use Rattle.words.proofs.bytes.put_u32.Goals as goal

pub returns : goal.returns
returns c =
    let a = c.args in
    let same = c.to_le_bytes.ensures ∙ low_first 4 a.x in record {
      answer = c.put.ensures.answer ∙ ap (λ (bs : List ℕ). stored_number a.buf.now a.at bs) same;
      bytes = c.put.ensures.bytes ∙ ap (λ (bs : List ℕ). stored a.buf.now a.at bs) same;
    }
