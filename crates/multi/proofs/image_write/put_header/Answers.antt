-- `multi::image_write::put_header` meets its contract: the fields are written one behind the other. Assumes nothing.
use native.Mathlib.Omega.{arith}
use Rattle.multi.proofs.ImageWriteLaws.{header_written}
use Rattle.multi.proofs.image_write.put_header.Goals as goal

pub returns : goal.returns
returns c =
    let a = c.args in
    header_written a.party a.buckets a.domain a.count a.buf.now c.requires c.put_u32.ensures.bytes
    c.put_u32-2.ensures.bytes c.put_u64.ensures.bytes c.put_u32-3.ensures.bytes c.put_u32-4.ensures.bytes
    a.keys (omega (arith, c)) c.put_keys.ensures
