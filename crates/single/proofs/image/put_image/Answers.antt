-- `single::image::put_image` meets its contract: three stores, each right behind the one before. Assumes nothing.
use mathlib.Core.Path.{◌≡◌, ◌∙◌}
use mathlib.Core.Bool.{cond}
use mathlib.Core.List.{◌++◌}
use native.Mathlib.Omega.{arith}
use lib.ListN.{length, length-append}
use Rattle.std.proofs.lemmas.Grind.{common_steps}
use Rattle.words.specs.Bytes.{le_bytes}
use Rattle.words.proofs.ByteLaws.{length-le_bytes, stored-first, stored_next, number_fits}
use Rattle.words.proofs.RefusalsTold.{is_ok_told}
use Rattle.single.specs.Keys.{record_of}
use Rattle.single.specs.Record.{record_bytes}
use Rattle.single.specs.Image.{image_bytes}
use Rattle.single.proofs.KeyLaws.{length-words_from}
use Rattle.single.proofs.RecordLaws.{length-record_bytes}
use Rattle.single.proofs.image.put_image.Goals as goal

pub unwrap-requires : goal.unwrap-requires
unwrap-requires c = is_ok_told _ (c.put_u32.ensures.answer ∙ number_fits _ _ _ (omega (arith, c, length-le_bytes 4 c.from.result)))

pub unwrap-requires-2 : goal.unwrap-requires-2
unwrap-requires-2 c = is_ok_told _ (c.put_u32-2.ensures.answer ∙ number_fits _ _ _ (omega (arith, c, length-le_bytes 4 8)))

pub unwrap-requires-3 : goal.unwrap-requires-3
unwrap-requires-3 c = is_ok_told _ (c.put_record.ensures.answer ∙ number_fits _ _ _ (omega (arith, c, length-record_bytes (record_of c.args.key), length-words_from c.args.key.lows c.args.key.highs 0 c.args.key.count)))

pub returns : goal.returns
unfolding image_bytes
returns c =
    let a = c.args in
    let buf = a.buf.now in
    let k = a.key in
    let party : c.from.result ≡ cond a.party 1 0 = grind (arith, common_steps) in
    let b1 = le_bytes 4 (cond a.party 1 0) in
    let b2 = le_bytes 4 8 in
    let n1 = length-le_bytes 4 (cond a.party 1 0) in
    let n2 = length-le_bytes 4 8 in
    let n3 = length-record_bytes (record_of k) in
    let n4 = length-words_from k.lows k.highs 0 k.count in
    let m2 : length (b1 ++ b2) ≡ 8 = simp length-append (omega arith) in
    let p1 = stored-first buf 0 b1 (rw party at c.put_u32.ensures.bytes) (omega arith) in
    let p2 = stored_next buf 0 4 b1 b2 p1 c.put_u32-2.ensures.bytes (omega arith) (omega arith) in
    stored_next buf 0 8 (b1 ++ b2) (record_bytes (record_of k)) p2 c.put_record.ensures.bytes (omega arith) (omega (arith, c))
