-- `single::record::put_head` meets its contract: five stores, each right behind the one before. Assumes nothing.
use mathlib.Core.Path.{◌≡◌, ◌∙◌}
use mathlib.Core.List.{◌++◌}
use Prim.Native.Nat.{◌+◌}
use native.Mathlib.Omega.{arith}
use lib.ListN.{length, length-append}
use Rattle.words.specs.Bytes.{le_bytes, word_bytes}
use Rattle.words.proofs.ByteLaws.{length-le_bytes, length-word_bytes, stored-first, stored_next, number_fits}
use Rattle.words.proofs.RefusalsTold.{is_ok_told}
use Rattle.single.specs.Record.{head_bytes, lcw_number}
use Rattle.single.proofs.record.put_head.Goals as goal

pub unwrap-requires : goal.unwrap-requires
unwrap-requires c = is_ok_told _ (c.put_u64.ensures.answer ∙ number_fits _ _ _ (omega (arith, c, length-le_bytes 8 c.args.key.size)))

pub unwrap-requires-2 : goal.unwrap-requires-2
unwrap-requires-2 c = is_ok_told _ (c.put_word.ensures.answer ∙ number_fits _ _ _ (omega (arith, c, length-word_bytes c.args.key.seed)))

pub unwrap-requires-3 : goal.unwrap-requires-3
unwrap-requires-3 c = is_ok_told _ (c.put_word-2.ensures.answer ∙ number_fits _ _ _ (omega (arith, c, length-word_bytes c.args.key.hcw)))

pub unwrap-requires-4 : goal.unwrap-requires-4
unwrap-requires-4 c = is_ok_told _ (c.put_u64-2.ensures.answer ∙ number_fits _ _ _ (omega (arith, c, length-le_bytes 8 c.lcw_number.result)))

pub unwrap-requires-5 : goal.unwrap-requires-5
unwrap-requires-5 c = is_ok_told _ (c.put_u64-3.ensures.answer ∙ number_fits _ _ _ (omega (arith, c, length-le_bytes 8 c.args.key.last)))

pub returns : goal.returns
unfolding head_bytes
returns c =
    let k = c.args.key in
    let at = c.args.at in
    let buf = c.args.buf.now in
    let b1 = le_bytes 8 k.size in
    let b2 = b1 ++ word_bytes k.seed in
    let b3 = b2 ++ word_bytes k.hcw in
    let bits = le_bytes 8 (lcw_number k.lcw0 k.lcw1) in
    let b4 = b3 ++ bits in
    let n1 = length-le_bytes 8 k.size in
    let n2 = length-word_bytes k.seed in
    let n3 = length-word_bytes k.hcw in
    let n4 = length-le_bytes 8 (lcw_number k.lcw0 k.lcw1) in
    let n5 = length-le_bytes 8 k.last in
    let m2 : length b2 ≡ 24 = simp length-append (omega arith) in
    let m3 : length b3 ≡ 40 = simp length-append (omega arith) in
    let m4 : length b4 ≡ 48 = simp length-append (omega arith) in
    let p1 = stored-first buf at b1 c.put_u64.ensures.bytes (omega (arith, c)) in
    let p2 = stored_next buf at (at + 8) b1 (word_bytes k.seed) p1 c.put_word.ensures.bytes (omega arith) (omega (arith, c)) in
    let p3 = stored_next buf at (at + 24) b2 (word_bytes k.hcw) p2 c.put_word-2.ensures.bytes (omega arith) (omega (arith, c)) in
    let p4 = stored_next buf at (at + 40) b3 bits p3 (rw c.lcw_number.ensures at c.put_u64-2.ensures.bytes) (omega arith) (omega (arith, c)) in
    stored_next buf at (at + 48) b4 (le_bytes 8 k.last) p4 c.put_u64-3.ensures.bytes (omega arith) (omega (arith, c))
