-- `single::record::put_record` meets its contract: the head, and the words right behind it, where there is room for both.
-- Assumes nothing.
use mathlib.Core.Path.{◌≡◌, sym, ◌∙◌}
use Prim.Native.Nat.{◌+◌, ◌*◌, ◌≤◌, ◌<◌}
use native.Mathlib.Omega.{arith}
use borrow.Author.Tests.{leb-true, leb-false}
use lib.ListN.{length}
use Rattle.words.proofs.ByteLaws.{put_next, stored-fits, stored_not, number_fits, number_not}
use Rattle.single.specs.declared.SingleKey.{SingleKey}
use Rattle.single.specs.Keys.{words_of, record_of}
use Rattle.single.specs.Record.{head_bytes, words_bytes, record_bytes}
use Rattle.single.proofs.KeyLaws.{length-words_from}
use Rattle.single.proofs.RecordLaws.{length-head_bytes, length-words_bytes, length-record_bytes}
use Rattle.single.proofs.record.put_record.Goals.{Then-not-has_room, Else-not-has_room}
use Rattle.single.proofs.record.put_record.Goals as goal

long : (k : SingleKey) → length (record_bytes (record_of k)) ≡ 56 + 16 * k.count
long k = length-record_bytes (record_of k) ∙ rw (length-words_from k.lows k.highs 0 k.count)

room : (c : Else-not-has_room) → c.args.at + (56 + 16 * c.args.key.count) ≤ length c.args.buf.now
room c = leb-true _ _ (sym c.has_room.ensures ∙ c.if-not-has_room.false)

over : (c : Then-not-has_room) → length c.args.buf.now < c.args.at + (56 + 16 * c.args.key.count)
over c = leb-false _ _ (sym c.has_room.ensures ∙ c.if-not-has_room.true)

pub returns-then-not-has_room : goal.returns-then-not-has_room
returns-then-not-has_room c =
    let a = c.args in
    let bs = record_bytes (record_of a.key) in
    let n = long a.key in record {
      answer = sym (number_not a.buf.now a.at bs (omega (arith, over c)));
      bytes = sym (stored_not a.buf.now a.at bs (omega (arith, over c)));
    }

pub put_head-requires : goal.put_head-requires
put_head-requires c = omega (arith, room (goal.at.put_head-requires c).Else-not-has_room)

pub overflow_add-at : goal.overflow_add-at
overflow_add-at c = omega (arith, room (goal.at.overflow_add-at c).Else-not-has_room)

pub put_words-requires : goal.put_words-requires
put_words-requires c = omega (arith, room (goal.at.put_words-requires c).Else-not-has_room)

pub returns : goal.returns
unfolding record_bytes
returns c =
    let a = c.args in
    let there = room (goal.at.returns c).Else-not-has_room in
    let n = long a.key in
    let n1 = length-head_bytes (record_of a.key) in
    let n2 = length-words_bytes (words_of a.key) in
    let n3 = length-words_from a.key.lows a.key.highs 0 a.key.count in
    let bs = record_bytes (record_of a.key) in
    let written = put_next a.buf.now a.at (a.at + 56) (head_bytes (record_of a.key)) (words_bytes (words_of a.key)) c.put_head.ensures c.put_words.ensures
    (omega arith) (omega arith) in record {
      answer = sym (number_fits a.buf.now a.at bs (omega arith));
      bytes = written ∙ sym (stored-fits a.buf.now a.at bs (omega arith));
    }
