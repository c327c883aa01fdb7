-- `single::record::get_key` meets its contract: each field is read from its place, and the count follows from the exact length.
-- Assumes nothing.
use mathlib.Core.Path.{◌≡◌}
use Prim.Native.Nat.{◌-◌, ◌/◌}
use native.Mathlib.Omega.{arith}
use lib.ListN.{length}
use Rattle.words.specs.Limits.{largest_single}
use Rattle.single.specs.Keys.{key_of}
use Rattle.single.specs.Record.{word_count, size_in, record_in}
use Rattle.single.proofs.RecordLaws.{count_most, accepted}
use Rattle.single.proofs.ColumnLaws.{length-words_in}
use Rattle.single.proofs.record.get_key.Goals as goal

pub overflow_sub-count : goal.overflow_sub-count
overflow_sub-count c = let q = accepted largest_single _ c.requires in omega (arith, q.exact)

pub get_words-requires : goal.get_words-requires
get_words-requires c =
    let q = accepted largest_single _ c.requires in
    let few = count_most _ q.treed in
    (omega (arith, q.exact), omega (arith, q.exact))

pub returns : goal.returns
unfolding key_of record_in
returns c =
    let q = accepted largest_single _ c.requires in
    let l = c.args.l.now in
    let n : (length l - 56) / 16 ≡ word_count (size_in l) = omega (arith, q.exact) in
    simp (
      n,
      length-words_in,
      c.get_u64-2.ensures,
      c.bit-2.ensures,
      c.bit.ensures,
      c.get_u64.ensures,
      c.get_words.ensures,
      c.get_u64-lcw.ensures,
      c.get_word-2.ensures,
      c.get_word.ensures,
    )
