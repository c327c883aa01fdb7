-- `single::record::put_words` meets its contract. The invariant: the words that are left, written, give what is promised. Assumes nothing.
use mathlib.Core.Path.{◌≡◌}
use Prim.Native.Nat.{◌+◌, ◌*◌, ◌-◌}
use lib.ListN.{length}
use Rattle.words.specs.Bytes.{put}
use Rattle.single.specs.Keys.{words_from, words_of}
use Rattle.single.specs.Record.{words_bytes}
use Rattle.single.proofs.record.put_words.Given as goal

abbrev pub invariant-loop-i : goal.invariant-loop-i
invariant-loop-i l =
    (length l.buf ≡ length l.initial.buf)
    × (put l.buf (l.at + 16 * l.i) (words_bytes (words_from l.key.lows l.key.highs l.i (l.key.count - l.i))) ≡ put l.initial.buf l.at (words_bytes (words_of l.key)))
