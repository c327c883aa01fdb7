-- `multi::image_write::put_directory` meets its contract. The invariant: the entries before c are written, and `at` is where
-- the record of bucket c would begin. The measure is how many entries are left. Assumes nothing.
use mathlib.Core.Path.{◌≡◌}
use lib.ListN.{length}
use Rattle.words.specs.Bytes.{put}
use Rattle.multi.specs.Image.{record_start, directory_bytes, lengths_by}
use Rattle.multi.proofs.image_write.put_directory.Given as goal

abbrev pub invariant-loop-c : goal.invariant-loop-c
invariant-loop-c l =
    record {
      same : length l.buf ≡ length l.initial.buf;
      begins : l.at ≡ record_start (length l.sizes) (lengths_by l.sizes) l.c;
      written : l.buf ≡ put l.initial.buf 72 (directory_bytes (length l.sizes) (lengths_by l.sizes) l.c);
    }
