-- `multi::make::Laid::totals` meets its contract: a turn adds a size's words and bytes. Assumes nothing.
use mathlib.Core.Path.{refl, sym}
use native.Mathlib.Omega.{arith}
use borrow.Author.Rules.{rules}
use lib.ListN.{length, get_or}
use Rattle.words.specs.Cells.{sum_to}
use Rattle.multi.specs.Image.{lengths_by}
use Rattle.multi.specs.Making.{used_by}
use Rattle.multi.proofs.RecordPlaces.{record_start-first, record_start_next}
use Rattle.multi.proofs.RecordWrites.{used_by_next, length_most}
use Rattle.multi.proofs.make.Laid.totals.Goals as goal

pub loop-size-init : goal.loop-size-init
unfolding used_by sum_to
loop-size-init c = record { used_is = refl; bytes_are = sym (record_start-first _ _); few = search rules; short = search rules }

pub overflow_add-bytes-in-loop-size : goal.overflow_add-bytes-in-loop-size
overflow_add-bytes-in-loop-size c =
    omega (arith, length_most (get_or c.args.self.now.sizes.now c.loop-size.size-index 0), c.length_for-bytes.ensures, c.args.self.now.few)

pub loop-size-preserved : goal.loop-size-preserved
unfolding lengths_by
loop-size-preserved c =
    let sizes = c.args.self.now.sizes.now in
    let i = c.loop-size.size-index in
    let used = c.words_for-used.ensures in
    let bytes = c.length_for-bytes.ensures in
    record {
      used_is = omega (arith, used, used_by_next sizes i);
      bytes_are = omega (arith, bytes, record_start_next (length sizes) (lengths_by sizes) i);
      few = omega (arith, used);
      short = omega (arith, bytes, length_most (get_or sizes i 0));
    }
