-- `multi::image_write::put_directory` meets its contract: a turn writes the entry of bucket c behind those before. Assumes nothing.
use mathlib.Core.Path.{◌≡◌, refl, sym, ap, ◌∙◌}
use Prim.Native.Nat.{ℕ, ◌+◌, ◌*◌, ◌≤◌}
use native.Mathlib.Omega.{arith}
use lib.ListN.{length}
use Rattle.words.specs.Bytes.{le_bytes, stored}
use Rattle.words.proofs.ByteLaws.{put_nil, length-le_bytes, stored_next}
use Rattle.multi.specs.Image.{entry_for, directory_bytes, lengths_by}
use Rattle.multi.proofs.RecordPlaces.{record_start-first, record_start_next, record_start_le, record_start-least}
use Rattle.multi.proofs.ImageBytes.{length_directory}
use Rattle.multi.proofs.ImageWriteLaws.{entry_of, directory_next}
use Rattle.multi.proofs.image_write.put_directory.Goals as goal

pub loop-c-init : goal.loop-c-init
unfolding directory_bytes
loop-c-init c = record { same = refl; begins = sym (record_start-first _ _); written = sym (put_nil _ _) }

pub overflow_add-at-in-loop-c : goal.overflow_add-at-in-loop-c
unfolding lengths_by
overflow_add-at-in-loop-c c =
    let b = length c.args.sizes.now in
    let lens = lengths_by c.args.sizes.now in
    let next = record_start_next b lens c.loop-c.c in
    let most = record_start_le b lens (c.loop-c.c + 1) b (omega arith) in
    omega (arith, c.length_for-len.ensures, next, most, c.loop-c.invariant.begins, c.requires)

pub loop-c-preserved : goal.loop-c-preserved
unfolding lengths_by
loop-c-preserved c =
    let loop = c.loop-c in
    let b = length c.args.sizes.now in
    let lens = lengths_by c.args.sizes.now in
    let entry_is : c.entry_for.result ≡ entry_for b lens loop.c =
    c.entry_for.ensures ∙ entry_of b lens loop.c c.length_for-len.ensures loop.invariant.begins in
    let room : 72 + 8 * b ≤ length c.args.buf.now = omega (arith, c.requires, record_start-least b lens b) in
    let written =
    stored_next c.args.buf.now 72 (72 + 8 * loop.c) (directory_bytes b lens loop.c) (le_bytes 8 (entry_for b lens loop.c))
    loop.invariant.written
    (c.put_u64.ensures.bytes ∙ ap (λ (x : ℕ). stored loop.buf (72 + 8 * loop.c) (le_bytes 8 x)) entry_is)
    (omega (arith, length_directory b lens loop.c)) (omega (arith, length-le_bytes 8 (entry_for b lens loop.c))) in
    record {
      same = c.put_u64.auto.buf ∙ loop.invariant.same;
      begins = omega (arith, c.length_for-len.ensures, record_start_next b lens loop.c, loop.invariant.begins);
      written = rw (directory_next b lens loop.c) written;
    }
