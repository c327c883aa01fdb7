-- `multi::read::expand_one` meets its contract: a bucket without entries has no shares; any other one has a record that is
-- there, and the lent part holds just its shares. Assumes nothing.
use mathlib.Core.Path.{sym, ap, ◌∙◌}
use Rattle.words.specs.Bytes.{put}
use Rattle.words.proofs.ByteLaws.{put_nil}
use Rattle.cipher.specs.TreeHash.{hash_by}
use Rattle.multi.specs.Calls.{side_in}
use Rattle.multi.proofs.RecordReads.{part-spread, shares-none, record_there}
use Rattle.multi.proofs.read.expand_one.Goals as goal

pub returns-then-size-eq0 : goal.returns-then-size-eq0
returns-then-size-eq0 c =
    let a = c.args in
    sym (ap (put a.work.now a.from) (shares-none (hash_by a.h) (side_in a.image.now.bytes.now) a.image.now.bytes.now a.c
    (sym c.size-size.ensures ∙ c.if-size-eq0.true)) ∙ put_nil _ _)

pub returns : goal.returns
returns c =
    let a = c.args in
    let size = c.size-size.ensures in
    let ok =
    record_there a.image.now.bytes.now a.image.now.ok a.c c.requires.0
    (λ z. c.if-size-eq0.false (size ∙ z)) in
    part-spread (hash_by a.h) (side_in a.image.now.bytes.now) a.image.now.bytes.now a.c a.from _ _ a.work.now _ ok size c.requires.1
    (rw (c.part.ensures, c.side.ensures) at c.spread_record.ensures)
