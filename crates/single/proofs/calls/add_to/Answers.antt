-- `single::calls::add_to` meets its contract: a refusal leaves both slices; past it the shares are added to the table. Assumes
-- nothing.
use Rattle.std.proofs.Common.{◌≡◌, sym, rules, arith, Err}
use Rattle.cipher.specs.TreeHash.{tree_hash}
use Rattle.single.specs.Rules.{share}
use Rattle.single.specs.Record.{record_in}
use Rattle.single.proofs.CallLaws.{rest-size, rest-share, add_no_image, add_no_table, add_no_scratch, add_clear}
use Rattle.single.proofs.SpreadLaws.{add_from}
use Rattle.single.proofs.calls.add_to.Goals as goal

pub returns-in_err-image : goal.returns-in_err-image
returns-in_err-image c =
    let e = c.in_err-image.field-0.0 in
    let r : c.from_residual.result ≡ Err e = search rules in
    rw r (add_no_image tree_hash _ _ _ e c.in_err-image.ensures.0 c.in_err-image.ensures.1)

pub returns-then-table-size : goal.returns-then-table-size
returns-then-table-size c =
    let a = c.args in
    let q = c.in_ok-image.ensures in
    add_no_table tree_hash a.key.now a.scratch.now a.table.now q.0 (rest-size tree_hash a.key.now q.1 q.2 c.size-size.ensures) c.if-table-size.true

pub returns-then-scratch-size : goal.returns-then-scratch-size
returns-then-scratch-size c =
    let a = c.args in
    let q = c.in_ok-image.ensures in
    add_no_scratch tree_hash a.key.now a.scratch.now a.table.now q.0 (rest-size tree_hash a.key.now q.1 q.2 c.size-size.ensures) (omega arith) (omega arith)

pub returns : goal.returns
returns c =
    let a = c.args in
    let i = c.in_ok-image.image in
    let q = c.in_ok-image.ensures in
    let size = rest-size tree_hash a.key.now q.1 q.2 c.size-size.ensures in
    let made = c.lay_shares.ensures in
    add_from tree_hash a.key.now a.scratch.now (share tree_hash 64 i.party (record_in i.record.now)) (rest-share tree_hash a.key.now q.1 q.2) size (rw (sym c.size-size.ensures) at made.scratch) a.table.now
    (add_clear tree_hash a.key.now a.scratch.now a.table.now q.0 size (omega arith) (omega arith)) made.cells
