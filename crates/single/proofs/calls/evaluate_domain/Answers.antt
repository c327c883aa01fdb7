-- `single::calls::evaluate_domain` meets its contract: a refusal leaves both slices; past it the shares are written in front of the
-- output. Assumes nothing.
use Rattle.std.proofs.Common.{◌≡◌, sym, ◌∙◌, rules, arith, Err}
use Rattle.std.proofs.lemmas.List.{length-take-le}
use Rattle.cipher.specs.TreeHash.{tree_hash}
use Rattle.single.specs.Rules.{share}
use Rattle.single.specs.Record.{record_in}
use Rattle.single.proofs.CallLaws.{rest-size, rest-share, domain_no_image, domain_no_scratch, domain_no_room, domain_clear}
use Rattle.single.proofs.SpreadLaws.{domain_from}
use Rattle.single.proofs.calls.evaluate_domain.Goals as goal

pub returns-in_err-image : goal.returns-in_err-image
returns-in_err-image c =
    let e = c.in_err-image.field-0.0 in
    let r : c.from_residual.result ≡ Err e = search rules in
    rw r (domain_no_image tree_hash _ _ _ e c.in_err-image.ensures.0 c.in_err-image.ensures.1)

pub returns-then-scratch-size : goal.returns-then-scratch-size
returns-then-scratch-size c =
    let a = c.args in
    let q = c.in_ok-image.ensures in
    domain_no_scratch tree_hash a.key.now a.scratch.now a.out.now q.0 (rest-size tree_hash a.key.now q.1 q.2 c.size-size.ensures) (omega arith)

pub returns-then-out-size : goal.returns-then-out-size
returns-then-out-size c =
    let a = c.args in
    let q = c.in_ok-image.ensures in
    domain_no_room tree_hash a.key.now a.scratch.now a.out.now q.0 (rest-size tree_hash a.key.now q.1 q.2 c.size-size.ensures) (omega arith) (omega arith)

pub lay_shares-requires : goal.lay_shares-requires
lay_shares-requires c =
    let front = length-take-le c.size-size.result c.args.out.now (omega arith) in (front ∙ c.size-size.ensures, omega arith)

pub slice_bounds-lay_shares-end-2 : goal.slice_bounds-lay_shares-end-2
slice_bounds-lay_shares-end-2 c = sym (length-take-le _ _ (omega arith))

pub returns : goal.returns
returns c =
    let a = c.args in
    let i = c.in_ok-image.image in
    let q = c.in_ok-image.ensures in
    let size = rest-size tree_hash a.key.now q.1 q.2 c.size-size.ensures in
    let made = c.lay_shares.ensures in
    domain_from tree_hash a.key.now a.scratch.now (share tree_hash 64 i.party (record_in i.record.now)) (rest-share tree_hash a.key.now q.1 q.2) size (rw (sym c.size-size.ensures) at made.scratch) a.out.now
    (domain_clear tree_hash a.key.now a.scratch.now a.out.now q.0 size (omega arith) (omega arith)) (omega arith) made.cells
