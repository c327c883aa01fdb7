-- `single::calls::evaluate_at` meets its contract: what is no image is refused, and past that the record in it answers.
-- Assumes nothing.
use Rattle.std.proofs.Common.{◌≡◌, rules, ◌∙◌, Err}
use Rattle.cipher.specs.TreeHash.{tree_hash}
use Rattle.single.proofs.CallLaws.{at_no_image, at_record}
use Rattle.single.proofs.calls.evaluate_at.Goals as goal

pub returns-in_err-image : goal.returns-in_err-image
returns-in_err-image c =
    let e = c.in_err-image.field-0.0 in
    let r : c.from_residual.result ≡ Err e = search rules in
    rw r (at_no_image tree_hash _ _ e c.in_err-image.ensures.0 c.in_err-image.ensures.1)

pub returns : goal.returns
returns c =
    let q = c.in_ok-image.ensures in
    (rw (c.new.ensures, q.1, q.2) at c.record_share.ensures) ∙ at_record tree_hash c.args.key.now c.args.index q.0
