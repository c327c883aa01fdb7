-- `single::calls::generate_keys` meets its contract: a refusal leaves both buffers, and past it the pair of the rules is
-- written, a key to a buffer. Assumes nothing.
use Rattle.std.proofs.Common.{◌≡◌, sym, rules, length, Err}
use Rattle.cipher.specs.TreeHash.{tree_hash}
use Rattle.single.proofs.MakeLaws.{keys-made, keys-granted}
use Rattle.single.proofs.CallLaws.{Images, images, may_make, planned, refused_plan, generate_done, generate_refused}
use Rattle.single.proofs.calls.generate_keys.Goals.{In_ok-pair}
use Rattle.single.proofs.calls.generate_keys.Goals as goal

pub returns-in_err-made : goal.returns-in_err-made
returns-in_err-made c =
    let a = c.args in
    let e = c.in_err-made.field-0.0 in
    let r : c.from_residual.result ≡ Err e = search rules in
    rw r (generate_refused tree_hash a.domain a.point a.value a.words.now a.key0.now a.key1.now _ (refused_plan _ _ _ _ _ e c.in_err-made.ensures))

-- never: no test held
pub returns-in_err-pair : goal.returns-in_err-pair
returns-in_err-pair c =
    absurd (keys-granted _ _ _ _ _ _ c.in_err-pair.field-0.0 (may_make _ _ _ _ _ (planned _ _ _ _ _ _ c.in_ok-made.ensures).0) c.in_err-pair.ensures)

written : (c : In_ok-pair) → Images tree_hash c.args.domain c.args.point c.args.value c.args.words.now (length c.args.key0.now) (length c.args.key1.now) c.in_ok-pair.pair
written c =
    let a = c.args in
    let none = (planned _ _ _ _ _ _ c.in_ok-made.ensures).0 in
    images tree_hash a.domain a.point a.value a.words.now _ _ _ _ none
    (keys-made _ _ _ _ _ _ (may_make _ _ _ _ _ none) (rw (c.new.ensures, c.word_no-r0.ensures, c.word_no-r1.ensures) at c.in_ok-pair.ensures))

pub put_image-requires : goal.put_image-requires
put_image-requires c = (written (goal.at.put_image-requires c).In_ok-pair).first_fits

pub put_image-requires-2 : goal.put_image-requires-2
put_image-requires-2 c = (written (goal.at.put_image-requires-2 c).In_ok-pair).second_fits

pub returns : goal.returns
returns c =
    let a = c.args in
    let p = planned _ _ _ _ _ _ c.in_ok-made.ensures in
    let w = written (goal.at.returns c).In_ok-pair in
    rw (p.1, c.put_image.ensures, c.put_image-2.ensures, w.first_image, w.second_image)
    (sym (generate_done tree_hash a.domain a.point a.value a.words.now a.key0.now a.key1.now p.0))
