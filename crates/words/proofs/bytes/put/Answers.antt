-- `words::bytes::put` meets its contract: it stores where there is room, and nothing where there is none. Assumes nothing.
use Rattle.std.proofs.Common.{sym, ◌∙◌, leb-true}
use Rattle.words.proofs.ByteLaws.{stored_mid}
use Rattle.words.proofs.bytes.put.Goals as goal

pub returns-clause-bytes : goal.returns-clause-bytes
returns-clause-bytes c =
    let a = c.args in
    stored_mid a.buf.now a.at a.bytes.now c.copy_from_slice.ensures.after
    (leb-true _ _ (sym c.has_room.ensures ∙ c.if-not-has_room.false))
