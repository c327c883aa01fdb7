-- `single::bare::record_share` meets its contract: the key that the record is read into holds that record. Assumes nothing.
use Rattle.std.proofs.Common.{sym, refl, ◌∙◌, arith}
use Rattle.words.specs.declared.refusals.Refusal.TheVariants as refusal
use Rattle.cipher.specs.TreeHash.{hash_by}
use Rattle.single.proofs.BareLaws.{size-key, share_no_key, share_no_index, share_done}
use Rattle.single.proofs.bare.record_share.Goals as goal

pub returns-then-not-record_ok : goal.returns-then-not-record_ok
returns-then-not-record_ok c = share_no_key _ _ _ _ refusal.Key refl (sym c.record_ok.ensures ∙ c.if-not-record_ok.true)

pub returns-then-get_u64-index : goal.returns-then-get_u64-index
returns-then-get_u64-index c =
    let a = c.args in
    let ok = sym c.record_ok.ensures ∙ c.if-not-record_ok.false in
    share_no_index (hash_by a.h) a.party a.bare.now a.index ok refl (omega (arith, size-key a.bare.now refl, c.get_u64.ensures, c.if-get_u64-index.true))

pub returns : goal.returns
returns c =
    let a = c.args in
    let ok = sym c.record_ok.ensures ∙ c.if-not-record_ok.false in
    share_done (hash_by a.h) a.party a.bare.now a.index ok c.read_key.ensures
    (omega (arith, size-key a.bare.now c.read_key.ensures, c.get_u64.ensures, c.if-get_u64-index.false)) c.share.ensures
