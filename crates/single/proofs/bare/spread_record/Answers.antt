-- `single::bare::spread_record` meets its contract: the key that the record is read into holds that record. Assumes nothing.
use Rattle.std.proofs.Common.{sym, refl, ◌∙◌, arith}
use Rattle.words.specs.declared.refusals.Refusal.TheVariants as refusal
use Rattle.cipher.specs.TreeHash.{hash_by}
use Rattle.single.proofs.BareLaws.{size-key, spread_no_key, spread_no_room, spread_done}
use Rattle.single.proofs.bare.spread_record.Goals as goal

pub returns-then-not-record_ok : goal.returns-then-not-record_ok
returns-then-not-record_ok c = spread_no_key _ _ _ _ refusal.Key refl (sym c.record_ok.ensures ∙ c.if-not-record_ok.true)

pub returns-then-nodes-get_u64 : goal.returns-then-nodes-get_u64
returns-then-nodes-get_u64 c =
    let a = c.args in
    let ok = sym c.record_ok.ensures ∙ c.if-not-record_ok.false in
    spread_no_room (hash_by a.h) a.party a.bare.now a.nodes.now ok refl (omega (arith, size-key a.bare.now refl, c.get_u64.ensures, c.if-nodes-get_u64.true))

pub spread_shares-requires : goal.spread_shares-requires
spread_shares-requires c =
    omega (arith, size-key c.args.bare.now c.read_key.ensures, c.get_u64.ensures, c.if-nodes-get_u64.false)

pub returns : goal.returns
returns c =
    let a = c.args in
    let ok = sym c.record_ok.ensures ∙ c.if-not-record_ok.false in
    spread_done (hash_by a.h) a.party a.bare.now a.nodes.now ok c.read_key.ensures
    (omega (arith, size-key a.bare.now c.read_key.ensures, c.get_u64.ensures, c.if-nodes-get_u64.false)) c.spread_shares.ensures
