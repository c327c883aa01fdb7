-- `single::table::lay_shares` meets its contract: the shares of the record are spread in the scratch and laid from there, and the
-- scratch is zeroed. Assumes nothing.
use Rattle.std.proofs.Common.{◌≡◌, ℕ, ◌*◌, length, ap, ◌∙◌, arith}
use Rattle.words.specs.Cells.{zeroed}
use Rattle.words.proofs.RefusalsTold.{is_ok_told}
use Rattle.cipher.specs.TreeHash.{tree_hash}
use Rattle.single.specs.Rules.{share}
use Rattle.single.specs.Record.{size_in, record_in}
use Rattle.single.proofs.BareLaws.{spread_found}
use Rattle.single.proofs.SpreadLaws.{laid-spread, zeroed-spread}
use Rattle.single.proofs.table.lay_shares.Goals as goal

pub unwrap-requires : goal.unwrap-requires
unwrap-requires g c =
    let a = c.args in
    is_ok_told _ (spread_found tree_hash _ a.image.now.record.now a.scratch.now a.image.now.ok (omega (arith, c.requires.0, c.requires.1))
    (rw c.new.ensures at c.spread_record.ensures)).0

pub returns : goal.returns
returns g c =
    let a = c.args in
    let r = a.image.now.record.now in
    let f = share tree_hash 64 a.image.now.party (record_in r) in
    let many = c.requires.0 in
    let after : length c.lay_nodes.new.cells ≡ size_in r = omega (arith, many) in
    let spreads = (spread_found tree_hash a.image.now.party r a.scratch.now a.image.now.ok (omega (arith, many, c.requires.1))
    (rw c.new.ensures at c.spread_record.ensures)).1 in
    record {
      scratch = zeroed-spread a.scratch.now f (size_in r) (omega (arith, many, c.requires.1)) spreads
          (c.zero_first.ensures ∙ ap (λ (n : ℕ). zeroed (2 * n) c.spread_record.new.nodes) after);
      cells = c.lay_nodes.ensures ∙ laid-spread g.L.Lay.op a.scratch.now f a.cells.now many spreads;
    }
