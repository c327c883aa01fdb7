-- `single::pairs::make_keys` meets its contract: a refusal's number, and behind the tests the pair. Assumes nothing.
use Rattle.std.proofs.Common.{◌≡◌, sym, rules, Err}
use Rattle.single.proofs.MakeLaws.{keys-answered, keys-refused}
use Rattle.single.proofs.PairLaws.{keys-clear}
use Rattle.single.proofs.pairs.make_keys.Goals as goal

pub returns-in_err-may_make : goal.returns-in_err-may_make
returns-in_err-may_make c =
    let r : c.from_residual.result ≡ Err c.in_err-may_make.field-0.0 = search rules in
    rw r (keys-refused _ _ _ _ _ _ _ c.in_err-may_make.ensures)

pub make_pair-requires : goal.make_pair-requires
make_pair-requires c = let q = keys-clear _ _ (sym c.in_ok-may_make.ensures) in (q.some, q.few)

pub returns : goal.returns
returns c = keys-answered _ _ _ _ _ _ (sym c.in_ok-may_make.ensures) c.make_pair.ensures
