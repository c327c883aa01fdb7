-- `replay::Account::elements` meets its contract. Assumes nothing.
use borrow.Author.Rules.{rules}
use Rattle.replay.proofs.ListLaws.{compared}
use Rattle.replay.proofs.Account.elements.Goals as goal

pub returns : goal.returns
returns c = compared _ _ _ c.args.given.now _ (λ k x p. search rules) (λ k x p. search rules) c.slice.ensures
