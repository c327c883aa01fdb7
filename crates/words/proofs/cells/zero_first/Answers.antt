-- `words::cells::zero_first` meets its contract: what is filled is the front. Assumes nothing.
use Rattle.words.proofs.CellLaws.{zeroed_front}
use Rattle.words.proofs.cells.zero_first.Goals as goal

pub returns : goal.returns
returns c = zeroed_front c.args.n c.args.cells.now c.min-m.ensures (c.fill.ensures.after (λ y same. same))
