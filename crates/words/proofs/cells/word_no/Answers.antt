-- `words::cells::word_no` meets its contract: a word that begins behind the end has no bits. Assumes nothing.
use Rattle.std.proofs.Common.{sym, arith, rules}
use Rattle.words.specs.Cells.{word_no}
use Rattle.words.proofs.CellLaws.{word_no_past}
use Rattle.words.proofs.cells.word_no.Goals as goal

pub returns-then-cells-i : goal.returns-then-cells-i
returns-then-cells-i c = sym (word_no_past c.args.cells.now c.args.i (omega (arith, c.if-cells-i.true)))

pub returns : goal.returns
unfolding word_no
returns c = search rules
