-- `words::height` meets its contract: the tests that led to a return say which row of `height_number` holds. Assumes nothing.
use Rattle.words.specs.Height.{height, tree_for}
use Rattle.words.proofs.HeightLaws.{too_small, too_large, in_limits}
use Rattle.words.proofs.height.Goals.{then-s-lt1-via-then-s-lt1, then-s-lt1-via-else-s-lt1+then-s-gt-LARGEST_SINGLE}
use Rattle.words.proofs.height.Goals as goal

pub returns-then-s-lt1 : goal.returns-then-s-lt1
unfolding tree_for
returns-then-s-lt1 c = elim c.then-s-lt1.branch [
  | then-s-lt1-via-then-s-lt1 w ↦ rw (too_small c.args.s w.if-s-lt1.true)
  | then-s-lt1-via-else-s-lt1+then-s-gt-LARGEST_SINGLE w ↦ rw (too_large c.args.s w.if-s-lt1.false w.if-s-gt-LARGEST_SINGLE.true)
]

pub returns : goal.returns
unfolding tree_for height
returns c = rw (in_limits c.args.s c.if-s-lt1.false c.if-s-gt-LARGEST_SINGLE.false, c.from.ensures)
