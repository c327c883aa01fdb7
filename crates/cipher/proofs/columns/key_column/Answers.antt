-- `cipher::columns::key_column` meets its contract: a column of four bytes that stand side by side. Assumes nothing.
use native.Mathlib.Nat.{add-zero}
use borrow.Author.Rules.{rules}
use Rattle.words.specs.Cells.{tab}
use Rattle.cipher.proofs.Packed.{std_number}
use Rattle.cipher.proofs.columns.key_column.Goals as goal

pub returns : goal.returns
unfolding tab
returns c = rw add-zero (std_number _ _ _ _ (search rules) (search rules) (search rules) (search rules) c.from_le_bytes.ensures)
