-- `cipher::columns::ColumnsFromArrayU816::from` meets its contract, column by column. Assumes nothing.
use mathlib.Core.Path.{◌∙◌}
use borrow.Author.Rules.{rules}
use Rattle.words.specs.Cells.{tab}
use Rattle.cipher.proofs.Schedule.{tab_self}
use Rattle.cipher.proofs.Packed.{std_number}
use Rattle.cipher.proofs.BlockSteps.{joined_columns}
use Rattle.cipher.proofs.columns.ColumnsFromArrayU816.from.Goals as goal

pub returns : goal.returns
unfolding tab
returns c =
    joined_columns
    (std_number _ _ _ _ (search rules) (search rules) (search rules) (search rules) c.from_le_bytes.ensures)
    (std_number _ _ _ _ (search rules) (search rules) (search rules) (search rules) c.from_le_bytes-2.ensures)
    (std_number _ _ _ _ (search rules) (search rules) (search rules) (search rules) c.from_le_bytes-3.ensures)
    (std_number _ _ _ _ (search rules) (search rules) (search rules) (search rules) c.from_le_bytes-4.ensures)
    ∙ tab_self c.args.s 16 (search rules)
