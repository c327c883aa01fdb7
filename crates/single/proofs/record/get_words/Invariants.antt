-- `single::record::get_words` meets its contract. The invariant: the columns hold the words passed, and zeros behind them. Assumes nothing.
use mathlib.Core.Path.{◌≡◌}
use mathlib.Core.List.{map}
use Rattle.words.specs.declared.Word.{Word}
use Rattle.single.specs.Keys.{column}
use Rattle.single.specs.Record.{words_in}
use Rattle.single.proofs.record.get_words.Given as goal

abbrev pub invariant-loop-i : goal.invariant-loop-i
invariant-loop-i l =
    (l.columns.lows ≡ column (map (λ (a : Word). a.lo) (words_in l.l 56 l.i))) × (l.columns.highs ≡ column (map (λ (a : Word). a.hi) (words_in l.l 56 l.i)))
