-- `single::record::get_words` meets its contract. The invariant: the columns hold the words passed, and zeros behind them. Assumes nothing.
use mathlib.Core.Path.{◌≡◌, refl, ap, ap₂}
use mathlib.Core.List.{List}
use Prim.Native.Nat.{ℕ}
use native.Mathlib.Omega.{arith}
use Rattle.words.specs.declared.Word.{Word}
use Rattle.single.specs.Keys.{column}
use Rattle.single.specs.declared.record.Columns.{Columns}
use Rattle.single.specs.Record.{words_in}
use Rattle.single.proofs.ColumnLaws.{column_turn}
use Rattle.single.proofs.record.get_words.Goals as goal

pub loop-i-init : goal.loop-i-init
unfolding words_in column
loop-i-init c = rw c.none-columns.ensures (refl, refl)

pub loop-i-preserved : goal.loop-i-preserved
loop-i-preserved c =
    let l = c.loop-i in
    let bytes = c.args.l.now in
    rw c.set.ensures (
      column_turn (λ (a : Word). a.lo) bytes l.i _ l.invariant.0 (ap (λ (a : Word). a.lo) c.get_word.ensures) (omega arith),
      column_turn (λ (a : Word). a.hi) bytes l.i _ l.invariant.1 (ap (λ (a : Word). a.hi) c.get_word.ensures) (omega arith),
    )

pub returns : goal.returns
returns c =
    let l = c.loop-i in
    let done : l.i ≡ c.args.n = omega arith in
    ap₂ {A = List ℕ} {B = List ℕ} {C = Columns} (λ x y. record { lows = x; highs = y }) (rw done at l.invariant.0) (rw done at l.invariant.1)
