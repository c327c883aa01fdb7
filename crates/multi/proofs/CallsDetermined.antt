-- Each promise is one equation. Assumes nothing.
use mathlib.Core.Path.{sym, ◌∙◌}
use mathlib.Core.List.{List}
use Prim.Native.Nat.{ℕ}
use Rattle.words.specs.declared.Word.{Word}
use Rattle.multi.specs.Calls.{CallsDetermined}

pub calls-determined : (H : Word → Word) (bucket : List ℕ → ℕ → ℕ → ℕ → ℕ) → CallsDetermined H bucket
calls-determined H bucket = record {
  making = λ g s k0 k1 q r p e. p ∙ sym e;
  one_cell = λ l x s q r p e. p ∙ sym e;
  all_cells = λ l s o q r p e. p ∙ sym e;
  table = λ l s t q r p e. p ∙ sym e;
  record_no = λ l c q r p e. p ∙ sym e;
  record_handed = λ l c q r p e. p ∙ sym e;
  record_placed = λ l c q r p e. p ∙ sym e;
}
