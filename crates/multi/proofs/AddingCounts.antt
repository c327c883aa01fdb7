-- Either adding call's number is the answer of a run, and its table the one after the call: both go by the same test.
-- Assumes nothing.
use mathlib.Core.Path.{◌≡◌, refl}
use mathlib.Core.Bool.{cond}
use mathlib.Core.List.{List}
use Prim.Native.Nat.{ℕ, zero, suc}
use native.Mathlib.Omega.{arith}
use lib.Dec.{eqb}
use lib.ListN.{length}
use borrow.Author.Tests.{ne_eqb}
use Rattle.words.specs.declared.Word.{Word}
use Rattle.words.specs.Refusals.{on_success}
use Rattle.single.specs.Tables.{after}
use Rattle.single.proofs.AddingCounts as one
use Rattle.multi.specs.Calls.{add_to_number, add_to}
use Rattle.multi.specs.Demand.{multi_key, answer_of, share_of, call_of, AddingCounts}

-- a list where the number is 0, another where it is not
success_test : (n : ℕ) (x y : List ℕ) → on_success n x y ≡ cond (eqb n 0) x y
success_test zero x y = refl
success_test (suc n) x y = rw (ne_eqb (suc n) 0 (omega arith))

module _ (H : Word → Word) (bucket : List ℕ → ℕ → ℕ → ℕ → ℕ) (l s t : List ℕ) where
  many_table_lem : (add_to H bucket l s t).cells ≡ after (answer_of H bucket) 64 (share_of H bucket) (call_of H bucket (multi_key l) s) t
  unfolding add_to after
  many_table_lem = success_test (add_to_number bucket l (length t) (length s)) _ _

  many_number_lem : (add_to H bucket l s t).number ≡ answer_of H bucket (multi_key l) t (length s)
  unfolding add_to
  many_number_lem = refl

pub adding_counts : (H : Word → Word) (bucket : List ℕ → ℕ → ℕ → ℕ → ℕ) → AddingCounts H bucket
unfolding after
adding_counts H bucket = record {
  one_number = λ l s t. (one.adding_counts).number H l s t;
  one_table = λ l s t. (one.adding_counts).table H l s t;
  many_number = many_number_lem H bucket;
  many_table = many_table_lem H bucket;
}
