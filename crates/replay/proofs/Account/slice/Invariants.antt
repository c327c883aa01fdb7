-- `replay::Account::slice` meets its contract. The invariant: no difference so far, and what is given below i may be wanted there.
-- Assumes nothing.
use mathlib.Core.Path.{◌≡◌}
use Prim.Native.Nat.{ℕ, ◌<◌}
use Rattle.replay.proofs.Account.slice.Given as goal

abbrev pub invariant-loop-i : goal.invariant-loop-i
invariant-loop-i g l = record {
  may_ask : goal.W-IsAlwaysCallable g l.wanted × goal.G-IsAlwaysCallable g l.given;
  same : l.self ≡ l.initial.self;
  alike : (k : ℕ) → k < l.i → (x : ℕ) × goal.W-post g l.wanted k x × goal.G-post g l.given k x;
}
