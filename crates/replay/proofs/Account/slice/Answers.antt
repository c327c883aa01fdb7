-- `replay::Account::slice` meets its contract. The invariant: no difference so far, and what is given below i may be wanted there.
-- Assumes nothing.
use mathlib.Core.Path.{ap}
use mathlib.Core.Logic.{inl, inr}
use native.Mathlib.Omega.{arith}
use borrow.Author.Count.{below_more}
use Rattle.replay.specs.Lists.{told}
use Rattle.replay.proofs.Account.slice.Goals as goal

pub returns-then-w-g : goal.returns-then-w-g
returns-then-w-g g c = inl (rw c.loop-i.invariant.same at c.differs.ensures.account)

pub loop-i-preserved : goal.loop-i-preserved
loop-i-preserved g c = record {
  may_ask = c.loop-i.invariant.may_ask;
  same = c.loop-i.invariant.same;
  alike = below_more _ _ c.loop-i.invariant.alike (_, c.wanted-w.ensures, rw (← c.if-w-g.false) at c.given-g.ensures);
}

pub returns-then-size-n : goal.returns-then-size-n
returns-then-size-n g c = inl (rw c.loop-i.invariant.same at c.differs-then-size-n.ensures.account)

pub returns : goal.returns
returns g c = inr (ap told c.loop-i.invariant.same, omega arith, λ k below. c.loop-i.invariant.alike k (omega (arith, below)))
