-- What is written so far is what the cells so far hold. Assumes nothing.
use Rattle.std.proofs.Common.{rules, codes, ◌++◌, get_or}
use Rattle.std.specs.Fmt.{decimal}
use Rattle.std.proofs.lemmas.Grind.{put_two}
use Rattle.tools.proofs.ToolLaws.{held_some, held_none, held_end}
use Rattle.tools.proofs.HeldDisplay.fmt.Goals.{then-x-ne0+in_ok-write, else-x-ne0}
use Rattle.tools.proofs.HeldDisplay.fmt.Goals as goal

pub loop-i-preserved : goal.loop-i-preserved
loop-i-preserved g c = λ plain.
    let cells = c.args.self.now.0.now in
    let i = c.loop-i.i-counter in
    let done = c.loop-i.invariant plain in
    elim c.if-x-ne0.branch [
      | then-x-ne0+in_ok-write w ↦
          let text = codes " " ++ (decimal i ++ (codes ":" ++ decimal (get_or cells i 0))) in
          rw w.f-is (put_two _ _ _ _ _ text _ done (search rules) (held_some cells i c.loop-i-test.true w.if-x-ne0.true))
      | else-x-ne0 w ↦ rw (w.f-is, ← held_none cells i c.loop-i-test.true w.if-x-ne0.false) done
    ]

pub returns-clause-writes : goal.returns-clause-writes
returns-clause-writes g c = λ plain _. rw (← held_end c.args.self.now.0.now c.loop-i.i-counter c.loop-i-test.false) (c.loop-i.invariant plain)
