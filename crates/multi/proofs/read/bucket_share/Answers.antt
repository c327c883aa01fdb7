-- `multi::read::bucket_share` meets its contract: the record is there, so that it is not refused. Assumes nothing.
use mathlib.Core.Path.{ap, ◌∙◌}
use Prim.Native.Nat.{ℕ}
use Rattle.std.specs.Prelude.{Result}
use Rattle.std.specs.Result.{result_unwrap_or}
use Rattle.words.specs.declared.refusals.Refusal.{Refusal}
use Rattle.multi.proofs.RecordReads.{share_there}
use Rattle.multi.proofs.read.bucket_share.Goals as goal

pub returns : goal.returns
returns c =
    let a = c.args in
    c.unwrap_or.ensures
    ∙ ap (λ (r : Result ℕ Refusal). result_unwrap_or r 0)
    (share_there _ _ _ _ _ _ c.requires (rw (c.part-part.ensures, c.side.ensures) at c.record_share.ensures))
