-- Demand 3 for single and multi pairs in any mixture: the shares that the images give are those of the made pair, and the sum
-- rule of its kind adds them up. Assumes nothing.
use mathlib.Core.Path.{◌≡◌, ap₂, ◌∙◌}
use mathlib.Core.Bool.{true, false}
use Prim.Native.Nat.{ℕ, ◌+◌, ◌*◌, ◌%◌, ◌^◌, ◌≤◌, ◌<◌}
use native.Mathlib.Omega.{arith}
use Rattle.words.specs.declared.Word.{Word}
use Rattle.single.proofs.SharesSum.{shares_sum}
use Rattle.single.proofs.TableSums.{demand3}
use Rattle.multi.specs.Tables.{MixedPosting, single_posting, multi_posting, mixed_posted, share_for}
use Rattle.multi.specs.Promises.{PairsAdd}
use Rattle.multi.proofs.SharesSum.{sum_placed}

-- the sum rule of a posting of either kind
pub pair_adds : (H : Word → Word) (w D : ℕ) → 3 * D ≤ 2 ^ 64 → (q : MixedPosting D) (x : ℕ) → x < D
    → (share_for H w D false q x + share_for H w D true q x) % 2 ^ w ≡ mixed_posted D q x % 2 ^ w
pair_adds H w D small (single_posting q) x lx = shares_sum H w D q.α q.β q.r0 q.r1 (omega arith) q.inside x lx
pair_adds H w D small (multi_posting q) x lx =
    sum_placed H w q.h D q.points q.values q.table q.words q.buckets q.rising q.placed small
    q.paired x lx

pub pairs-add : PairsAdd
pairs-add H w D small Image P rules answer share_of image alike =
    demand3 answer w share_of image (λ q. mixed_posted D (rules q)) D
    (λ q x lx. ap₂ (λ (a b : ℕ). (a + b) % 2 ^ w) (alike false q x lx) (alike true q x lx)
    ∙ pair_adds H w D small (rules q) x lx)
