-- `placement::Functions::clear_counters` meets its contract: a part of the slice is filled. Assumes nothing.
use mathlib.Core.Path.{◌≡◌, sym, ap, ◌∙◌}
use mathlib.Core.List.{List, append_assoc}
use Prim.Native.Nat.{ℕ, ◌+◌, ◌≤◌}
use native.Mathlib.Omega.{arith}
use borrow.Rule.Slice.PartMut.{put_mid, mid_of}
use lib.ListN.{length, replicate, length-drop, length-replicate, drop}
use lib.Seq.{length-take-le, drop-drop}
use Rattle.words.specs.Bytes.{put}
use Rattle.placement.proofs.Functions.clear_counters.Goals as goal

-- n elements from b on become n zeros
part : (b n k : ℕ) (l z : List ℕ) → k ≡ n → b + n ≤ length l → z ≡ replicate (length (mid_of b k l)) 0 → put_mid b k l z ≡ put l b (replicate n 0)
unfolding put
part b n k l z e fits filled =
    let long : length (mid_of b k l) ≡ n = length-take-le k (drop b l) (simp length-drop (omega arith)) ∙ e in
    let zeros : z ≡ replicate n 0 = filled ∙ ap (λ (m : ℕ). replicate m 0) long in
    let same : length {A = ℕ} (replicate n 0) ≡ n = length-replicate n 0 in
    rw (zeros, e, same, drop-drop n b l) (sym (append_assoc _ (replicate n 0) _))

pub returns : goal.returns
returns c = part _ _ _ _ _ (omega arith) c.requires (c.fill.ensures.after (λ y same. same))
