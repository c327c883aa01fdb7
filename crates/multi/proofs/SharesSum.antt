-- The two shares of a cell add up: in each bucket that the cell enters, the two records' shares at its position add up to what
-- the bucket holds there (the single key's sum rule), and over the distinct buckets that is what was posted (placement's).
--     share_over_lem     the share of a cell as a sum over its buckets
--     alpha_lt       a record's point lies in its bucket
--     bucket_adds    one bucket's two shares
-- Assumes nothing.
use mathlib.Core.Path.{◌≡◌, refl}
use mathlib.Core.Bool.{Bool, true, false}
use mathlib.Core.List.{List}
use Prim.Native.Nat.{ℕ, zero, suc, ◌+◌, ◌*◌, ◌%◌, ◌^◌, ◌≤◌, ◌<◌}
use native.Mathlib.Omega.{arith}
use lib.ListN.{get_or, length}
use Rattle.words.specs.declared.Word.{Word}
use Rattle.words.specs.Cells.{word_no}
use Rattle.single.specs.Rules.{share, point}
use Rattle.single.proofs.SharesSum as one
use Rattle.placement.specs.Buckets.{size_of, pos_of, Enters}
use Rattle.placement.specs.Walk.{Placement}
use Rattle.placement.specs.Shares.{once3, over_buckets, at_points, posted, alpha_of, beta_of, held_at, Rising}
use Rattle.placement.proofs.BucketLaws.{pos_lt, size_le}
use Rattle.placement.proofs.ShareLaws.{alpha_none, alpha_held, sum_shares}
use Rattle.placement.proofs.WalkLaws.{placed}
use Rattle.multi.specs.Rules.{share_over, cell_share, multi_share, used_before, made_record, made_share}
use Rattle.multi.specs.Promises.{SharesSum}
use Rattle.multi.proofs.RecordsMade.{made_some}

module _ (H : Word → Word) (w : ℕ) (h : ℕ → ℕ → ℕ) (D : ℕ) (pts vs t ws : List ℕ) where
  pub share_over_lem : (p : Bool) (x : ℕ) → made_share H w h D pts vs t ws p x
      ≡ over_buckets h D (λ b y. share H w p (made_record H w h D pts vs t ws p b) y) x % 2 ^ w
  unfolding made_share multi_share cell_share share_over over_buckets once3
  share_over_lem p x = refl

  module _ (B : ℕ) (rising : Rising D pts) (place : Placement (at_points h pts) B (length pts) t) where
    -- position 0 where the bucket holds nothing
    pub alpha_lt : (b : ℕ) → 0 < size_of h D b → alpha_of h D pts t b < size_of h D b
    unfolding at_points
    alpha_lt b some = go (get_or t b 0) refl
      where
        go : (y : ℕ) → get_or t b 0 ≡ y → alpha_of h D pts t b < size_of h D b
        go zero e = rw (alpha_none h D pts t b e) some
        go (suc q) e =
            let at = place.holds b q e in
            rw (alpha_held h D pts t b q e) (pos_lt h b (get_or pts q 0) D (rising.low q at.0) at.1)

    bucket_adds : 3 * D ≤ 2 ^ 64 → (x : ℕ) → x < D → (b : ℕ) → Enters h b x
        → (share H w false (made_record H w h D pts vs t ws false b) (pos_of h D b x)
        + share H w true (made_record H w h D pts vs t ws true b) (pos_of h D b x)) % 2 ^ w
        ≡ held_at h D pts vs t b (pos_of h D b x) % 2 ^ w
    unfolding held_at point
    bucket_adds small x lx b e =
        let inside = pos_lt h b x D lx e in
        let some : 0 < size_of h D b = omega arith in
        rw (made_some H w h D pts vs t ws false b some, made_some H w h D pts vs t ws true b some)
        (one.shares_sum H w (size_of h D b) (alpha_of h D pts t b) (beta_of vs t b) (word_no ws (used_before h D b))
        (word_no ws (used_before h D b + 1))
        (omega (arith, size_le h b D)) (alpha_lt b some) (pos_of h D b x) inside)

    pub sum_placed : 3 * D ≤ 2 ^ 64 → length vs ≡ length pts → (x : ℕ) → x < D
        → (made_share H w h D pts vs t ws false x + made_share H w h D pts vs t ws true x) % 2 ^ w ≡ posted pts vs x % 2 ^ w
    sum_placed small same x lx =
        rw (share_over_lem false x, share_over_lem true x)
        (sum_shares (2 ^ w) h D B pts vs t rising same place _ _ x lx (bucket_adds small x lx))

pub shares_sum : SharesSum
unfolding at_points
shares_sum = record {
  placed = λ H w h D B pts vs t ws small rising same place x lx. sum_placed H w h D pts vs t ws B rising place small same x lx;
  walked = λ H w h D B pts vs ws small low rising same done x lx.
      sum_placed H w h D pts vs _ ws B rising
      (placed (at_points h pts) B (length pts) (λ k p lk lp. low k (get_or pts p 0) lk (rising.low p lp)) done) small same x lx;
}
