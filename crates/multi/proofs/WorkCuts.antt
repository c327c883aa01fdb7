-- The working slice of making, cut in its parts: the walk's buckets and counters, then the sizes and the positions of the
-- buckets.
--     cut_first, cut_third, cut_fourth       of four lists one behind the other
--     holders_cut, sizes_cut, spots_cut      of what was laid out
-- Assumes nothing.
use mathlib.Core.Path.{◌≡◌, sym, ap, ap₂, ◌∙◌}
use mathlib.Core.List.{List, ◌++◌, append_assoc}
use Prim.Native.Nat.{ℕ, ◌+◌, ◌<◌}
use native.Mathlib.Omega.{arith}
use lib.ListN.{length, take, drop, length-append}
use lib.Seq.{take_at, drop_at}
use Rattle.words.specs.Bytes.{put}
use Rattle.words.specs.Cells.{tab}
use Rattle.words.proofs.CellLaws.{length-tab}
use Rattle.placement.specs.Buckets.{size_of}
use Rattle.placement.specs.Walk.{Walk}
use Rattle.placement.specs.Shares.{alpha_of}
use Rattle.placement.specs.Passes.{cells}
use Rattle.placement.specs.Calls.{walk_in, laid_out}
use Rattle.placement.proofs.LayLaws.{placement_in, cells-length}

regroup : (t f s r : List ℕ) → t ++ f ++ s ++ r ≡ t ++ (f ++ (s ++ r))
regroup t f s r = simp append_assoc

-- four lists one behind the other, and what stands behind them: the first, the third and the fourth, cut out
module _ (t f s a r : List ℕ) (b n : ℕ) (lt : length t ≡ b) (lf : length f ≡ n) (ls : length s ≡ b) (la : length a ≡ b) where
  cut_first : take b (t ++ f ++ (s ++ a) ++ r) ≡ t
  cut_first = ap (take b) (simp append_assoc) ∙ take_at t (f ++ (s ++ (a ++ r))) b lt

  cut_third : take b (drop (b + n) (t ++ f ++ (s ++ a) ++ r)) ≡ s
  cut_third =
      let both : length (t ++ f) ≡ b + n = length-append t f ∙ ap₂ (λ (x y : ℕ). x + y) lt lf in
      ap (λ (x : List ℕ). take b (drop (b + n) x)) (append_assoc (t ++ f) (s ++ a) r)
      ∙ ap (take b) (drop_at (t ++ f) (s ++ a ++ r) (b + n) both)
      ∙ ap (take b) (append_assoc s a r)
      ∙ take_at s (a ++ r) b ls

  cut_fourth : take b (drop (b + n + b) (t ++ f ++ (s ++ a) ++ r)) ≡ a
  cut_fourth =
      let all : length (t ++ f ++ s) ≡ b + n + b =
      length-append (t ++ f) s ∙ ap₂ (λ (x y : ℕ). x + y) (length-append t f ∙ ap₂ (λ (x y : ℕ). x + y) lt lf) ls in
      ap (λ (x : List ℕ). take b (drop (b + n + b) x)) (simp append_assoc)
      ∙ ap (λ (x : List ℕ). take b (drop (b + n + b) x)) (sym (regroup t f s (a ++ r)))
      ∙ ap (take b) (drop_at (t ++ f ++ s) (a ++ r) (b + n + b) all)
      ∙ take_at a r b la

-- the walk has placed every point, and its cells, the sizes and the positions stand in front of the slice
module _ (h : ℕ → ℕ → ℕ) (d b : ℕ) (pts l : List ℕ) (low : (k x : ℕ) → k < 3 → h k x < b)
    (none : (walk_in h b pts).hand ≡ 0) where
  abbrev w : Walk
  w = walk_in h b pts

  abbrev work : List ℕ
  work = put l 0 (laid_out h d b pts)

  table-long : length w.table ≡ b
  table-long = (placement_in h b low pts none).table_len

  fns-long : length w.fns ≡ length pts
  unfolding cells
  fns-long = omega (arith, cells-length h b low pts none, table-long, length-append w.table w.fns)

  abbrev sizes : List ℕ
  sizes = tab (size_of h d) b

  abbrev spots : List ℕ
  spots = tab (alpha_of h d pts w.table) b

  pub holders_cut : take b work ≡ w.table
  unfolding put laid_out cells
  holders_cut = cut_first w.table w.fns sizes spots _ b (length pts) table-long fns-long (length-tab _ b) (length-tab _ b)

  pub sizes_cut : take b (drop (b + length pts) work) ≡ sizes
  unfolding put laid_out cells
  sizes_cut = cut_third w.table w.fns sizes spots _ b (length pts) table-long fns-long (length-tab _ b) (length-tab _ b)

  pub spots_cut : take b (drop (b + length pts + b) work) ≡ spots
  unfolding put laid_out cells
  spots_cut = cut_fourth w.table w.fns sizes spots _ b (length pts) table-long fns-long (length-tab _ b) (length-tab _ b)
