-- Lists of pairs, single and multi mixed, over one table of D cells (demand 3). Whatever an image is and whoever made it, a
-- posting says which rules gave its two keys.
--     MultiPosting D          what the maker of a multi key is given, and the placement that it found
--     MixedPosting D          a single posting, or a multi posting
--     mixed_posted D q x       the value that a posting puts at cell x
--     share_for H w D p q x    party p's share of cell x by the rules, from the key that they make of the posting q
-- Assumes nothing.
use Rattle.std.specs.Prelude.{◌≡◌, Bool, List, ℕ, length}
use Rattle.words.specs.declared.Word.{Word}
use Rattle.single.specs.Rules as one
use Rattle.single.specs.Tables as ones
use Rattle.placement.specs.Walk.{Placement}
use Rattle.placement.specs.Shares as cells
use Rattle.multi.specs.Rules.{made_share}

-- values at rising points, placed among b buckets by some table: the walk's, or any other
pub record MultiPosting (D : ℕ) : Type 0 where
  pub buckets : ℕ
  pub h : ℕ → ℕ → ℕ
  pub points : List ℕ
  pub values : List ℕ
  pub words : List ℕ
  pub table : List ℕ
  pub rising : cells.Rising D points
  pub paired : length values ≡ length points
  pub placed : Placement (cells.at_points h points) buckets (length points) table

pub data MixedPosting (D : ℕ) : Type 0 where
  single_posting : ones.Posting D → MixedPosting D
  multi_posting : MultiPosting D → MixedPosting D

abbrev pub mixed_posted : (D : ℕ) → MixedPosting D → ℕ → ℕ
mixed_posted D (single_posting q) x = ones.posted D q x
mixed_posted D (multi_posting q) x = cells.posted q.points q.values x

abbrev pub share_for : (Word → Word) → ℕ → (D : ℕ) → Bool → MixedPosting D → ℕ → ℕ
share_for H w D p (single_posting q) x = one.share H w p (one.made H D q.α q.r0 q.r1 w q.β p) x
share_for H w D p (multi_posting q) x = made_share H w q.h D q.points q.values q.table q.words p x
