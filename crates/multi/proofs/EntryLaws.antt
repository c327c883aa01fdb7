-- The entries of all buckets in one slice: B starts, B sizes, and then the parts of the buckets, one behind the other, two
-- elements to an entry.
--     parts       length_parts, parts_next, parts_at: element i of bucket c among the parts of all
--     shares      gathered-share: what is gathered of a cell is its share over the distinct buckets
-- Assumes nothing.
use mathlib.Core.Path.{◌≡◌, refl, ap, ◌∙◌}
use mathlib.Core.Logic.{inl, inr, ⊎_elim}
use mathlib.Core.List.{List, ◌++◌}
use Prim.Native.Nat.{ℕ, zero, suc, ◌+◌, ◌*◌, ◌≤◌, ◌<◌}
use native.Mathlib.Nat.{eq-or-lt_of_le, le_of_suc-le-suc}
use native.Mathlib.Numerals.{add-one}
use native.Mathlib.Omega.{arith}
use lib.ListN.{length, get_or, length-append, get_or-append}
use lib.Seq.{get_or-append-add}
use Rattle.words.specs.Bytes.{put}
use Rattle.words.specs.Cells.{sum_to}
use Rattle.placement.specs.Buckets.{size_of, start_of, pos_of, Enters}
use Rattle.placement.specs.Shares.{once3, over_buckets}
use Rattle.placement.specs.Passes.{entry_at, gathered}
use Rattle.placement.proofs.BucketLaws.{pos_lt, start_end, sizes_sum}
use Rattle.placement.proofs.PutLaws.{put-at, put_other}
use Rattle.multi.specs.Rules.{share_over}
use Rattle.multi.specs.Image.{records_bytes as parts}

-- ---- parts one behind the other

module _ (part : ℕ → List ℕ) (size : ℕ → ℕ) where
  pub parts_next : (b : ℕ) → parts part (b + 1) ≡ parts part b ++ part b
  unfolding parts
  parts_next b = rw add-one

  module _ (n : ℕ) (long : (c : ℕ) → c < n → length (part c) ≡ 2 * size c) where
    pub length_parts : (b : ℕ) → b ≤ n → length (parts part b) ≡ 2 * sum_to b size
    unfolding parts sum_to
    length_parts zero h = refl
    length_parts (suc b) h =
        length-append (parts part b) (part b) ∙ omega (arith, length_parts b (omega arith), long b (omega arith))

    pub parts_at : (b c i : ℕ) → b ≤ n → c < b → i < 2 * size c
        → get_or (parts part b) (2 * sum_to c size + i) 0 ≡ get_or (part c) i 0
    unfolding parts sum_to
    parts_at zero c i h below inside = let z : ⊥ = omega arith in absurd z
    parts_at (suc b) c i h below inside =
        ⊎_elim
        (λ e. rw e (here b (omega (arith, ap (λ (k : ℕ). 2 * size k) e)) (omega arith)))
        (λ less.
        get_or-append (parts part b) (part b) 0 (2 * sum_to c size + i)
        (omega (arith, length_parts b (omega arith), room c b less))
        ∙ parts_at b c i (omega arith) less inside)
        (eq-or-lt_of_le (le_of_suc-le-suc below))
      where
        here : (b : ℕ) → i < 2 * size b → b < n → get_or (parts part b ++ part b) (2 * sum_to b size + i) 0 ≡ get_or (part b) i 0
        here b inside below =
            ap (λ (k : ℕ). get_or (parts part b ++ part b) k 0) (omega (arith, length_parts b (omega arith)))
            ∙ get_or-append-add (parts part b) (part b) i 0

        room : (c b : ℕ) → c < b → sum_to c size + size c ≤ sum_to b size
        room c zero l = let z : ⊥ = omega arith in absurd z
        room c (suc b) l =
            ⊎_elim (λ e. rw e (omega arith)) (λ less. omega (arith, room c b less)) (eq-or-lt_of_le (le_of_suc-le-suc l))

-- ---- shares

-- the slice l has the starts in front, and behind 2B elements room for all entries
module _ (h : ℕ → ℕ → ℕ) (D B : ℕ) (low : (k x : ℕ) → k < 3 → x < D → h k x < B) (l : List ℕ) (room : B + B + 6 * D ≤ length l)
    (starts : (c : ℕ) → c < B → get_or l c 0 ≡ start_of h D c) (part : ℕ → List ℕ)
    (long : (c : ℕ) → c < B → length (part c) ≡ 2 * size_of h D c)
    (f : ℕ → ℕ → ℕ) (each : (c y : ℕ) → c < B → y < size_of h D c → get_or (part c) (2 * y) 0 ≡ f c y) where
  -- entry y of bucket c
  entry_is : (c y : ℕ) → c < B → y < size_of h D c → entry_at B (put l (B + B) (parts part B)) c y ≡ f c y
  unfolding entry_at start_of
  entry_is c y below inside =
      let all = length_parts part (size_of h D) B long B (omega arith) in
      let sum = sizes_sum h B D low in
      let end = start_end h B D c low below in
      let start : get_or (put l (B + B) (parts part B)) c 0 ≡ start_of h D c =
      put_other l (B + B) (parts part B) c (omega arith) (inl (omega arith)) ∙ starts c below in
      let at : B + B + (start_of h D c + y) * 2 ≡ B + B + (2 * sum_to c (size_of h D) + 2 * y) = omega arith in
      ap (λ (s : ℕ). get_or (put l (B + B) (parts part B)) (B + B + (s + y) * 2) 0) start
      ∙ ap (λ (k : ℕ). get_or (put l (B + B) (parts part B)) k 0) at
      ∙ put-at l (B + B) (parts part B) (2 * sum_to c (size_of h D) + 2 * y) (omega arith) (omega arith)
      ∙ parts_at part (size_of h D) B long B c (2 * y) (omega arith) below (omega arith)
      ∙ each c y below inside

  pub gathered-share : (x : ℕ) → x < D → gathered h D B (put l (B + B) (parts part B)) x
      ≡ share_over 64 (h 0 x) (h 1 x) (h 2 x) (f (h 0 x) (pos_of h D (h 0 x) x)) (f (h 1 x) (pos_of h D (h 1 x) x))
      (f (h 2 x) (pos_of h D (h 2 x) x))
  unfolding gathered over_buckets once3 share_over
  gathered-share x lx =
      let at : (c : ℕ) → c < B → Enters h c x → entry_at B (put l (B + B) (parts part B)) c (pos_of h D c x) ≡ f c (pos_of h D c x) =
      λ c below e. entry_is c (pos_of h D c x) below (pos_lt h c x D lx e) in
      let e0 = at (h 0 x) (low 0 x (omega arith) lx) (inl refl) in
      let e1 = at (h 1 x) (low 1 x (omega arith) lx) (inr (inl refl)) in
      let e2 = at (h 2 x) (low 2 x (omega arith) lx) (inr (inr refl)) in
      rw (e0, e1, e2)
