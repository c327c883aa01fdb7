-- Laws of a layer that is grown in place of the one before, from its last node to its first.
--     children       children-one, children_two: what storing them writes
--     Growing        a layer of which the nodes from i on are grown: growing_none, growing_more, growing_all
--     layer          layer_of: the layer over given nodes
-- Assumes nothing.
use mathlib.Core.Path.{◌≡◌, refl, sym, ap, ap₂, ◌∙◌, subst}
use mathlib.Core.Bool.{Bool, true, false, cond}
use mathlib.Core.List.{List, [], ◌∷◌, ◌++◌}
use Prim.Native.Nat.{ℕ, suc, ◌+◌, ◌-◌, ◌*◌, ◌/◌, ◌%◌, ◌≤◌, ◌<◌}
use native.Mathlib.Omega.{arith}
use native.Mathlib.Nat.{sub-zero}
use lib.Dec.{ltb}
use lib.ListN.{length}
use borrow.Author.Tests.{lt-ltb, le-ltb, ltb-true, ltb-false}
use Rattle.words.specs.declared.Word.{Word}
use Rattle.words.specs.Word.{is_odd}
use Rattle.words.specs.Bytes.{put}
use Rattle.words.specs.Cells.{word_no}
use Rattle.words.proofs.ByteLaws.{put_nil, put_next}
use Rattle.single.specs.Nodes.{nodes_from, grown, children, layer}
use Rattle.single.proofs.NodeLaws.{put-before, put_longer, length-nodes_from, nodes_from_ext, nodes_from-append, word_no_kept, word_no-first}

-- ---- growing one node

module _ (l : List ℕ) (i n : ℕ) {l1 : List ℕ} (x y : Word) (stores : l1 ≡ put l (2 * (2 * i)) (x.lo ∷ x.hi ∷ [])) where
  -- the left child alone
  pub children-one : n ≤ 2 * i + 1 → l1 ≡ put l (2 * (2 * i)) (children n i x y)
  unfolding children
  children-one h = rw (le-ltb (2 * i + 1) n h) stores

  -- both children
  pub children_two : {l2 : List ℕ} → l2 ≡ put l1 (2 * (2 * i + 1)) (y.lo ∷ y.hi ∷ []) → 2 * i + 1 < n → 2 * n ≤ length l
      → l2 ≡ put l (2 * (2 * i)) (children n i x y)
  unfolding children
  children_two e h m =
      rw (lt-ltb (2 * i + 1) n h)
      (put_next l (2 * (2 * i)) (2 * (2 * i + 1)) (x.lo ∷ x.hi ∷ []) (y.lo ∷ y.hi ∷ []) stores e (omega arith) (omega arith))

module _ (g : Bool → Word → Word) (l : List ℕ) (i : ℕ) where
  grown_left : grown g l (2 * i) ≡ g false (word_no l i)
  unfolding grown is_odd
  grown_left =
      let even : (2 * i) % 2 ≡ 0 = omega arith in
      let half : (2 * i) / 2 ≡ i = omega arith in
      rw (even, half)

  grown_right : grown g l (suc (2 * i)) ≡ g true (word_no l i)
  unfolding grown is_odd
  grown_right =
      let odd : suc (2 * i) % 2 ≡ 1 = omega arith in
      let half : suc (2 * i) / 2 ≡ i = omega arith in
      rw (odd, half)

  -- the children of node i are the nodes 2i and 2i + 1 of the next layer
  children-grown : (n : ℕ) → children n i (g false (word_no l i)) (g true (word_no l i)) ≡ nodes_from (grown g l) (2 * i) (cond (ltb (2 * i + 1) n) 2 1)
  unfolding children nodes_from
  children-grown n = go (ltb (2 * i + 1) n)
    where
      go : (b : Bool) → (g false (word_no l i)).lo ∷ (g false (word_no l i)).hi ∷ cond b ((g true (word_no l i)).lo ∷ (g true (word_no l i)).hi ∷ []) []
          ≡ nodes_from (grown g l) (2 * i) (cond b 2 1)
      go true = ap₂ (λ (v w : Word). v.lo ∷ v.hi ∷ w.lo ∷ w.hi ∷ []) (sym grown_left) (sym grown_right)
      go false = ap (λ (w : Word). w.lo ∷ w.hi ∷ []) (sym grown_left)

-- ---- a layer, from its last node to its first

-- the nodes from i on are grown: their children stand at their places, and all that is before is as it was
pub record Growing (g : Bool → Word → Word) (next : ℕ) (l0 : List ℕ) (i : ℕ) (l : List ℕ) : Type 0 where
  pub within : 2 * i ≤ next + 1
  pub long : length l ≡ length l0
  pub nodes : l ≡ put l0 (2 * (2 * i)) (nodes_from (grown g l0) (2 * i) (next - 2 * i))

module _ (g : Bool → Word → Word) (next : ℕ) (l0 : List ℕ) (room : 2 * next ≤ length l0) where
  pub growing_none : (i : ℕ) → next ≤ 2 * i → 2 * i ≤ next + 1 → Growing g next l0 i l0
  unfolding nodes_from
  growing_none i all few =
      let none : next - 2 * i ≡ 0 = omega arith in
      record { within = omega arith; long = refl; nodes = rw none (sym (put_nil l0 _)) }

  -- both children are written: the node itself is still as it was, and its children stand right before those of the next
  both_children : (j : ℕ) {l l1 : List ℕ} → 2 * j + 1 < next → Growing g next l0 (j + 1) l → l1 ≡ put l (2 * (2 * j)) (nodes_from (grown g l) (2 * j) 2)
      → l1 ≡ put l0 (2 * (2 * j)) (nodes_from (grown g l0) (2 * j) (next - 2 * j))
  unfolding grown
  both_children j {l} h v e =
      let rest = nodes_from (grown g l0) (2 * (j + 1)) (next - 2 * (j + 1)) in
      let two = length-nodes_from (grown g l0) (2 * j) 2 in
      let many = length-nodes_from (grown g l0) (2 * (j + 1)) (next - 2 * (j + 1)) in
      let before : (k : ℕ) → k < 2 * j + 2 → word_no l (k / 2) ≡ word_no l0 (k / 2) =
      λ k q. ap (λ (r : List ℕ). word_no r (k / 2)) v.nodes ∙ word_no_kept l0 (2 * (2 * (j + 1))) rest (k / 2) (omega arith) (omega arith) in
      let old : (k : ℕ) → 2 * j ≤ k → k < 2 * j + 2 → g (is_odd k) (word_no l (k / 2)) ≡ g (is_odd k) (word_no l0 (k / 2)) =
      λ k p q. ap (g (is_odd k)) (before k q) in
      let place : 2 * (j + 1) ≡ 2 * j + 2 = omega arith in
      let count : 2 + (next - 2 * (j + 1)) ≡ next - 2 * j = omega arith in
      e
      ∙ ap₂ (λ (r bs : List ℕ). put r (2 * (2 * j)) bs) v.nodes (nodes_from_ext (grown g l) (grown g l0) (2 * j) 2 old)
      ∙ put-before l0 (2 * (2 * (j + 1))) rest (2 * (2 * j)) (nodes_from (grown g l0) (2 * j) 2) (omega arith) (omega arith)
      ∙ ap (λ (k : ℕ). put l0 (2 * (2 * j)) (nodes_from (grown g l0) (2 * j) 2 ++ nodes_from (grown g l0) k (next - 2 * (j + 1)))) place
      ∙ ap (put l0 (2 * (2 * j))) (nodes_from-append (grown g l0) (2 * j) 2 (next - 2 * (j + 1)))
      ∙ ap (λ (k : ℕ). put l0 (2 * (2 * j)) (nodes_from (grown g l0) (2 * j) k)) count

  -- the left child alone: this is the last node, and nothing was written before
  left_alone : (j : ℕ) {l l1 : List ℕ} → next ≤ 2 * j + 1 → Growing g next l0 (j + 1) l → l1 ≡ put l (2 * (2 * j)) (nodes_from (grown g l) (2 * j) 1)
      → l1 ≡ put l0 (2 * (2 * j)) (nodes_from (grown g l0) (2 * j) (next - 2 * j))
  unfolding nodes_from
  left_alone j {l} h v e =
      let none : next - 2 * (j + 1) ≡ 0 = omega (arith, v.within) in
      let count : next - 2 * j ≡ 1 = omega (arith, v.within) in
      let same : l ≡ l0 = (rw none at v.nodes) ∙ put_nil l0 _ in
      rw count (e ∙ ap (λ (r : List ℕ). put r (2 * (2 * j)) (nodes_from (grown g r) (2 * j) 1)) same)

  growing_turn : (j : ℕ) {l l1 : List ℕ} {x y : Word} → Growing g next l0 (j + 1) l → l1 ≡ put l (2 * (2 * j)) (children next j x y)
      → x ≡ g false (word_no l j) → y ≡ g true (word_no l j) → length l1 ≡ length l → Growing g next l0 j l1
  growing_turn j {l} {l1} v stores left right n = go (ltb (2 * j + 1) next) refl
    where
      e : l1 ≡ put l (2 * (2 * j)) (nodes_from (grown g l) (2 * j) (cond (ltb (2 * j + 1) next) 2 1))
      e =
          stores
          ∙ ap₂ (λ (v w : Word). put l (2 * (2 * j)) (children next j v w)) left right
          ∙ ap (put l (2 * (2 * j))) (children-grown g l j next)

      go : (b : Bool) → ltb (2 * j + 1) next ≡ b → Growing g next l0 j l1
      go true t = record { within = omega (arith, v.within); long = n ∙ v.long; nodes = both_children j (ltb-true _ _ t) v (rw t at e) }
      go false t = record { within = omega (arith, v.within); long = n ∙ v.long; nodes = left_alone j (ltb-false _ _ t) v (rw t at e) }

  -- a turn of the loop: x and y are the children that were stored
  pub growing_more : (i : ℕ) {l l1 : List ℕ} {x y : Word} → 0 < i → Growing g next l0 i l → l1 ≡ put l (2 * (2 * (i - 1))) (children next (i - 1) x y)
      → x ≡ g false (word_no l (i - 1)) → y ≡ g true (word_no l (i - 1)) → length l1 ≡ length l → Growing g next l0 (i - 1) l1
  growing_more i {l} some v stores left right n =
      let same : i ≡ i - 1 + 1 = omega arith in
      growing_turn (i - 1) (subst (λ (k : ℕ). Growing g next l0 k l) same v) stores left right n

  pub growing_all : (i : ℕ) {l : List ℕ} → i ≤ 0 → Growing g next l0 i l → l ≡ layer g next l0
  unfolding layer
  growing_all i h v =
      let none : i ≡ 0 = omega arith in
      rw (none, sub-zero) at v.nodes

-- the layer over given nodes, of which there is one for every two of its own
pub layer_of : (t : List ℕ) (g : Bool → Word → Word) (f : ℕ → Word) (m next : ℕ) → m ≤ next → next ≤ 2 * m
    → layer g next (put t 0 (nodes_from f 0 m)) ≡ put t 0 (nodes_from (λ k. g (is_odd k) (f (k / 2))) 0 next)
unfolding layer grown
layer_of t g f m next few many =
    let l = put t 0 (nodes_from f 0 m) in
    let old = length-nodes_from f 0 m in
    let new = length-nodes_from (λ k. g (is_odd k) (f (k / 2))) 0 next in
    ap (put l 0)
    (nodes_from_ext (λ k. g (is_odd k) (word_no l (k / 2))) (λ k. g (is_odd k) (f (k / 2))) 0 next
    (λ k p q. ap (g (is_odd k)) (word_no-first t f m (k / 2) (omega arith))))
    ∙ put_longer t (nodes_from f 0 m) (nodes_from (λ k. g (is_odd k) (f (k / 2))) 0 next) (omega arith)
