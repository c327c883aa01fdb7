-- A layer of the tree in a lent slice of u64: node i stands at 2i, low half, and 2i + 1, high half (document 01, "Numbers": the
-- whole single domain works in 2S elements). `word_no` of words is node i of a slice.
--     nodes_from f i n        the nodes f i .. f (i + n - 1) as they stand
--     grown g l k            node k of the next layer: g (is k odd) of its parent, node k / 2 of l
--     children n i x y       the children x and y of node i as they stand in a layer of n nodes; y only where the layer has it
--     layer g n l            l with the n nodes of the next layer in place of its own
--     spread f n             the numbers f 0 .. f (n - 1) as low halves, each with a high half of 0
--     laid op f t            each cell x of t under op with f x: `added w` of words is this for the sums modulo 2 ^ w
-- Assumes nothing.
use Rattle.std.specs.Prelude.{Bool, cond, List, [], ◌∷◌, ℕ, zero, suc, ◌+◌, ◌*◌, ◌/◌, ltb, length, get_or}
use Rattle.words.specs.declared.Word.{Word}
use Rattle.words.specs.Word.{is_odd}
use Rattle.words.specs.Bytes.{put}
use Rattle.words.specs.Cells.{tab, word_no}

unfoldable pub nodes_from : (ℕ → Word) → ℕ → ℕ → List ℕ
nodes_from f i zero = []
nodes_from f i (suc n) = (f i).lo ∷ (f i).hi ∷ nodes_from f (suc i) n

-- ---- one layer

unfoldable pub grown : (Bool → Word → Word) → List ℕ → ℕ → Word
grown g l k = g (is_odd k) (word_no l (k / 2))

unfoldable pub children : ℕ → ℕ → Word → Word → List ℕ
children n i x y = x.lo ∷ x.hi ∷ cond (ltb (2 * i + 1) n) (y.lo ∷ y.hi ∷ []) []

unfoldable pub layer : (Bool → Word → Word) → ℕ → List ℕ → List ℕ
layer g n l = put l 0 (nodes_from (grown g l) 0 n)

-- ---- shares in place of leaves

-- a word of a low half alone
abbrev pub low_word : ℕ → Word
low_word x = record { lo = x; hi = 0 }

unfoldable pub spread : (ℕ → ℕ) → ℕ → List ℕ
spread f n = nodes_from (λ x. low_word (f x)) 0 n

unfoldable pub laid : (ℕ → ℕ → ℕ) → (ℕ → ℕ) → List ℕ → List ℕ
laid op f t = tab (λ x. op (get_or t x 0) (f x)) (length t)
