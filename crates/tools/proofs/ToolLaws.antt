-- Laws of numbers that stand for a list, of the fixed sequence, and of what is printed: what a loop's turn and its end
-- make of each.
--     turned     rotated: a turn by one bit, as a sum
--     folded     fold_next, fold_end; fold_numbers: a fold over numbers is that of the list itself
--     zeros_in   zeros_count
--     later      drawn_next, drawn-later: a loop's turn holds the number two places behind where it stands
--     held       held_some, held_none: a loop's turn; held_end
-- Assumes nothing.
use mathlib.Core.Bool.{Bool, false, true, cond}
use mathlib.Core.Path.{◌≡◌, refl, ap, ◌∙◌}
use mathlib.Core.List.{List, [], ◌∷◌, ◌++◌, map, append-nil}
use Prim.Native.Nat.{ℕ, ◌+◌, ◌*◌, ◌/◌, ◌%◌, ◌^◌, ◌≤◌, ◌<◌}
use native.Mathlib.Numerals.{add-one}
use native.Mathlib.Omega.{arith}
use borrow.Author.Tests.{eq-eqb, ne_eqb}
use lib.ListN.{length, get_or, take, drop, drop_of_length-le}
use lib.Seq.{drop-cons, take_all}
use Rattle.std.proofs.Common.{w64, eqb, zero-add, sym, codes}
use Rattle.std.proofs.lemmas.Nat.{or_shifted}
use Rattle.std.proofs.lemmas.List.{map-id, take_more}
use Rattle.std.proofs.lemmas.List.Concat.{flat_map-append}
use Rattle.std.proofs.lemmas.List.FromFn.{length-enumerate_from, get_or-enumerate_from}
use Rattle.std.proofs.lemmas.List.Recursion.{is_count_by}
use Rattle.std.specs.Fmt.{decimal}
use Rattle.std.specs.Int.{rotate_left}
use Rattle.std.specs.List.{count_by, flat_map, enumerate_from}
use Rattle.words.specs.Ring.{add}
use Rattle.tools.specs.Tools.{turned, folded, zeros_in, behind, later, drawn, held_at, held}

-- ---- numbers that stand for a list

pub rotated : (f x : ℕ) → f < 2 ^ 64 → (rotate_left w64 f 1 + x) % 2 ^ 64 ≡ turned f x
unfolding turned add
rotated f x h =
    let e : f * 2 % 2 ^ 64 ≡ f % 2 ^ 63 * 2 ^ 1 = omega arith in
    rw (e, or_shifted (f % 2 ^ 63) 1 (f / 2 ^ 63) (omega arith)) (omega arith)

pub fold_next : {A : Type 0} (g : A → ℕ) (f : ℕ) (t : List A) (i : ℕ) (d : A) → i < length t
    → folded (turned f (g (get_or t i d))) (map g (drop (i + 1) t)) ≡ folded f (map g (drop i t))
unfolding folded
fold_next g f t i d h = rw (drop-cons t i d h, add-one) refl

pub fold_end : {A : Type 0} (g : A → ℕ) (f : ℕ) (t : List A) (i : ℕ) → length t ≤ i → folded f (map g (drop i t)) ≡ f
unfolding folded
fold_end g f t i h = rw (drop_of_length-le t h) refl

pub fold_numbers : (t : List ℕ) → folded 0 (map (λ (x : ℕ). x) t) ≡ folded 0 t
fold_numbers t = ap (folded 0) (map-id t)

one_more : (b : Bool) (n : ℕ) → cond b 1 0 + n ≡ cond b (1 + n) n
one_more true n = refl
one_more false n = zero-add n

pub zeros_count : (t : List ℕ) → zeros_in t ≡ count_by (λ x. eqb x 0) t
unfolding zeros_in
zeros_count = is_count_by zeros_in (λ x. eqb x 0) refl (λ x xs. one_more (eqb x 0) (zeros_in xs))

-- ---- the fixed sequence

later_next : (n x : ℕ) → behind (later n x) ≡ later (n + 1) x
unfolding later
later_next n x = rw add-one

pub drawn_next : (s i : ℕ) {x y : ℕ} → x ≡ later (i + 2) s → y ≡ behind x → y ≡ drawn s i
drawn_next s i p q = q ∙ ap behind p ∙ later_next (i + 2) s ∙ ap (λ (k : ℕ). later k s) (omega arith)

pub drawn-later : (s i : ℕ) → drawn s i ≡ later (i + 1 + 2) s
drawn-later s i = ap (λ (k : ℕ). later k s) (omega arith)

-- ---- what is printed

-- one more cell, which holds something or 0
held_next : (l : List ℕ) (i : ℕ) → i < length l
    → flat_map held_at (take (i + 1) (enumerate_from 0 l)) ≡ flat_map held_at (take i (enumerate_from 0 l)) ++ held_at (i, get_or l i 0)
held_next l i h =
    let long = length-enumerate_from 0 l in
    let here = get_or-enumerate_from 0 l i (0, 0) h in
    let more = take_more (enumerate_from 0 l) i (0, 0) (rw long h) in
    ap (flat_map held_at) more ∙ flat_map-append held_at (take i (enumerate_from 0 l)) (get_or (enumerate_from 0 l) i (0, 0) ∷ [])
    ∙ ap (λ (t : List ℕ). flat_map held_at (take i (enumerate_from 0 l)) ++ t) (append-nil _ ∙ ap held_at (here ∙ ap (λ (k : ℕ). (k, get_or l i 0)) (zero-add i)))

pub held_some : (l : List ℕ) (i : ℕ) → i < length l → (get_or l i 0 ≡ 0 → ⊥)
    → flat_map held_at (take i (enumerate_from 0 l)) ++ (codes " " ++ (decimal i ++ (codes ":" ++ decimal (get_or l i 0))))
    ≡ flat_map held_at (take (i + 1) (enumerate_from 0 l))
held_some l i h some = sym (held_next l i h ∙ rw (ne_eqb (get_or l i 0) 0 some) refl)

pub held_none : (l : List ℕ) (i : ℕ) → i < length l → get_or l i 0 ≡ 0
    → flat_map held_at (take i (enumerate_from 0 l)) ≡ flat_map held_at (take (i + 1) (enumerate_from 0 l))
held_none l i h none = sym (held_next l i h ∙ rw (eq-eqb (get_or l i 0) 0 none) (append-nil _))

pub held_end : (l : List ℕ) (i : ℕ) → length l ≤ i → flat_map held_at (take i (enumerate_from 0 l)) ≡ held l
held_end l i h = rw (take_all i (enumerate_from 0 l) (rw (length-enumerate_from 0 l) h)) refl
