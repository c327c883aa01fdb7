-- What the programs of vectors share: numbers that stand for a list, a fixed sequence, parts of a list, and how words
-- and lists are printed.
--     turned f x       f turned left by one bit, plus x, modulo 2 ^ 64
--     folded f l       f with each element of l turned in, one after the other
--     zeros_in l        how many elements of l are 0
--     behind x         the number behind x in a sequence of 64 bits: x xor x shifted left by 13, right by 7, left by 17
--     later n x        the number n places behind x
--     drawn s i        number i of those that a seed s gives: the first stands three places behind it
--     part l a n       the n elements of l from a on; none where they are not all there
--     digits_16 n      16 hexadecimal digits of n
--     halves w         the high half of w and its low half, 16 digits each, a space between them
--     spaced l         each element of l, a space before it
--     held l           of each element of l that is not 0 its place and what it is, a space before and a colon between them
-- Assumes nothing.
use Rattle.std.specs.Prelude.{cond, false, codes, ◌++◌, ◌-◌, List, [], ◌∷◌, ℕ, zero, suc, ◌+◌, ◌*◌, ◌/◌, ◌%◌, ◌^◌, leb, eqb, length, take, drop}
use Rattle.std.specs.List.{flat_map, enumerate_from}
use Rattle.std.specs.Int.Bits.{bit_xor}
use Rattle.std.specs.Fmt.{decimal, digits, padded_integral, format_spec}
use Rattle.words.specs.Ring.{add}
use Rattle.words.specs.declared.Word.{Word}

-- ---- numbers that stand for a list

unfoldable pub turned : ℕ → ℕ → ℕ
turned f x = add 64 (add 64 f f) (add 64 (f / 2 ^ 63) x)

unfoldable pub folded : ℕ → List ℕ → ℕ
folded f [] = f
folded f (x ∷ l) = folded (turned f x) l

unfoldable pub zeros_in : List ℕ → ℕ
zeros_in [] = 0
zeros_in (x ∷ l) = cond (eqb x 0) 1 0 + zeros_in l

-- ---- a fixed sequence

abbrev pub mixed_left : ℕ → ℕ → ℕ
mixed_left k x = bit_xor x (x * 2 ^ k % 2 ^ 64)

abbrev pub mixed_right : ℕ → ℕ → ℕ
mixed_right k x = bit_xor x (x / 2 ^ k)

unfoldable pub behind : ℕ → ℕ
behind x = mixed_left 17 (mixed_right 7 (mixed_left 13 x))

unfoldable pub later : ℕ → ℕ → ℕ
later zero x = x
later (suc n) x = behind (later n x)

abbrev pub drawn : ℕ → ℕ → ℕ
drawn seed i = later (i + 3) seed

-- ---- parts

unfoldable pub part : {A : Type 0} → List A → ℕ → ℕ → List A
part l a n = cond (leb (a + n) (length l)) (take n (drop a l)) []

-- ---- what is printed

abbrev pub digits_16 : ℕ → List ℕ
digits_16 n = padded_integral (format_spec 32 0 4 16 (2 ^ 64 - 1)) false [] (digits 16 false n)

abbrev pub halves : Word → List ℕ
halves w = digits_16 w.hi ++ (codes " " ++ digits_16 w.lo)

abbrev pub spaced : List ℕ → List ℕ
spaced xs = flat_map (λ x. codes " " ++ decimal x) xs

abbrev pub held_at : ℕ × ℕ → List ℕ
held_at cell = cond (eqb cell.1 0) [] (codes " " ++ (decimal cell.0 ++ (codes ":" ++ decimal cell.1)))

abbrev pub held : List ℕ → List ℕ
held xs = flat_map held_at (enumerate_from 0 xs)
