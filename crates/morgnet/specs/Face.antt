-- How the C face hands values over (include/morgnet.h): a word is two u64, low half first; what a call answers besides its number
-- is an array of numbers.
--     halves w, word l    a word as its two halves, and back
--     pair_made g          making a single pair: the number, the array and both buffers; multi_made g: a multi pair, with its scratch
--     place_given p        handing out a record: the number and the array
-- Assumes nothing.
use Rattle.std.specs.Prelude.{ℕ, List, [], ◌∷◌, get_or}
use Rattle.words.specs.declared.Word.{Word}
use Rattle.single.specs.Calls as single
use Rattle.multi.specs.Image.{RecordPlace}
use Rattle.multi.specs.Calls as multi

abbrev pub halves : Word → List ℕ
halves w = w.lo ∷ w.hi ∷ []

abbrev pub word : List ℕ → Word
word l = record { lo = get_or l 0 0; hi = get_or l 1 0 }

-- the array: the image's length, the random words used
abbrev pub pair_made : single.Generating → ℕ × List ℕ × List ℕ × List ℕ
pair_made g = (g.answer.number, g.answer.length ∷ g.answer.words ∷ [], g.key0, g.key1)

-- the array: the image's length, the random words used, all evictions
abbrev pub multi_made : multi.Generating → ℕ × List ℕ × List ℕ × List ℕ × List ℕ
multi_made g = (g.answer.number, g.answer.length ∷ g.answer.words ∷ g.answer.evictions ∷ [], g.scratch, g.key0, g.key1)

-- the array: where the record begins, its length
abbrev pub place_given : RecordPlace → ℕ × List ℕ
place_given p = (p.number, p.start ∷ p.bytes ∷ [])
