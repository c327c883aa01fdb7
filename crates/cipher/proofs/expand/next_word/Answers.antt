-- `cipher::expand::next_word` meets its contract in each fourth word. Assumes nothing.
use mathlib.Core.Path.{ap, ◌∙◌}
use lib.Bits.{bit_xor}
use borrow.Author.Tests.{eq-eqb}
use Rattle.cipher.specs.Fips197.{rot_word, sub_word, next_word}
use Rattle.cipher.proofs.Packed.{packed_add}
use Rattle.cipher.proofs.BlockSteps.{diagonal_same}
use Rattle.cipher.proofs.expand.next_word.Goals as goal

pub returns-then-i-eq0 : goal.returns-then-i-eq0
unfolding next_word
returns-then-i-eq0 c =
    let back = c.key_column-back in
    let subbed = c.sub_column in
    let turned = c.turn-turned in
    let word = turned.ensures ∙ ap rot_word c.key_column-last.ensures in
    simp (eq-eqb _ _ c.if-i-eq0.true)
    (packed_add back.result (bit_xor subbed.result c.rcon.result) back.ensures
    (packed_add subbed.result c.rcon.result (subbed.ensures ∙ ap sub_word (diagonal_same turned.result ∙ word))
    c.rcon.ensures))
