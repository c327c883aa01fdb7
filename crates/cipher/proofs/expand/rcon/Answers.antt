-- `cipher::expand::rcon` meets its contract: the ten powers, one after the other. Assumes nothing.
use mathlib.Core.Path.{◌≡◌, ap, ◌∙◌}
use mathlib.Core.Bool.{Bool}
use mathlib.Core.List.{List, [], ◌∷◌}
use Prim.Native.Nat.{ℕ, ◌-◌, ◌<◌}
use native.Mathlib.Omega.{arith}
use lib.Dec.{eqb, eqb→eq}
use lib.ListN.{get_or}
use Rattle.words.specs.Bytes.{le_bytes}
use Rattle.cipher.specs.Fips197.{power}
use Rattle.cipher.proofs.EveryByte.{at-below}
use Rattle.cipher.proofs.KeysAreBytes.{power_lt}
use Rattle.cipher.proofs.Packed.{small_bytes}
use Rattle.cipher.proofs.expand.rcon.Goals as goal

powers : List ℕ
powers = 0x01 ∷ 0x02 ∷ 0x04 ∷ 0x08 ∷ 0x10 ∷ 0x20 ∷ 0x40 ∷ 0x80 ∷ 0x1b ∷ 0x36 ∷ []

right : ℕ → Bool
unfolding powers
right n = eqb (get_or powers n 0) (power n)

rule : (n : ℕ) → n < 10 → get_or powers n 0 ≡ power n
unfolding powers right
rule n h = eqb→eq (get_or powers n 0) (power n) (at-below 10 right tt n h)

pub returns : goal.returns
unfolding powers
returns c =
    let i = c.args.i in
    ap (le_bytes 4) (c.from.ensures ∙ rule (i - 1) (omega arith)) ∙ small_bytes (power (i - 1)) (power_lt (i - 1))
