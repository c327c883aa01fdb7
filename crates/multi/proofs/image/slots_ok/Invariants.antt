-- `multi::image::slots_ok` meets its contract. The invariant: the slots before c are ok, and `at` is where the next record has
-- to begin. Assumes nothing.
use mathlib.Core.Path.{◌≡◌}
use mathlib.Core.Bool.{true}
use Rattle.multi.specs.Image.{next_in, slots_ok}
use Rattle.multi.proofs.image.slots_ok.Given as goal

abbrev pub invariant-loop-c : goal.invariant-loop-c
invariant-loop-c l = record { due : l.at ≡ next_in l.key l.c; ok : slots_ok l.key l.c ≡ true }
