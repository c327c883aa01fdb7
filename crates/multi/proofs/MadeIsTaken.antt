-- A made image passes every test of its adding call where table and scratch fit, so a run over made images takes each of them.
-- Assumes nothing.
use mathlib.Core.Path.{◌≡◌, sym, ap, ◌∙◌}
use mathlib.Core.Bool.{Bool}
use mathlib.Core.List.{List}
use Prim.Native.Nat.{ℕ, ◌+◌, ◌*◌, ◌≤◌}
use native.Mathlib.Omega.{arith}
use lib.ListN.{length}
use Rattle.words.specs.Limits.{most_buckets}
use Rattle.words.specs.declared.Word.{Word}
use Rattle.words.specs.Word.{On128}
use Rattle.single.specs.Calls as one
use Rattle.single.proofs.MadeIsTaken as one_taken
use Rattle.multi.specs.Calls.{image_made, add_to_number}
use Rattle.multi.specs.Promises.{Below}
use Rattle.multi.specs.Demand.{answer_of, share_of, Pair, one_point, many_points, image_of, room_for, MadeIsTaken}
use Rattle.multi.proofs.GivenLaws.{given_early}
use Rattle.multi.proofs.MadeKeysRead.{made_keys_read}
use Rattle.multi.proofs.RunsExist.{runs_exist}
use Rattle.multi.proofs.PairsAddUp.{one_limits, one-posting}

module _ (H : Word → Word) (on : On128 H) (bucket : List ℕ → ℕ → ℕ → ℕ → ℕ) (low : Below bucket) (D : ℕ) (p : Bool) where
  taken-one : (q : Pair H bucket D) (t : List ℕ) (room : ℕ) → length t ≡ D → room_for H bucket D q ≤ room
      → answer_of H bucket (image_of H bucket D p q) t room ≡ 0
  taken-one (one_point q) t room e fits =
      let lim = one_limits D q in
      let made = one-posting H D q in
      ap (λ (l : List ℕ). one.add_to_number l (length t) room) (sym (made.images p))
      ∙ (one_taken.made_is_taken).taken H on D lim.0 lim.1 p made.posting t room e fits
  taken-one (many_points g a s) t room e fits =
      ap (λ (n : ℕ). add_to_number bucket (image_made H bucket g p) n room) (e ∙ sym s)
      ∙ (made_keys_read H on bucket low g a p).adds room (omega arith)

  -- the most scratch that any pair needs
  room_most : (q : Pair H bucket D) → room_for H bucket D q ≤ 6 * D + 2 * most_buckets
  room_most (one_point q) = omega arith
  room_most (many_points g a s) = omega (arith, (given_early bucket g a.scratch a.room0 a.room1 a.number).few_buckets)

pub made_is_taken : MadeIsTaken
made_is_taken = record {
  taken = taken-one;
  runs = λ H on bucket low D room p qs t e fits.
      runs_exist _ _ (answer_of H bucket) 64 (share_of H bucket) (image_of H bucket D p) D room
      (λ q u f. taken-one H on bucket low D p q u room f (omega (arith, room_most H on bucket low D p q))) qs t e;
}
