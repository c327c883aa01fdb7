-- `cipher::expand::expand` meets its contract: each turn writes one word behind those that are there. Assumes nothing.
use mathlib.Core.Path.{◌≡◌, sym, ap, ◌∙◌}
use Prim.Native.Nat.{ℕ, ◌+◌, ◌-◌, ◌*◌}
use native.Mathlib.Omega.{arith}
use borrow.Author.Rules.{rules}
use lib.ListN.{length, length-append, length-drop}
use lib.Seq.{take_all, take_at, length-take-le}
use Rattle.std.proofs.lemmas.Slice.{take-put_mid}
use Rattle.cipher.specs.Fips197.{expanded, key_expansion}
use Rattle.cipher.proofs.Packed.{std_bytes}
use Rattle.cipher.proofs.Schedule.{expanded_more, length_next}
use Rattle.cipher.proofs.expand.expand.Goals as goal

pub loop-i-init : goal.loop-i-init
unfolding expanded
loop-i-init c =
    let whole : length c.copy_from_slice.new.self ≡ 16 = search rules in
    (take_at _ _ 16 whole ∙ c.copy_from_slice.ensures.after, length-append c.copy_from_slice.new.self _ ∙ ap (λ (n : ℕ). n + 160) whole)

pub loop-i-preserved : goal.loop-i-preserved
loop-i-preserved c =
    let now = c.loop-i in
    let word = c.copy_from_slice-in-loop-i.ensures.after ∙ c.to_le_bytes-next.ensures ∙ std_bytes _ ∙ c.next_word.ensures in
    let four : length c.copy_from_slice-in-loop-i.new.self ≡ 4 = ap length word ∙ length_next now.w now.i in (
      take-put_mid (4 * now.i) (4 * now.i + 4 - 4 * now.i) now.w c.copy_from_slice-in-loop-i.new.self _ (omega arith) (omega arith)
          ∙ expanded_more _ now.w _ now.i (omega arith) now.invariant.0 word,
      simp (length-append, length-drop) (omega (arith, length-take-le (4 * now.i) now.w (omega arith))),
    )

pub returns : goal.returns
unfolding key_expansion
returns c =
    let end = c.loop-i in
    let last : end.i ≡ 44 = omega arith in
    sym (take_all 176 end.w (omega arith)) ∙ (rw last at end.invariant.0)
