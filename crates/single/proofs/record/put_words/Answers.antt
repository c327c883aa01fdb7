-- `single::record::put_words` meets its contract. The invariant: the words that are left, written, give what is promised. Assumes nothing.
use mathlib.Core.Path.{◌≡◌, refl, sym, ap, ◌∙◌}
use Prim.Native.Nat.{◌-◌}
use native.Mathlib.Nat.{add-zero, sub-zero}
use native.Mathlib.Omega.{arith}
use Rattle.words.specs.declared.Word.{Word}
use Rattle.words.proofs.ByteLaws.{put_nil, length-word_bytes, number_fits}
use Rattle.words.proofs.RefusalsTold.{is_ok_told}
use Rattle.single.specs.Keys.{words_from}
use Rattle.single.specs.Record.{words_bytes}
use Rattle.single.proofs.ColumnLaws.{words_turn}
use Rattle.single.proofs.record.put_words.Goals as goal

pub loop-i-init : goal.loop-i-init
loop-i-init c = (refl, simp (add-zero, sub-zero))

pub unwrap-requires : goal.unwrap-requires
unwrap-requires c =
    is_ok_told _ (c.put_word.ensures.answer ∙ number_fits _ _ _ (omega (arith, length-word_bytes c.word-w.result, c.loop-i.invariant.0)))

pub loop-i-preserved : goal.loop-i-preserved
loop-i-preserved c =
    let l = c.loop-i in
    let a = c.args in
    let k = a.key in
    let turn = words_turn l.buf a.at l.i k.count k.lows k.highs _ (ap (λ (w : Word). w.lo) c.word-w.ensures) (ap (λ (w : Word). w.hi) c.word-w.ensures)
    c.put_word.ensures.bytes (omega arith) (omega arith) in
    (turn.0 ∙ l.invariant.0, turn.1 ∙ l.invariant.1)

pub returns : goal.returns
unfolding words_from words_bytes
returns c =
    let l = c.loop-i in
    let none : c.args.key.count - l.i ≡ 0 = omega arith in
    sym (put_nil _ _) ∙ (rw none at l.invariant.1)
