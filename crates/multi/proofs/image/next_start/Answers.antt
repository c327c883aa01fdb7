-- `multi::image::next_start` meets its contract: an entry is 0, points elsewhere, or says where the next record begins; and
-- there is a record there or not. Assumes nothing.
use mathlib.Core.Path.{◌≡◌, sym, ap, ◌∙◌}
use Rattle.words.specs.Limits.{largest_single}
use Rattle.single.specs.Record as single
use Rattle.multi.specs.Image.{entry_in}
use Rattle.multi.proofs.SlotLaws.{next_none, next_elsewhere, next_bad, next_good}
use Rattle.multi.proofs.image.next_start.Goals as goal

pub returns-then-e-eq0 : goal.returns-then-e-eq0
returns-then-e-eq0 c =
    next_none _ _ _ c.requires.at_value (sym c.entry-e.ensures ∙ c.if-e-eq0.true)

pub returns-then-e-at : goal.returns-then-e-at
returns-then-e-at c =
    let e = c.entry-e.ensures in
    next_elsewhere _ _ (λ z. c.if-e-eq0.false (e ∙ z)) (λ z. c.if-e-at.true (e ∙ z ∙ sym c.requires.at_value))

pub returns-then-record_ok : goal.returns-then-record_ok
returns-then-record_ok c =
    let asked : single.record_ok largest_single (single.record_part c.args.key.now c.args.at) ≡ c.record_ok.result = sym (c.record_ok.ensures ∙ ap (single.record_ok largest_single) c.part_at-record.ensures) in
    let some : entry_in c.args.key.now c.args.c ≡ 0 → ⊥ = λ z. c.if-e-eq0.false (c.entry-e.ensures ∙ z) in
    let begins : entry_in c.args.key.now c.args.c ≡ c.args.at = sym c.entry-e.ensures ∙ c.if-e-at.false in
    rw c.part_at-record.ensures (next_good c.args.key.now c.args.c some c.args.at begins
    c.requires.at_value (asked ∙ c.if-record_ok.true))

pub returns : goal.returns
returns c =
    let asked : single.record_ok largest_single (single.record_part c.args.key.now c.args.at) ≡ c.record_ok.result = sym (c.record_ok.ensures ∙ ap (single.record_ok largest_single) c.part_at-record.ensures) in
    let some : entry_in c.args.key.now c.args.c ≡ 0 → ⊥ = λ z. c.if-e-eq0.false (c.entry-e.ensures ∙ z) in
    let begins : entry_in c.args.key.now c.args.c ≡ c.args.at = sym c.entry-e.ensures ∙ c.if-e-at.false in
    next_bad c.args.key.now c.args.c some c.args.at begins c.requires.at_value (asked ∙ c.if-record_ok.false)
