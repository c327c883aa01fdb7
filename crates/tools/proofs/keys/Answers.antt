-- `tools::keys` meets its contract: byte i is the low byte of the number drawn in place i. Assumes nothing.
use Rattle.std.proofs.Common.{◌≡◌, ◌<◌, ◌%◌, ℕ, get_or, sym, ap, ◌∙◌, rules}
use Rattle.std.proofs.lemmas.List.{ext_get_or}
use Rattle.words.proofs.CellLaws.{length-tab, get_or-tab}
use Rattle.tools.specs.Tools.{drawn}
use Rattle.tools.proofs.keys.Goals as goal

pub returns : goal.returns
returns c =
    let made = c.map.ensures.items in
    let s = c.args.seed in
    ext_get_or 0 _ _ (made.long ∙ sym (length-tab _ 48)) (λ i below.
    let h : i < 48 = (rw made.long at below) in
    let called = made.at i 0 0 h in
    let low : get_or c.map.result i 0 ≡ get_or c.fill.new.words i 0 % 256 = search rules in
    let word = (ap (λ l. get_or l i 0) c.fill.ensures) ∙ get_or-tab (drawn s) 48 i h in
    low ∙ ap (λ (x : ℕ). x % 256) word ∙ sym (get_or-tab (λ j. drawn s j % 256) 48 i h))
