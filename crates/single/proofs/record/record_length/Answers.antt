-- `single::record::record_length` meets its contract: a size within the limits has a height. Assumes nothing.
use Rattle.std.proofs.Common.{◌≡◌, ℕ, ◌+◌, ◌*◌, Some, Ok, Bool, T, not, rules, sym, ap, subst, ◌∙◌, arith}
use Rattle.std.specs.Result.{is_ok}
use Rattle.words.specs.Height.{height, height_number}
use Rattle.words.proofs.HeightLaws.{height_told, height_known}
use Rattle.single.specs.Record.{record_length, word_count}
use Rattle.single.proofs.RecordLaws.{count_most, length_known, length_unknown}
use Rattle.single.proofs.record.record_length.Goals.{After-saturating_sub}
use Rattle.single.proofs.record.record_length.Goals as goal

known : (c : After-saturating_sub) → (height_number c.args.size ≡ 0) × (c.in_ok-height.height ≡ height c.args.size)
known c =
    let found : c.height.result ≡ Ok c.in_ok-height.height = search rules in
    height_told _ _ (rw found at c.height.ensures)

pub overflow_mul-result : goal.overflow_mul-result
overflow_mul-result c =
    let h = known (goal.at.overflow_mul-result c).After-saturating_sub in record { fits = omega (arith, h.1, count_most _ h.0) }

pub overflow_add-result : goal.overflow_add-result
overflow_add-result c =
    let h = known (goal.at.overflow_add-result c).After-saturating_sub in record { fits = omega (arith, h.1, count_most _ h.0) }

pub returns : goal.returns
unfolding record_length
returns c =
    let h = known (goal.at.returns c).After-saturating_sub in
    let words : word_count c.args.size ≡ c.saturating_sub.result = omega (arith, h.1) in
    sym (length_known c.args.size h.0 ∙ ap (λ (n : ℕ). Some (56 + 16 * n)) words)

pub returns-in_err-height : goal.returns-in_err-height
returns-in_err-height c =
    c.from_residual.ensures
    ∙ sym (length_unknown _ (λ e. subst (λ (b : Bool). T (not b)) (c.in_err-height.ensures.variant ∙ ap is_ok (height_known _ _ c.height.ensures e)) tt))
