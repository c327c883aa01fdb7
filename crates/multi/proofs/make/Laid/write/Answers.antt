-- `multi::make::Laid::write` meets its contract: the sizes are summed up, and what they ask is held against what there is; then
-- each image is its header and directory, and the records behind them. Assumes nothing.
use Prim.Native.Nat.{ℕ}
use mathlib.Core.Path.{◌≡◌, sym, ap, ◌∙◌}
use native.Mathlib.Omega.{arith}
use Rattle.words.specs.Refusals.{first}
use Rattle.multi.specs.declared.make.Totals.{Totals}
use Rattle.multi.specs.declared.make.Laid.{Laid}
use Rattle.multi.specs.Making.{Fitting, room_rows, totals_of}
use Rattle.multi.proofs.WritingLaws.{laid_fits, laid_written}
use Rattle.multi.proofs.make.Laid.write.Goals as goal

-- the tests of Words and Room are of the sums that were counted
totalled : (words room0 room1 : ℕ) {n : ℕ} {t u : Totals} → n ≡ first (room_rows words t room0 room1) → t ≡ u
    → n ≡ first (room_rows words u room0 room1)
totalled words room0 room1 answer sums = answer ∙ ap (λ (t : Totals). first (room_rows words t room0 room1)) sums

fits : (l : Laid) (words room0 room1 : ℕ) {t : Totals} → 0 ≡ first (room_rows words t room0 room1) → t ≡ totals_of l.sizes.now
    → Fitting l.sizes.now l.spots.now room0 room1
fits l words room0 room1 answer sums =
    laid_fits words _ _ _ _ l.few l.small l.inside (sym (totalled words room0 room1 answer sums))

pub put_front-requires : goal.put_front-requires
put_front-requires c = (fits c.args.self.now _ _ _ c.in_ok-enough.ensures c.totals-t.ensures).first

pub put_front-requires-2 : goal.put_front-requires-2
put_front-requires-2 c = (fits c.args.self.now _ _ _ c.in_ok-enough.ensures c.totals-t.ensures).second

pub put_records-requires : goal.put_records-requires
put_records-requires c =
    let f = fits c.args.self.now _ _ _ c.in_ok-enough.ensures c.totals-t.ensures in
    record {
      few = f.few;
      small = f.small;
      inside = f.inside;
      first = omega (arith, f.first, c.put_front.auto.buf);
      second = omega (arith, f.second, c.put_front-2.auto.buf);
    }

pub returns : goal.returns
returns c =
    let none = sym (totalled _ _ _ c.in_ok-enough.ensures c.totals-t.ensures) in
    laid_written _ _ _ _ _ _ _ _ _ _ _ _ c.totals-t.ensures none
    (fits c.args.self.now _ _ _ c.in_ok-enough.ensures c.totals-t.ensures) (omega (arith, c)) _
    c.new.ensures
    _ _ _ _ c.put_front.ensures c.put_front-2.ensures (c.put_records.ensures.first, c.put_records.ensures.second)
