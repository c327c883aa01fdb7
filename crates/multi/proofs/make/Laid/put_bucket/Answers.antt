-- `multi::make::Laid::put_bucket` meets its contract: the parts of the record are looked up, and the two keys are stored.
-- Assumes nothing.
use mathlib.Core.Path.{◌≡◌, refl, sym, ap, ◌∙◌}
use mathlib.Core.Bool.{Bool, true, false}
use Prim.Native.Nat.{ℕ, ◌-◌, ◌≤◌}
use native.Mathlib.Omega.{arith}
use lib.ListN.{get_or}
use Rattle.words.specs.Limits.{largest_single}
use Rattle.words.specs.Bytes.{put}
use Rattle.words.proofs.ByteLaws.{put_nil}
use Rattle.cipher.specs.TreeHash.{hash_by}
use Rattle.single.specs.Record as single
use Rattle.multi.specs.declared.make.Laid.{Laid}
use Rattle.multi.proofs.RecordWrites.{by_none, stored_by, keys_none, keys_made, from_is}
use Rattle.multi.proofs.make.Laid.put_bucket.Goals as goal

few : (l : Laid) (c : ℕ) {size : ℕ} → size ≡ get_or l.sizes.now c 0 → size ≤ largest_single
few l c size = omega (arith, size, l.small c)

inside : (l : Laid) (c : ℕ) {size alpha : ℕ} → size ≡ get_or l.sizes.now c 0 → alpha ≡ get_or l.spots.now c 0 → alpha ≤ size - 1
inside l c size spot = omega (arith, size, spot, l.inside c)

pub returns-then-size-eq0 : goal.returns-then-size-eq0
returns-then-size-eq0 c =
    let a = c.args in
    let l = a.self.now in
    let is = λ (p : Bool). from_is (hash_by a.h) l.holders.now l.sizes.now l.spots.now l.posting.values.now l.posting.words.now p
    a.c a.used c.element-size.ensures c.element-alpha.ensures refl c.value-beta.ensures c.word_no-r0.ensures c.word_no-r1.ensures in
    record {
      first = sym (ap (put a.key0.now a.at) (sym (is false) ∙ by_none _ _ _ _ _ _ _ c.if-size-eq0.true) ∙ put_nil _ _);
      second = sym (ap (put a.key1.now a.at) (sym (is true) ∙ by_none _ _ _ _ _ _ _ c.if-size-eq0.true) ∙ put_nil _ _);
    }

pub returns-in_default : goal.returns-in_default
returns-in_default c =
    let a = c.args in
    let l = a.self.now in
    let size = c.element-size.ensures in
    let spot = c.element-alpha.ensures in
    let none = keys_none _ _ _ _ _ _ c.in_default.field-0 (few l a.c size) (inside l a.c size spot) c.in_default.ensures in
    let is = λ (p : Bool). from_is (hash_by a.h) l.holders.now l.sizes.now l.spots.now l.posting.values.now l.posting.words.now p
    a.c a.used size spot refl c.value-beta.ensures c.word_no-r0.ensures c.word_no-r1.ensures in
    record {
      first = sym (ap (put a.key0.now a.at) (sym (is false) ∙ by_none _ _ _ _ _ _ _ none) ∙ put_nil _ _);
      second = sym (ap (put a.key1.now a.at) (sym (is true) ∙ by_none _ _ _ _ _ _ _ none) ∙ put_nil _ _);
    }

pub returns : goal.returns
returns c =
    let a = c.args in
    let l = a.self.now in
    let size = c.element-size.ensures in
    let spot = c.element-alpha.ensures in
    let long = ap single.length_for size in
    let made = keys_made _ _ _ _ _ _ c.in-Ok.pair (few l a.c size) (inside l a.c size spot) c.in-Ok.ensures in
    let is = λ (p : Bool). from_is (hash_by a.h) l.holders.now l.sizes.now l.spots.now l.posting.values.now l.posting.words.now p
    a.c a.used size spot refl c.value-beta.ensures c.word_no-r0.ensures c.word_no-r1.ensures in
    record {
      first = stored_by _ _ _ _ _ _ _ a.key0.now a.at made.0 (few l a.c size) made.1 (omega (arith, long, c.requires.1))
          c.put_record.ensures.bytes
          ∙ ap (put a.key0.now a.at) (is false);
      second = stored_by _ _ _ _ _ _ _ a.key1.now a.at made.0 (few l a.c size) made.2 (omega (arith, long, c.requires.2))
          c.put_record-2.ensures.bytes
          ∙ ap (put a.key1.now a.at) (is true);
    }
