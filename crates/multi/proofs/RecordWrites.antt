-- Laws of writing one bucket's record.
--     holders     value_none, value-some
--     words       used_by_next
--     lengths     length_most
--     records     by_none, by_some, length_by; stored_by: a record that is written; keys_none, keys_made: what `make_keys`
--                 answers; from_is: of the parts that were found
-- Assumes nothing.
use mathlib.Core.Path.{◌≡◌, refl, sym, ap, ◌∙◌}
use mathlib.Core.Bool.{Bool, true, false}
use mathlib.Core.List.{List, []}
use Prim.Native.Nat.{ℕ, zero, suc, ◌+◌, ◌*◌, ◌-◌, ◌≤◌}
use native.Mathlib.Omega.{arith}
use borrow.Author.Tests.{eq-eqb, ne_eqb, eqb-true, eqb-false}
use lib.Dec.{eqb}
use lib.ListN.{length, get_or}
use Rattle.words.specs.Limits.{largest_single}
use Rattle.std.specs.Prelude.{Ok, Err}
use Rattle.words.specs.declared.refusals.Refusal.{Refusal}
use Rattle.words.specs.declared.Word.{Word}
use Rattle.words.specs.Bytes.{put, stored}
use Rattle.words.specs.Cells.{word_no}
use Rattle.words.specs.Refusals.{Domain, first}
use Rattle.words.specs.Height as height
use Rattle.words.proofs.ByteLaws.{stored-fits}
use Rattle.words.proofs.CellLaws.{sum_to_next}
use Rattle.words.proofs.TestLaws.{succeeded}
use Rattle.words.proofs.HeightLaws.{in_limits}
use Rattle.single.specs.declared.SingleKey.{SingleKey}
use Rattle.single.specs.Rules.{made}
use Rattle.single.specs.Keys.{key_of, record_of}
use Rattle.single.specs.Record as single
use Rattle.single.specs.declared.pairs.KeyPair as pair
use Rattle.single.specs.Pairs.{KeyPair, told, keys_tests, keys_number, keys_for}
use Rattle.single.proofs.KeyLaws.{record_back}
use Rattle.single.proofs.PairLaws.{keys_pass}
use Rattle.single.proofs.MadeFits.{made-fits}
use Rattle.single.proofs.RecordLaws.{count_most, length_none, length-record_bytes}
use Rattle.multi.specs.Rules.{words_for}
use Rattle.multi.specs.Image.{bytes_of}
use Rattle.multi.specs.Making.{value_at, used_by, record_by, record_from}
use Rattle.multi.proofs.ToldLaws.{refuses}
use Rattle.multi.proofs.RecordPlaces.{length-treed, length-zero}

-- ---- holders

pub value_none : (vs : List ℕ) (k : ℕ) → k ≡ 0 → value_at vs k ≡ 0
unfolding value_at
value_none vs k e = rw e

pub value-some : (vs : List ℕ) (k : ℕ) → (k ≡ 0 → ⊥) → value_at vs k ≡ get_or vs (k - 1) 0
unfolding value_at
value-some vs zero some = absurd (some refl)
value-some vs (suc p) some = let back : suc p - 1 ≡ p = omega arith in ap (λ (i : ℕ). get_or vs i 0) (sym back)

-- ---- words

pub used_by_next : (sizes : List ℕ) (c : ℕ) → used_by sizes (c + 1) ≡ used_by sizes c + words_for (get_or sizes c 0)
unfolding used_by
used_by_next sizes c = sum_to_next c _

-- ---- lengths

pub length_most : (s : ℕ) → single.length_for s ≤ 584
length_most s = go (height.height_number s) refl
  where
    go : (n : ℕ) → height.height_number s ≡ n → single.length_for s ≤ 584
    go zero e = omega (arith, length-treed s e, count_most s e)
    go (suc n) e = omega (arith, length_none s (λ z. let never : ⊥ = omega arith in never))

-- ---- records

module _ (H : Word → Word) (S α β : ℕ) (r0 r1 : Word) (p : Bool) where
  pub by_none : S ≡ 0 → bytes_of (record_by H S α β r0 r1 p) ≡ []
  unfolding record_by bytes_of
  by_none e = rw (eq-eqb S 0 e)

  pub by_some : (S ≡ 0 → ⊥) → bytes_of (record_by H S α β r0 r1 p) ≡ single.record_bytes (made H S α r0 r1 64 β p)
  unfolding record_by bytes_of
  by_some some = rw (ne_eqb S 0 some, made-fits.sized H S α r0 r1 64 β p, ne_eqb S 0 some)

  length_some : (S ≡ 0 → ⊥) → S ≤ largest_single → length (bytes_of (record_by H S α β r0 r1 p)) ≡ single.length_for S
  length_some some few =
      ap length (by_some some) ∙ length-record_bytes _ ∙ ap (λ (n : ℕ). 56 + 16 * n) (made-fits.counted H S α r0 r1 64 β p)
      ∙ sym (length-treed S (in_limits S (omega arith) few))

  pub length_by : S ≤ largest_single → length (bytes_of (record_by H S α β r0 r1 p)) ≡ single.length_for S
  length_by few = go (eqb S 0) refl
    where
      go : (t : Bool) → eqb S 0 ≡ t → length (bytes_of (record_by H S α β r0 r1 p)) ≡ single.length_for S
      go true e = let none = eqb-true S 0 e in ap length (by_none none) ∙ sym (ap single.length_for none ∙ length-zero)
      go false e = length_some (eqb-false S 0 e) few

  -- a key that holds the record, stored where there is room
  pub stored_by : (l : List ℕ) {m : List ℕ} {k : SingleKey} (at : ℕ) → (S ≡ 0 → ⊥) → S ≤ largest_single
      → k ≡ key_of (made H S α r0 r1 64 β p)
      → at + single.length_for S ≤ length l → m ≡ stored l at (single.record_bytes (record_of k))
      → m ≡ put l at (bytes_of (record_by H S α β r0 r1 p))
  stored_by l {m} {k} at some few held room e =
      let bytes : single.record_bytes (record_of k) ≡ bytes_of (record_by H S α β r0 r1 p) =
      ap (λ (x : SingleKey). single.record_bytes (record_of x)) held ∙ ap single.record_bytes (record_back _)
      ∙ sym (by_some some) in
      let long = length_some some few in
      e ∙ ap (λ (x : List ℕ). stored l at x) bytes ∙ stored-fits l at _ (omega arith)

-- both keys of a size and a point within the limits
keys_are : (H : Word → Word) (S α β : ℕ) (r0 r1 : Word) → (S ≡ 0 → ⊥) → S ≤ largest_single → α ≤ S - 1
    → keys_for H S α β r0 r1 ≡ record { number = 0; key0 = key_of (made H S α r0 r1 64 β false); key1 = key_of (made H S α r0 r1 64 β true) }
unfolding keys_for
keys_are H S α β r0 r1 some few inside =
    succeeded _ _ _ (keys_pass S α (record { some = omega arith; few = few; inside = omega arith }))

-- there are none only over no entries
pub keys_none : (H : Word → Word) (S α β : ℕ) (r0 r1 : Word) (e : Refusal) → S ≤ largest_single → α ≤ S - 1
    → told (Err e) ≡ keys_for H S α β r0 r1 → S ≡ 0
keys_none H zero α β r0 r1 e few inside answer = refl
keys_none H (suc n) α β r0 r1 e few inside answer =
    let same = ap (λ (k : KeyPair). k.number) (answer ∙ keys_are H (suc n) α β r0 r1 (λ z. omega arith) few inside) in
    absurd (refuses e same)

-- else they are made
pub keys_made : (H : Word → Word) (S α β : ℕ) (r0 r1 : Word) (p : pair.KeyPair) → S ≤ largest_single → α ≤ S - 1
    → told (Ok p) ≡ keys_for H S α β r0 r1
    → (S ≡ 0 → ⊥) × (p.key0 ≡ key_of (made H S α r0 r1 64 β false)) × (p.key1 ≡ key_of (made H S α r0 r1 64 β true))
unfolding keys_for keys_number keys_tests first
keys_made H zero α β r0 r1 p few inside answer =
    let same : 0 ≡ Domain = ap (λ (k : KeyPair). k.number) answer in
    let never : ⊥ = omega arith in
    absurd never
keys_made H (suc n) α β r0 r1 p few inside answer =
    let some : suc n ≡ 0 → ⊥ = λ z. omega arith in
    let all = answer ∙ keys_are H (suc n) α β r0 r1 some few inside in
    (some, ap (λ (k : KeyPair). k.key0) all, ap (λ (k : KeyPair). k.key1) all)

module _ (H : Word → Word) (holders sizes spots vs ws : List ℕ) where
  -- of the parts that were found
  pub from_is : (p : Bool) (c u : ℕ) {size alpha holder beta : ℕ} {r0 r1 : Word}
      → size ≡ get_or sizes c 0 → alpha ≡ get_or spots c 0 → holder ≡ get_or holders c 0 → beta ≡ value_at vs holder → r0 ≡ word_no ws u
      → r1 ≡ word_no ws (u + 1)
      → bytes_of (record_by H size alpha beta r0 r1 p) ≡ bytes_of (record_from H holders sizes spots vs ws u p c)
  unfolding record_from
  from_is p c u e0 e1 e2 e3 e4 e5 = rw (e0, e1, e3, e2, e4, e5)
