-- `single::record::record_ok` meets its contract: a size without a length is refused; past that the other tests decide. Assumes
-- nothing.
use mathlib.Core.List.{List, [], ◌∷◌}
use mathlib.Core.Bool.{Bool, false, true, cond}
use Prim.Native.Nat.{ℕ}
use mathlib.Core.Path.{◌≡◌, sym, ap, ◌∙◌}
use native.Mathlib.Omega.{arith}
use Rattle.std.specs.Prelude.{Some, None}
use Rattle.std.proofs.lemmas.Grind.{common_steps}
use borrow.Author.Rules.{rules}
use borrow.Author.Tests.{eq-eqb, ne_eqb}
use lib.Dec.{leb, eqb}
use lib.ListN.{length}
use Rattle.words.specs.Height.{height_number}
use Rattle.words.specs.Bytes.{field}
use Rattle.words.specs.Refusals.{every}
use Rattle.words.proofs.TestLaws.{every_pass, every_fail}
use Rattle.single.specs.Record.{size_in, length_of, zero_tests, record_tests, record_ok}
use Rattle.single.proofs.RecordLaws.{length_some, length_out}
use Rattle.single.proofs.record.record_ok.Goals as goal

-- the tests that are left where the size has a length
abbrev rest : ℕ → List ℕ → ℕ → ℕ → Bool
rest limit l s n = every (leb s limit ∷ eqb (length l) n ∷ leb (field 8 l 40) 3 ∷ cond (eqb s 1) (every (zero_tests l)) true ∷ [])

module _ (limit : ℕ) (l : List ℕ) {s : ℕ} (size_is : s ≡ size_in l) where
  outside : length_of s ≡ None → record_ok limit l ≡ false
  unfolding record_ok record_tests
  outside e = every_fail _ (ne_eqb (height_number (size_in l)) 0 (λ z. length_out s e (ap height_number size_is ∙ z)))

  inside : {n : ℕ} → length_of s ≡ Some n → record_ok limit l ≡ rest limit l s n
  unfolding record_ok record_tests
  inside e =
      let q = length_some s e in
      rw (q.1, size_is) (every_pass _ (eq-eqb (height_number (size_in l)) 0 (ap height_number (sym size_is) ∙ q.0)))

pub returns-in_default : goal.returns-in_default
returns-in_default c =
    let none : c.record_length.result ≡ None = search rules in
    sym (outside c.args.limit c.args.l.now c.get_u64-size.ensures (sym c.record_length.ensures ∙ none))

pub returns-then-size-ne1 : goal.returns-then-size-ne1
unfolding every
returns-then-size-ne1 c =
    rw (inside c.args.limit c.args.l.now c.get_u64-size.ensures (sym c.record_length.ensures ∙ c.in-Some.is)) (grind (arith, common_steps))

pub returns-else-size-ne1 : goal.returns-else-size-ne1
unfolding every
returns-else-size-ne1 c =
    rw (inside c.args.limit c.args.l.now c.get_u64-size.ensures (sym c.record_length.ensures ∙ c.in-Some.is)) (grind (arith, common_steps))

pub returns-else-get_u64-le3 : goal.returns-else-get_u64-le3
unfolding every
returns-else-get_u64-le3 c =
    rw (inside c.args.limit c.args.l.now c.get_u64-size.ensures (sym c.record_length.ensures ∙ c.in-Some.is)) (grind (arith, common_steps))
