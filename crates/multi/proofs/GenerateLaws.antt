-- Laws of the call that makes a pair.
--     after `lay_out`     lay_gave_up, lay_small, lay_inside, lay_given: a point was left in hand, or none was
--     the call            call_refused, call_made
-- Assumes nothing.
use mathlib.Core.Path.{◌≡◌, refl, sym, ap, ◌∙◌}
use mathlib.Core.Bool.{Bool, true, false, cond}
use mathlib.Core.List.{List, ◌++◌}
use Prim.Native.Nat.{ℕ, zero, suc, ◌+◌, ◌-◌, ◌≤◌, ◌<◌}
use native.Mathlib.Omega.{arith}
use borrow.Author.Tests.{le-leb, lt-leb}
use lib.Dec.{leb}
use lib.ListN.{length, take, drop, get_or}
use Rattle.std.specs.Prelude.{Err}
use Rattle.words.specs.declared.refusals.Refusal.{Refusal}
use Rattle.words.specs.declared.Word.{Word}
use Rattle.words.specs.Bytes.{put}
use Rattle.words.specs.Cells.{zeroed}
use Rattle.words.specs.Refusals.{Place, first, on_success, number_of}
use Rattle.words.proofs.TestLaws.{refused, first_most, first-least}
use Rattle.placement.specs.Answers.{Placed}
use Rattle.placement.specs.Calls.{Placing, walk_in, placeable, placed, laid_out, laying_out}
use Rattle.placement.proofs.CallLaws.{placed_gave_up, placed-all, placed-hand, placed-evictions, placed-scratch}
use Rattle.words.specs.Limits.{largest_single}
use Rattle.multi.specs.Calls.{Generated, Given, generate_room, functions, generate_early, generate_late, generate_number, generating, generate_keys, told_made}
use Rattle.multi.specs.Making.{Writing, writing, write_given, refusing, write_laid}
use Rattle.multi.proofs.WritingLaws.{given_up, work-small, work-inside, work-given}
use Rattle.placement.proofs.LimitLaws.{before, past}
use Rattle.multi.proofs.ToldLaws.{refuses}
use Rattle.multi.proofs.GivenLaws.{Early, early_placeable}

-- ---- after `lay_out`, which answered r and left m in scratch

module _ (H : Word → Word) (bucket : List ℕ → ℕ → ℕ → ℕ → ℕ) (g : Given) (l : List ℕ) (facts : Early g (length l)) (r : Placed)
    (m : List ℕ)
    (laid : placed r m ≡ laying_out (functions bucket g) g.domain g.buckets g.points l) (k0 k1 : List ℕ) where
  abbrev h : ℕ → ℕ → ℕ
  h = functions bucket g

  abbrev b : ℕ
  b = g.buckets

  abbrev n : ℕ
  n = length g.points

  abbrev layout : List ℕ
  layout = laid_out h g.domain b g.points

  clear : placeable g.domain b g.points (length l) (b + n + b + b) ≡ 0
  clear = early_placeable g (length l) (length l) facts facts.room

  same_number : {s t : Placing} → s ≡ t → s.answer.number ≡ t.answer.number
  same_number e = ap (λ (p : Placing). p.answer.number) e

  pub lay_gave_up : (r.number ≡ 0 → ⊥) → refusing r.number k0 k1 ≡ write_given H bucket g k0 k1
  lay_gave_up some =
      let all = placed-all h g.domain b g.points (b + n + b + b) layout l clear _ _ in
      let left : (walk_in h b g.points).hand ≡ 0 → ⊥ = λ none. some (same_number (laid ∙ sym (all none refl refl))) in
      let gave-up = placed_gave_up h g.domain b g.points (b + n + b + b) layout l clear left in
      ap (λ (k : ℕ). refusing k k0 k1) (same_number (laid ∙ sym gave-up)) ∙ given_up H bucket g k0 k1 left

  module _ (low : (k x : ℕ) → k < 3 → h k x < b) (none : r.number ≡ 0) where
    hand : (walk_in h b g.points).hand ≡ 0
    hand = placed-hand h g.domain b g.points (b + n + b + b) layout l r m laid none

    filled : m ≡ put l 0 layout
    filled = placed-scratch h g.domain b g.points (b + n + b + b) layout l r m laid none

    pub lay_small : (c : ℕ) → get_or (take b (drop (b + n) m)) c 0 ≤ largest_single
    lay_small c = work-small H bucket g low hand l m filled facts.few_cells c

    pub lay_inside : (c : ℕ) → get_or (take b (drop (b + n + b) m)) c 0 ≤ get_or (take b (drop (b + n) m)) c 0 - 1
    lay_inside c = work-inside H bucket g low hand l m filled facts.rising c

    pub lay_given : write_laid H g.domain n g.keys (take b m) (take b (drop (b + n) m)) (take b (drop (b + n + b) m)) g.values g.words
        r.evictions k0 k1 ≡ write_given H bucket g k0 k1
    lay_given =
        work-given H bucket g low hand l m filled k0 k1
        (placed-evictions h g.domain b g.points (b + n + b + b) layout l r m laid none)

-- ---- the call

abbrev answered : ℕ → Generated
answered n = record { number = n; length = 0; words = 0; evictions = 0 }

-- scratch is zeroed in either case
merge : (n : ℕ) → ((n ≡ 0 → ⊥) → leb Place n ≡ true) → (done : Generated) (p0 p1 k0 k1 z s : List ℕ)
    → (let w = on_success n (writing done p0 p1) (writing (answered n) k0 k1) in
    generating w.answer z w.key0 w.key1)
    ≡ on_success n (generating done (on_success n z (cond (leb Place n) z s)) p0 p1)
    (generating (answered n) (on_success n z (cond (leb Place n) z s)) k0 k1)
merge zero high done p0 p1 k0 k1 z s = refl
merge (suc n) high done p0 p1 k0 k1 z s =
    ap (λ (t : Bool). generating (answered (suc n)) (cond t z s) k0 k1) (sym (high (λ e. let never : ⊥ = omega arith in never)))

module _ (H : Word → Word) (bucket : List ℕ → ℕ → ℕ → ℕ → ℕ) (g : Given) (s k0 k1 : List ℕ) where
  abbrev len : ℕ
  len = length s

  -- the numbers that are found early are below Place, and leave scratch
  early_low : first (generate_early g (length s)) ≤ 5
  early_low = first_most 5 (generate_early g (length s)) tt

  pub call_refused : (e : Refusal) → number_of e ≡ first (generate_early g (length s))
      → generating (told_made (Err e)) s k0 k1 ≡ generate_keys H bucket g s k0 k1
  unfolding generate_keys generate_number
  call_refused refusal e =
      let n = number_of refusal in
      let some = refuses refusal in
      let number : first (generate_early g (length s) ++ generate_late bucket g (length k0) (length k1)) ≡ n =
      before (generate_early g (length s)) (generate_late bucket g (length k0) (length k1)) (λ z. some (e ∙ z)) ∙ sym e in
      let low : leb Place n ≡ false = lt-leb Place n (omega (arith, early_low)) in
      rw (number, refused n (zeroed (generate_room g) s) (cond (leb Place n) (zeroed (generate_room g) s) s) some, low)
      (sym (refused n _ _ some))

  -- Place, Words and Room zero it
  late-high : (n : ℕ) → n ≡ first (generate_late bucket g (length k0) (length k1)) → (n ≡ 0 → ⊥) → leb Place n ≡ true
  late-high n e some =
      le-leb Place n (rw e (first-least Place (generate_late bucket g (length k0) (length k1)) tt (λ z. some (e ∙ z))))

  pub call_made : (r : Generated) (m0 m1 : List ℕ) → first (generate_early g (length s)) ≡ 0
      → writing r m0 m1 ≡ write_given H bucket g k0 k1
      → generating r (zeroed (generate_room g) s) m0 m1 ≡ generate_keys H bucket g s k0 k1
  unfolding generate_keys generate_number write_given
  call_made r m0 m1 none e =
      let number = past (generate_early g (length s)) (generate_late bucket g (length k0) (length k1)) tt none in
      ap (λ (w : Writing). generating w.answer (zeroed (generate_room g) s) w.key0 w.key1) e
      ∙ rw number (merge (first (generate_late bucket g (length k0) (length k1))) (late-high _ refl) _ _ _ k0 k1
      (zeroed (generate_room g) s) s)
