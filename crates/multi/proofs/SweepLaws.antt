-- Laws of the calls over all cells, which write the shares in front of the cells, or, if adding, add them.
--     filling      Fills; fill_none, fill_done: a mismatch, and the sums over the cells
--     passes       cells-written, cells-added: what placement's two passes leave
--     tests        evaluate_sweepable, add_sweepable: what is known where nothing is refused early; domain_refused,
--                  table_refused: where something is
-- Assumes nothing.
use mathlib.Core.Path.{◌≡◌, refl, ap, ◌∙◌, subst}
use mathlib.Core.Bool.{Bool, true, false, not}
use mathlib.Core.List.{List}
use Prim.Native.Nat.{ℕ, ◌<◌}
use native.Mathlib.Omega.{arith}
use lib.Dec.{T}
use lib.ListN.{length, get_or}
use borrow.Author.Tests.{not-false, ltb-false, eqb-true}
use Rattle.words.specs.declared.refusals.Refusal.{Refusal}
use Rattle.words.specs.declared.Word.{Word}
use Rattle.words.specs.Bytes.{put}
use Rattle.words.specs.Ring.{add}
use Rattle.words.specs.Cells.{tab, added, zeroed}
use Rattle.words.specs.Refusals.{first, number_of}
use Rattle.words.proofs.CellLaws.{tab_ext}
use Rattle.words.proofs.TestLaws.{first-clear}
use Rattle.placement.specs.Buckets.{size_of}
use Rattle.placement.specs.Passes.{gathered}
use Rattle.placement.specs.Calls.{gathering, gathering_out, gathering_into}
use Rattle.multi.specs.Image.{buckets_in, domain_in}
use Rattle.multi.specs.Calls.{share_in, domain_room, swept, evaluate_domain_early, evaluate_domain_number, evaluate_domain, add_to_early, add_to_number, add_to}
use Rattle.multi.specs.Reading.{matches_by, found, share_by, with_shares, Sweepable, Gathers, filled_by, cells_filled}
use Rattle.multi.proofs.ToldLaws.{refuses}
use Rattle.multi.proofs.CallLaws.{image-refused}
use Rattle.multi.proofs.ImageLaws.{well_formed}
use Rattle.multi.proofs.ReadLaws.{gather_done, gather_into_done}
use Rattle.multi.proofs.ExpandLaws.{zeroed-with_starts}
use Rattle.multi.proofs.DomainReads.{with_shares-none, found-one, found_match, found_differ, zeroed-with_shares, gathered-shares}

-- ---- after `lay_shares`, which answered r and left w in scratch

-- the answer, the scratch that was needed once it is zeroed, and the cells, which were o
pub record Fills (adding : Bool) (H : Word → Word) (h : ℕ → ℕ → ℕ) (l s o : List ℕ) (r : ℕ) (m o' : List ℕ) : Type 0 where
  pub answer : r ≡ found h l
  pub behind : zeroed (domain_room l) m ≡ zeroed (domain_room l) s
  pub cells : o' ≡ cells_filled adding H h l o

module _ (adding : Bool) (H : Word → Word) (h : ℕ → ℕ → ℕ) (l s o : List ℕ) (can : Sweepable adding l s o) (r : ℕ) (w : List ℕ)
    (answer : r ≡ found h l) (shares : w ≡ with_shares H h l s) where
  -- starts and sizes are in scratch, and the cells as they were
  pub fill_none : (r ≡ 0 → ⊥) → Fills adding H h l s o r w o
  unfolding cells_filled
  fill_none some =
      let other = found_differ h l r answer some in record {
        answer = answer;
        behind = ap (zeroed (domain_room l)) (shares ∙ with_shares-none H h l s other) ∙ zeroed-with_starts h l s can.room;
        cells = rw other refl;
      }

  -- numbers that agree below the domain fill alike
  fill_same : (t : Bool) → adding ≡ t → (f g : ℕ → ℕ) → ((x : ℕ) → x < domain_in l → f x ≡ g x)
      → filled_by t f (domain_in l) o ≡ filled_by t g (domain_in l) o
  unfolding added
  fill_same true e f g alike =
      tab_ext _ _ (length o) (λ x inside. ap (add 64 (get_or o x 0)) (alike x (omega (arith, can.exact e))))
  fill_same false e f g alike = ap (put o 0) (tab_ext f g (domain_in l) alike)

  module _ (low : (k x : ℕ) → k < 3 → x < domain_in l → h k x < buckets_in l) (none : r ≡ 0) where
    same : matches_by h l ≡ true
    same = found_match h l r answer none

    pub fill_done : (m o' : List ℕ) → Gathers adding h l w o m o' → Fills adding H h l s o 0 m o'
    unfolding cells_filled
    fill_done m o' pass =
        let sizes = tab (size_of h (domain_in l)) (buckets_in l) in
        let each : (x : ℕ) → x < domain_in l → gathered h (domain_in l) (buckets_in l) w x ≡ share_by H h l x =
        λ x inside. ap (λ (k : List ℕ). gathered h (domain_in l) (buckets_in l) k x) shares
        ∙ gathered-shares h l s can.room H low same x inside in record {
          answer = found-one h l same;
          behind = ap (zeroed (domain_room l)) (pass.sizes ∙ ap (λ (k : List ℕ). put k (buckets_in l) sizes) shares)
              ∙ zeroed-with_shares h l s can.room H low same;
          cells = rw same (pass.sums ∙ fill_same adding refl _ _ each);
        }

-- ---- placement's passes; `hb B` are the bucket functions for B buckets

module _ (hb : ℕ → ℕ → ℕ → ℕ) (l w o : List ℕ) (D B n : ℕ) (d : D ≡ domain_in l) (b : B ≡ buckets_in l) (m o' : List ℕ) where
  pub cells-written : Sweepable false l w o → gathering n m o' ≡ gathering_out (hb B) D B w o
      → (n ≡ 0) × Gathers false (hb (buckets_in l)) l w o m o'
  cells-written can e =
      let q = well_formed l can.ok in
      let done =
      gather_done (hb (buckets_in l)) (domain_in l) (buckets_in l) q.some_cells q.few_cells q.some_buckets q.few_buckets
      w n m o o' (omega (arith, can.room)) can.enough (rw (d, b) at e) in
      (done.0, record { sizes = done.1; sums = done.2 })

  pub cells-added : Sweepable true l w o → gathering n m o' ≡ gathering_into (hb B) D B w o
      → (n ≡ 0) × Gathers true (hb (buckets_in l)) l w o m o'
  cells-added can e =
      let q = well_formed l can.ok in
      let done =
      gather_into_done (hb (buckets_in l)) (domain_in l) (buckets_in l) q.some_cells q.few_cells q.some_buckets
      q.few_buckets
      w n m o o' (omega (arith, can.room)) (can.exact refl) (rw (d, b) at e) in
      (done.0, record { sizes = done.1; sums = done.2 })

-- ---- what is known where nothing is refused early

module _ (l s o : List ℕ) where
  pub evaluate_sweepable : first (evaluate_domain_early l (length s) (length o)) ≡ 0 → Sweepable false l s o
  evaluate_sweepable e =
      let rows = evaluate_domain_early l (length s) (length o) in
      record {
        ok = not-false _ (first-clear rows 0 tt e);
        room = ltb-false _ _ (first-clear rows 1 tt e);
        enough = ltb-false _ _ (first-clear rows 2 tt e);
        exact = λ never. absurd (subst (λ (t : Bool). T (not t)) never tt);
      }

  pub add_sweepable : first (add_to_early l (length o) (length s)) ≡ 0 → Sweepable true l s o
  add_sweepable e =
      let rows = add_to_early l (length o) (length s) in
      let same = eqb-true (length o) (domain_in l) (not-false _ (first-clear rows 1 tt e)) in
      record {
        ok = not-false _ (first-clear rows 0 tt e);
        room = ltb-false _ _ (first-clear rows 2 tt e);
        enough = omega arith;
        exact = λ each. same;
      }

-- ---- where something is

module _ (H : Word → Word) (bucket : List ℕ → ℕ → ℕ → ℕ → ℕ) (l s o : List ℕ) (e : Refusal) where
  pub domain_refused : number_of e ≡ first (evaluate_domain_early l (length s) (length o))
      → swept (number_of e) s o ≡ evaluate_domain H bucket l s o
  unfolding evaluate_domain evaluate_domain_number
  domain_refused same =
      image-refused swept bucket l (evaluate_domain_early l (length s) (length o)) _ _ (put o 0 (tab (share_in H bucket l) (domain_in l))) _ _
      tt same (refuses e)

  pub table_refused : number_of e ≡ first (add_to_early l (length o) (length s)) → swept (number_of e) s o ≡ add_to H bucket l s o
  unfolding add_to add_to_number
  table_refused same =
      image-refused swept bucket l (add_to_early l (length o) (length s)) _ _ (added 64 (share_in H bucket l) o) _ _ tt same (refuses e)
