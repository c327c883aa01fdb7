-- Laws of reading one cell, with the sizes of all buckets in scratch.
--     the pass     cell_spots: what `spots` answers and leaves; with_sizes-part, with_sizes-long, compared, cell-compared: the sizes,
--                  held against the image's
--     the cell     spots_here: its three records are there; cell_at: their share is that of the rules; found-mismatch,
--                  found-share: what is answered
--     the call     Readable, readable: what is known where nothing is refused early; cell_refused, cell_passed
-- Assumes nothing.
use mathlib.Core.Path.{◌≡◌, refl, sym, ap, ◌∙◌}
use mathlib.Core.Bool.{Bool, true, false, cond}
use mathlib.Core.Logic.{inl, inr}
use mathlib.Core.List.{List}
use Prim.Native.Nat.{ℕ, ◌≤◌, ◌<◌}
use native.Mathlib.Omega.{arith}
use lib.ListN.{length, take, get_or}
use borrow.Author.Tests.{leb-false, ltb-false}
use Rattle.std.specs.Prelude.{Err}
use Rattle.words.specs.declared.refusals.Refusal.{Refusal}
use Rattle.words.specs.declared.Word.{Word}
use Rattle.words.specs.Cells.{tab, zeroed}
use Rattle.words.specs.Refusals.{Mismatch, first, number_of}
use Rattle.words.proofs.ByteLaws.{take_put}
use Rattle.words.proofs.CellLaws.{length-tab, get_or-tab}
use Rattle.words.proofs.TestLaws.{first-clear}
use Rattle.single.specs.Rules.{Record}
use Rattle.placement.specs.Answers.{Spots}
use Rattle.placement.specs.Buckets.{size_of}
use Rattle.placement.specs.Calls.{spotted, spots_of, spotting}
use Rattle.multi.specs.Rules.{cell_share, multi_share}
use Rattle.multi.specs.Image.{buckets_in, domain_in, bucket_record, bucket_size, multi_ok}
use Rattle.multi.specs.Calls.{Share, told_share, side_in, alike, functions_in, share_in, evaluate_at_early, evaluate_at_number, Reading, reading, evaluate_at}
use Rattle.multi.specs.Reading.{Here, matches_by, found, share_by, with_sizes, cell_found}
use Rattle.multi.proofs.ToldLaws.{refuses}
use Rattle.multi.proofs.ImageLaws.{well_formed}
use Rattle.multi.proofs.CallLaws.{image-refused, image_passed, alike_ext}
use Rattle.multi.proofs.ReadLaws.{zeroed_write, spots_done}
use Rattle.multi.proofs.RecordReads.{here_in}

-- ---- the pass over the cells; `hb B` are the bucket functions for B buckets

pub cell_spots : (hb : ℕ → ℕ → ℕ → ℕ) (l : List ℕ) → multi_ok l ≡ true → (D B x : ℕ) (s : List ℕ) (r : Spots) (m : List ℕ)
    → D ≡ domain_in l → B ≡ buckets_in l
    → x < domain_in l → buckets_in l ≤ length s → spotted r m ≡ spotting (hb B) D B x s
    → (r ≡ spots_of (hb (buckets_in l)) (domain_in l) x) × (m ≡ with_sizes (hb (buckets_in l)) l s)
unfolding with_sizes
cell_spots hb l ok D B x s r m d b inside fits e =
    let q = well_formed l ok in
    spots_done (hb (buckets_in l)) (domain_in l) (buckets_in l) q.some_cells q.few_cells q.some_buckets
    q.few_buckets s x r m inside fits (rw (d, b) at e)

-- the front of scratch is the sizes
pub with_sizes-part : (h : ℕ → ℕ → ℕ) (l s m : List ℕ) (n : ℕ) → n ≡ buckets_in l → m ≡ with_sizes h l s
    → take n m ≡ tab (size_of h (domain_in l)) (buckets_in l)
unfolding with_sizes
with_sizes-part h l s m n b e =
    let f = size_of h (domain_in l) in
    ap (take n) e ∙ ap (λ (k : ℕ). take k (with_sizes h l s)) b
    ∙ take_put s (tab f (buckets_in l)) (buckets_in l) (length-tab f (buckets_in l))

pub with_sizes-long : (h : ℕ → ℕ → ℕ) (l s m : List ℕ) (n : ℕ) → n ≡ buckets_in l → m ≡ with_sizes h l s → length (take n m) ≡ n
with_sizes-long h l s m n b e = ap length (with_sizes-part h l s m n b e) ∙ length-tab _ (buckets_in l) ∙ sym b

-- sizes that stand in a part, held against the image's
pub compared : (h : ℕ → ℕ → ℕ) (l part : List ℕ) → part ≡ tab (size_of h (domain_in l)) (buckets_in l)
    → alike (bucket_size l) (λ c. get_or part c 0) (length part) ≡ matches_by h l
compared h l part e =
    let f = size_of h (domain_in l) in
    ap (λ (t : List ℕ). alike (bucket_size l) (λ c. get_or t c 0) (length t)) e
    ∙ ap (alike (bucket_size l) (λ c. get_or (tab f (buckets_in l)) c 0)) (length-tab f (buckets_in l))
    ∙ alike_ext (bucket_size l) (λ c. get_or (tab f (buckets_in l)) c 0) f (buckets_in l)
    (λ i below. get_or-tab f (buckets_in l) i below)

-- those of the pass
pub cell-compared : (h : ℕ → ℕ → ℕ) (l s m : List ℕ) (n : ℕ) (t : Bool) → n ≡ buckets_in l → m ≡ with_sizes h l s
    → t ≡ alike (bucket_size l) (λ c. get_or (take n m) c 0) (length (take n m)) → t ≡ matches_by h l
cell-compared h l s m n t b e same = same ∙ compared h l _ (with_sizes-part h l s m n b e)

-- ---- the cell

pub spots_here : (l : List ℕ) → multi_ok l ≡ true → (h : ℕ → ℕ → ℕ) → ((k x : ℕ) → k < 3 → x < domain_in l → h k x < buckets_in l)
    → matches_by h l ≡ true
    → (x : ℕ) → x < domain_in l → (r : Spots) → r ≡ spots_of h (domain_in l) x
    → Here l r.bucket0 r.at0 × Here l r.bucket1 r.at1 × Here l r.bucket2 r.at2
spots_here l ok h low same x inside r e =
    let at = here_in l ok h same in
    rw e (
      at (h 0 x) x inside (low 0 x (omega arith) inside) (inl refl),
      at (h 1 x) x inside (low 1 x (omega arith) inside) (inr (inl refl)),
      at (h 2 x) x inside (low 2 x (omega arith) inside) (inr (inr refl)),
    )

pub cell_at : (H : Word → Word) (p : Bool) (rec : ℕ → Record) (h : ℕ → ℕ → ℕ) (D x : ℕ) (r : Spots) → r ≡ spots_of h D x
    → cell_share H 64 p rec r.bucket0 r.bucket1 r.bucket2 r.at0 r.at1 r.at2 ≡ multi_share H 64 p rec h D x
unfolding multi_share
cell_at H p rec h D x r e =
    ap (λ (q : Spots). cell_share H 64 p rec q.bucket0 q.bucket1 q.bucket2 q.at0 q.at1 q.at2) e

module _ (H : Word → Word) (h : ℕ → ℕ → ℕ) (l : List ℕ) (x : ℕ) where
  pub found-mismatch : matches_by h l ≡ false → ◌≡◌ {A = Share} (record { number = Mismatch; share = 0 }) (cell_found H h l x)
  unfolding cell_found
  found-mismatch e = rw e

  pub found-share : (v : ℕ) → matches_by h l ≡ true → v ≡ multi_share H 64 (side_in l) (bucket_record l) h (domain_in l) x
      → ◌≡◌ {A = Share} (record { number = 0; share = v }) (cell_found H h l x)
  unfolding cell_found
  found-share v e same = rw (e, same)

-- ---- the call as a whole

-- what is known where nothing is refused early
pub record Readable (l : List ℕ) (x len : ℕ) : Type 0 where
  pub inside : x < domain_in l
  pub room : buckets_in l ≤ len

pub readable : (l : List ℕ) (x len : ℕ) → first (evaluate_at_early l x len) ≡ 0 → Readable l x len
readable l x len e =
    let rows = evaluate_at_early l x len in
    record { inside = leb-false _ _ (first-clear rows 1 tt e); room = ltb-false _ _ (first-clear rows 2 tt e) }

-- a number, scratch and a share
abbrev cell_answer : ℕ → List ℕ → ℕ → Reading
cell_answer n s v = reading (record { number = n; share = v }) s

module _ (H : Word → Word) (bucket : List ℕ → ℕ → ℕ → ℕ → ℕ) (l : List ℕ) (x : ℕ) (s : List ℕ) where
  pub cell_refused : (e : Refusal) → number_of e ≡ first (evaluate_at_early l x (length s))
      → reading (told_share (Err e)) s ≡ evaluate_at H bucket l x s
  unfolding evaluate_at evaluate_at_number
  cell_refused e same =
      image-refused cell_answer bucket l (evaluate_at_early l x (length s)) _ s (share_in H bucket l x) 0 _ tt same (refuses e)

  pub cell_passed : (h : ℕ → ℕ → ℕ) (r : Share) (m : List ℕ) → h ≡ functions_in bucket l
      → first (evaluate_at_early l x (length s)) ≡ 0
      → r ≡ cell_found H h l x → m ≡ zeroed (buckets_in l) (with_sizes h l s) → reading r m ≡ evaluate_at H bucket l x s
  unfolding evaluate_at evaluate_at_number cell_found share_in with_sizes
  cell_passed h r m own e answer left =
      let fits = (readable l x (length s) e).room in
      let long = length-tab (size_of h (domain_in l)) (buckets_in l) in
      ap (λ (q : Share). reading q m) answer
      ∙ image_passed cell_answer bucket l (evaluate_at_early l x (length s)) (buckets_in l) s (share_in H bucket l x) 0 tt e _ m _ (
        ap (λ (k : ℕ → ℕ → ℕ). found k l) own,
        (
          left ∙ zeroed_write (buckets_in l) s 0 _ (omega arith) fits,
          ap (λ (k : ℕ → ℕ → ℕ). cond (matches_by k l) (share_by H k l x) 0) own,
        ),
      )
