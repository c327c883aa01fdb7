-- Laws of reading the records of an image.
--     shares      share_there, spread_there, part-spread: a record that is there is read; length-shares, shares-none, share-at
--     an image that passes     record_there, here_at, here_in: the record that is there; size_is: its size is the bucket's
-- Assumes nothing.
use mathlib.Core.Path.{◌≡◌, refl, sym, ap, ◌∙◌}
use mathlib.Core.Bool.{Bool, true, not}
use mathlib.Core.Logic.{⊎_elim}
use mathlib.Core.List.{List, []}
use Prim.Native.Nat.{ℕ, ◌+◌, ◌-◌, ◌*◌, ◌≤◌, ◌<◌}
use native.Mathlib.Nat.{add-zero}
use native.Mathlib.Omega.{arith}
use lib.ListN.{length, drop, get_or, length-drop}
use lib.Seq.{length-take-le}
use borrow.Author.Tests.{le-ltb, lt-leb}
use borrow.Rule.Slice.PartMut.{put_mid, mid_of}
use Rattle.words.specs.Limits.{largest_single}
use Rattle.std.specs.Prelude.{Result, Ok}
use Rattle.words.specs.declared.refusals.Refusal.{Refusal}
use Rattle.words.specs.declared.Word.{Word}
use Rattle.words.specs.Bytes.{put}
use Rattle.words.proofs.ByteLaws.{put_mid_lem, put_whole}
use Rattle.words.proofs.TestLaws.{first-none, first_miss, succeeded}
use Rattle.single.specs.Rules.{share}
use Rattle.single.specs.Nodes.{nodes_from, spread}
use Rattle.single.specs.Record as single
use Rattle.single.specs.Bare.{record_share_number, record_share, spread_number, spreading, spread_record, Spreading as Spread}
use Rattle.single.specs.Calls.{told_share}
use Rattle.single.proofs.AnswersTold.{answers_told}
use Rattle.single.proofs.NodeLaws.{length-spread, get_or-spread}
use Rattle.placement.specs.Buckets.{size_of, pos_of, Enters}
use Rattle.placement.proofs.BucketLaws.{pos_lt}
use Rattle.multi.specs.Image.{buckets_in, domain_in, bucket_part, bucket_record, bucket_size, multi_ok}
use Rattle.multi.specs.Reading.{Here, matches_by, bucket_shares}
use Rattle.multi.proofs.ImageLaws.{Recorded, well_formed}
use Rattle.multi.proofs.CallLaws.{alike_at}

-- ---- shares

-- a record that is there gives its share
pub share_there : (H : Word → Word) (p : Bool) (l : List ℕ) (b y : ℕ) (r : Result ℕ Refusal) → Here l b y
    → told_share r ≡ record_share H p (bucket_part l b) y
    → r ≡ Ok (share H 64 p (bucket_record l b) y)
unfolding record_share record_share_number bucket_record bucket_size
share_there H p l b y r here e =
    let none : record_share_number (bucket_part l b) y ≡ 0 =
    first_miss _ _ (ap not here.ok) ∙ first_miss _ _ (lt-leb (single.size_in (bucket_part l b)) y here.inside)
    ∙ first-none in
    answers_told.one_cell r (Ok (share H 64 p (bucket_record l b) y)) (e ∙ succeeded _ _ _ none)

-- and its shares, where they have room
pub spread_there : (H : Word → Word) (p : Bool) (l : List ℕ) (c : ℕ) (n : ℕ) (t m : List ℕ)
    → single.record_ok largest_single (bucket_part l c) ≡ true → 2 * bucket_size l c ≤ length t
    → spreading n m ≡ spread_record H p (bucket_part l c) t → m ≡ put t 0 (bucket_shares H p l c)
unfolding spread_record spread_number bucket_shares bucket_record bucket_size
spread_there H p l c n t m ok fits e =
    let none : spread_number (bucket_part l c) (length t) ≡ 0 =
    first_miss _ _ (ap not ok) ∙ first_miss _ _ (le-ltb (length t) (2 * single.size_in (bucket_part l c)) fits) ∙ first-none in
    ap (λ (q : Spread). q.nodes) (e ∙ succeeded _ _ _ none)

pub length-shares : (H : Word → Word) (p : Bool) (l : List ℕ) (c : ℕ) → length (bucket_shares H p l c) ≡ 2 * bucket_size l c
unfolding bucket_shares
length-shares H p l c = length-spread _ (bucket_size l c)

-- the same of a part that is lent, said of the whole
pub part-spread : (H : Word → Word) (p : Bool) (l : List ℕ) (c from size n : ℕ) (w m : List ℕ)
    → single.record_ok largest_single (bucket_part l c) ≡ true → size ≡ bucket_size l c
    → from + 2 * bucket_size l c ≤ length w
    → spreading n m ≡ spread_record H p (bucket_part l c) (mid_of from (from + 2 * size - from) w)
    → put_mid from (from + 2 * size - from) w m ≡ put w from (bucket_shares H p l c)
part-spread H p l c from size n w m ok same fits e =
    let k = from + 2 * size - from in
    let long : length (mid_of from k w) ≡ k = length-take-le k (drop from w) (simp length-drop (omega arith)) in
    let shares = length-shares H p l c in
    ap (put_mid from k w) (spread_there H p l c n (mid_of from k w) m ok (omega arith) e)
    ∙ put_mid_lem w from k 0 (bucket_shares H p l c) (omega arith) (omega arith)
    ∙ ap (λ (a : ℕ). put w a (bucket_shares H p l c)) (add-zero from)

-- no entry, no shares
pub shares-none : (H : Word → Word) (p : Bool) (l : List ℕ) (c : ℕ) → bucket_size l c ≡ 0 → bucket_shares H p l c ≡ []
unfolding bucket_shares spread nodes_from
shares-none H p l c e = ap (λ (n : ℕ). spread (share H 64 p (bucket_record l c)) n) e

pub share-at : (H : Word → Word) (p : Bool) (l : List ℕ) (c y : ℕ) → y < bucket_size l c
    → get_or (bucket_shares H p l c) (2 * y) 0 ≡ share H 64 p (bucket_record l c) y
unfolding bucket_shares
share-at H p l c y inside =
    let all = spread (share H 64 p (bucket_record l c)) (bucket_size l c) in
    ap (λ (r : List ℕ). get_or r (2 * y) 0) (sym (put_whole all all refl)) ∙ get_or-spread all _ (bucket_size l c) y inside

-- ---- an image that passes

-- matching sizes are the buckets'
pub size_is : (l : List ℕ) (h : ℕ → ℕ → ℕ) → matches_by h l ≡ true → (c : ℕ) → c < buckets_in l
    → bucket_size l c ≡ size_of h (domain_in l) c
size_is l h same c below = alike_at (bucket_size l) (size_of h (domain_in l)) (buckets_in l) c same below

module _ (l : List ℕ) (ok : multi_ok l ≡ true) where
  -- a bucket with entries has a record
  record_at : (c : ℕ) → c < buckets_in l → 0 < bucket_size l c → Recorded l c
  record_at c below some =
      ⊎_elim (λ b. let z : ⊥ = omega (arith, b.sized) in absurd z) (λ r. r) ((well_formed l ok).slot c below)

  pub record_there : (c : ℕ) → c < buckets_in l → (bucket_size l c ≡ 0 → ⊥)
      → single.record_ok largest_single (bucket_part l c) ≡ true
  record_there c below some = (record_at c below (omega arith)).ok

  pub here_at : (c y : ℕ) → c < buckets_in l → y < bucket_size l c → Here l c y
  here_at c y below inside =
      record { few = omega (arith, (well_formed l ok).few_buckets); ok = (record_at c below (omega arith)).ok; inside = inside }

  pub here_in : (h : ℕ → ℕ → ℕ) → matches_by h l ≡ true → (c x : ℕ) → x < domain_in l → c < buckets_in l → Enters h c x
      → Here l c (pos_of h (domain_in l) c x)
  here_in h same c x inside below enters =
      here_at c _ below (omega (arith, size_is l h same c below, pos_lt h c x (domain_in l) inside enters))
