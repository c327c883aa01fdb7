-- Laws of writing the records of all buckets, one behind the other, into both images.
--     records     length-laid_bytes, record_start_laid; image_laid: behind header and directory they are the image
--     a turn      Laying, laying_none, laying_room0, laying_room1, laying_more
-- Assumes nothing.
use mathlib.Core.Path.{◌≡◌, refl, sym, ap, ap₂, ◌∙◌}
use mathlib.Core.Bool.{Bool, true, false}
use mathlib.Core.List.{List, ◌++◌}
use Prim.Native.Nat.{ℕ, ◌+◌, ◌*◌, ◌≤◌, ◌<◌}
use native.Mathlib.Omega.{arith}
use lib.ListN.{length, get_or, length-append}
use Rattle.words.specs.Limits.{largest_single}
use Rattle.words.specs.declared.Word.{Word}
use Rattle.words.specs.Bytes.{put}
use Rattle.words.specs.Cells.{sum_to, word_no}
use Rattle.words.proofs.ByteLaws.{put_next, length-put}
use Rattle.single.specs.Record as single
use Rattle.multi.specs.Rules.{words_for}
use Rattle.multi.specs.Image.{record_start, multi_length, lengths_by, header_bytes, directory_bytes, records_bytes, bytes_of, lengths, multi_bytes}
use Rattle.multi.specs.Making.{value_at, used_by, Fitting, record_from, laid_record, laid_bytes}
use Rattle.multi.proofs.RecordPlaces.{record_start-first, record_start_next, record_start_le, record_start_same}
use Rattle.multi.proofs.ImageBytes.{length_header, length_directory, length-records, directory_same}
use Rattle.multi.proofs.ImageWriteLaws.{records-first, records_next}
use Rattle.multi.proofs.RecordWrites.{used_by_next, length_by}

-- ---- records of what was laid out

start_sum : (b : ℕ) (lens : ℕ → ℕ) (c : ℕ) → 72 + 8 * b + sum_to c lens ≡ record_start b lens c
unfolding record_start
start_sum b lens c = refl

module _ (H : Word → Word) (holders sizes spots vs ws : List ℕ) where
  module _ (small : (c : ℕ) → get_or sizes c 0 ≤ largest_single) (p : Bool) where
    pub length-laid_bytes : (c : ℕ) → length (laid_bytes H holders sizes spots vs ws p c) ≡ lengths_by sizes c
    unfolding laid_record record_from lengths_by
    length-laid_bytes c = length_by H _ _ _ _ _ p (small c)

    pub record_start_laid : (b c : ℕ)
        → record_start b (lengths (laid_bytes H holders sizes spots vs ws p)) c ≡ record_start b (lengths_by sizes) c
    record_start_laid b c = record_start_same b _ _ c (λ e below. length-laid_bytes e)

    -- a record behind those before it
    laid_next : (k : List ℕ) {l m : List ℕ} (at used c : ℕ) → c < length sizes
        → multi_length (length sizes) (lengths_by sizes) ≤ length k
        → at ≡ record_start (length sizes) (lengths_by sizes) c → used ≡ used_by sizes c
        → l ≡ put k (72 + 8 * length sizes) (records_bytes (laid_bytes H holders sizes spots vs ws p) c)
        → m ≡ put l at (bytes_of (record_from H holders sizes spots vs ws used p c))
        → m ≡ put k (72 + 8 * length sizes) (records_bytes (laid_bytes H holders sizes spots vs ws p) (c + 1))
    unfolding laid_record
    laid_next k {l} at used c below room starts uses so_far e =
        let recs = laid_bytes H holders sizes spots vs ws p in
        let all = record_start_laid (length sizes) (length sizes) in
        records_next (length sizes) recs k (omega arith) c below so_far
        (e ∙ ap (λ (a : ℕ). put l a (bytes_of (record_from H holders sizes spots vs ws used p c)))
        (starts ∙ sym (record_start_laid (length sizes) c))
        ∙ ap (λ (u : ℕ). put l (record_start (length sizes) (lengths recs) c)
        (bytes_of (record_from H holders sizes spots vs ws u p c))) uses)

    -- the records behind header and directory are the image
    pub image_laid : (party d n : ℕ) (keys l0 : List ℕ) {l1 l2 : List ℕ} → length keys ≡ 48
        → multi_length (length sizes) (lengths_by sizes) ≤ length l0
        → l1 ≡ put l0 0 (header_bytes party (length sizes) d n keys
        ++ directory_bytes (length sizes) (lengths_by sizes) (length sizes))
        → l2 ≡ put l1 (72 + 8 * length sizes) (records_bytes (laid_bytes H holders sizes spots vs ws p) (length sizes))
        → l2 ≡ put l0 0 (multi_bytes party (length sizes) d n keys (laid_bytes H holders sizes spots vs ws p))
    unfolding multi_bytes
    image_laid party d n keys l0 keyed room one two =
        let b = length sizes in
        let recs = laid_bytes H holders sizes spots vs ws p in
        let head = header_bytes party b d n keys in
        let dir = directory_bytes b (lengths recs) b in
        let same : directory_bytes b (lengths_by sizes) b ≡ dir =
        directory_same b (lengths_by sizes) (lengths recs) b (λ c below. sym (length-laid_bytes c)) in
        let all : 72 + 8 * b + sum_to b (lengths recs) ≡ multi_length b (lengths_by sizes) =
        start_sum b (lengths recs) b ∙ record_start_laid b b in
        let front : length (head ++ dir) ≡ 72 + 8 * b =
        length-append head dir ∙ ap₂ (λ (x y : ℕ). x + y) (length_header party b d n keys keyed)
        (length_directory b (lengths recs) b) in
        put_next l0 0 (72 + 8 * b) (head ++ dir) (records_bytes recs b)
        (one ∙ ap (λ (x : List ℕ). put l0 0 (head ++ x)) same) two (omega arith) (omega (arith, length-records recs b))

-- ---- a turn

-- the records of the buckets before c are written into both buffers, which held k0 and k1
pub record Laying (H : Word → Word) (holders sizes spots vs ws k0 k1 l0 l1 : List ℕ) (at used c : ℕ) : Type 0 where
  pub within : c ≤ length sizes
  pub starts : at ≡ record_start (length sizes) (lengths_by sizes) c
  pub uses : used ≡ used_by sizes c
  pub fewer : used ≤ 2 * c
  pub same0 : length l0 ≡ length k0
  pub same1 : length l1 ≡ length k1
  pub first : l0 ≡ put k0 (72 + 8 * length sizes) (records_bytes (laid_bytes H holders sizes spots vs ws false) c)
  pub second : l1 ≡ put k1 (72 + 8 * length sizes) (records_bytes (laid_bytes H holders sizes spots vs ws true) c)

pub laying_none : (H : Word → Word) (holders sizes spots vs ws k0 k1 : List ℕ)
    → Laying H holders sizes spots vs ws k0 k1 k0 k1 (72 + 8 * length sizes) 0 0
unfolding used_by sum_to
laying_none H holders sizes spots vs ws k0 k1 = record {
  within = omega arith;
  starts = sym (record_start-first _ _);
  uses = refl;
  fewer = omega arith;
  same0 = refl;
  same1 = refl;
  first = records-first _ k0 _;
  second = records-first _ k1 _;
}

module _ (H : Word → Word) (holders sizes spots vs ws k0 k1 l0 l1 : List ℕ) (at used c : ℕ)
    (fit : Fitting sizes spots (length k0) (length k1))
    (so_far : Laying H holders sizes spots vs ws k0 k1 l0 l1 at used c)
    (below : c < length sizes)
  where
    -- the next record ends within the image
    next_start_is : record_start (length sizes) (lengths_by sizes) (c + 1) ≡ at + single.length_for (get_or sizes c 0)
    unfolding lengths_by
    next_start_is =
        record_start_next (length sizes) (lengths_by sizes) c
        ∙ ap (λ (a : ℕ). a + single.length_for (get_or sizes c 0)) (sym so_far.starts)

    pub laying_room0 : at + single.length_for (get_or sizes c 0) ≤ length l0
    laying_room0 =
        let most = record_start_le (length sizes) (lengths_by sizes) (c + 1) (length sizes) (omega arith) in
        omega (arith, next_start_is, fit.first, so_far.same0)

    pub laying_room1 : at + single.length_for (get_or sizes c 0) ≤ length l1
    laying_room1 =
        let most = record_start_le (length sizes) (lengths_by sizes) (c + 1) (length sizes) (omega arith) in
        omega (arith, next_start_is, fit.second, so_far.same1)

    pub laying_more : {m0 m1 : List ℕ} (next later : ℕ)
        → m0 ≡ put l0 at (bytes_of (record_from H holders sizes spots vs ws used false c))
        → m1 ≡ put l1 at (bytes_of (record_from H holders sizes spots vs ws used true c))
        → next ≡ single.length_for (get_or sizes c 0) → later ≡ words_for (get_or sizes c 0)
        → Laying H holders sizes spots vs ws k0 k1 m0 m1 (at + next) (used + later) (c + 1)
    unfolding record_from
    laying_more next later e0 e1 n w =
        let long0 =
        length_by H (get_or sizes c 0) (get_or spots c 0) (value_at vs (get_or holders c 0)) (word_no ws used)
        (word_no ws (used + 1)) false (fit.small c) in
        let long1 =
        length_by H (get_or sizes c 0) (get_or spots c 0) (value_at vs (get_or holders c 0)) (word_no ws used)
        (word_no ws (used + 1)) true (fit.small c) in
        let room0 = laying_room0 in
        let room1 = laying_room1 in
        record {
          within = omega arith;
          starts = ap (λ (a : ℕ). at + a) n ∙ sym next_start_is;
          uses = omega (arith, used_by_next sizes c, so_far.uses);
          fewer = omega (arith, so_far.fewer);
          same0 = ap length e0 ∙ length-put l0 at _ (omega arith) ∙ so_far.same0;
          same1 = ap length e1 ∙ length-put l1 at _ (omega arith) ∙ so_far.same1;
          first = laid_next H holders sizes spots vs ws fit.small false k0 at used c below fit.first so_far.starts so_far.uses so_far.first e0;
          second = laid_next H holders sizes spots vs ws fit.small true k1 at used c below fit.second so_far.starts so_far.uses so_far.second e1;
        }
