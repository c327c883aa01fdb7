-- `multi::calls::generate_keys` meets its contract: what is refused early leaves everything; else the keys are made in the part
-- of the scratch that is needed, and that part is zeroed. Assumes nothing.
use mathlib.Core.Path.{◌≡◌, sym, ap, ◌∙◌}
use mathlib.Core.List.{List}
use Prim.Native.Nat.{ℕ, ◌≤◌}
use native.Mathlib.Omega.{arith}
use lib.ListN.{length, take}
use lib.Seq.{length-take-le}
use Rattle.words.specs.Cells.{zeroed}
use Rattle.words.specs.Refusals.{first}
use Rattle.cipher.specs.TreeHash.{tree_hash}
use Rattle.bucket_hash.specs.BucketHash.{bucket_of}
use Rattle.placement.proofs.CallLaws.{zeroed_over}
use Rattle.multi.specs.Calls.{Given, given, generate_room, generate_early, generating, told_made}
use Rattle.multi.specs.Making.{write_given}
use Rattle.multi.proofs.GivenLaws.{early}
use Rattle.multi.proofs.GenerateLaws.{call_made}
use Rattle.multi.proofs.calls.generate_keys.Goals as goal

-- the part of the scratch that is lent
module _ (w q : Given) (s : List ℕ) (n : ℕ) (passed : 0 ≡ first (generate_early w (length s))) (held : q ≡ w)
    (need : n ≡ generate_room q) where
  needed : n ≡ generate_room w
  needed = need ∙ ap generate_room held

  room : n ≤ length s
  room = omega (arith, needed, (early w _ (sym passed)).room)

  lent : length (take n s) ≡ n
  lent = length-take-le n s room

pub slice_bounds-make_in-end : goal.slice_bounds-make_in-end
slice_bounds-make_in-end c =
    let was = c.in_ok-posting.ensures in room _ _ c.args.scratch.now _ was.answer was.posting c.room-need.ensures

pub slice_bounds-make_in-end-2 : goal.slice_bounds-make_in-end-2
slice_bounds-make_in-end-2 c =
    let was = c.in_ok-posting.ensures in sym (lent _ _ c.args.scratch.now _ was.answer was.posting c.room-need.ensures)

pub make_in-answer-requires : goal.make_in-answer-requires
make_in-answer-requires c =
    let was = c.in_ok-posting.ensures in
    omega (arith, lent _ _ c.args.scratch.now _ was.answer was.posting c.room-need.ensures, c.room-need.ensures)

pub returns : goal.returns
returns c =
    let a = c.args in
    let w = given a.domain a.buckets a.keys a.points.now a.values.now a.words.now in
    let was = c.in_ok-posting.ensures in
    let s = a.scratch.now in
    let made = c.make_in-answer in
    let n = c.room-need.result in
    let fits = room w _ s n was.answer was.posting c.room-need.ensures in
    let long = lent w _ s n was.answer was.posting c.room-need.ensures in
    let same = needed w _ s n was.answer was.posting c.room-need.ensures in
    ap (λ (l : List ℕ). generating (told_made made.result) l made.new.key0 made.new.key1)
    (c.zero_first.ensures ∙ zeroed_over n s made.new.scratch (omega (arith, made.auto, long)) fits ∙ ap (λ (k : ℕ). zeroed k s) same)
    ∙ call_made tree_hash bucket_of w s _ _ _ _ _ (sym was.answer)
    (made.ensures ∙ ap (λ (g : Given). write_given tree_hash bucket_of g a.key0.now a.key1.now) was.posting)
