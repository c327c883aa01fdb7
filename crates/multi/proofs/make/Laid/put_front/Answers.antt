-- `multi::make::Laid::put_front` meets its contract: the directory stands right behind the header. Assumes nothing.
use Prim.Native.Nat.{◌+◌, ◌*◌, ◌≤◌}
use native.Mathlib.Omega.{arith}
use lib.ListN.{length}
use Rattle.words.proofs.ByteLaws.{put_next}
use Rattle.multi.specs.Image.{lengths_by}
use Rattle.multi.proofs.RecordPlaces.{record_start-least}
use Rattle.multi.proofs.ImageBytes.{length_header, length_directory}
use Rattle.multi.specs.Posted.{given_by}
use Rattle.multi.proofs.GivenLaws.{early}
use Rattle.multi.proofs.make.Laid.put_front.Goals as goal

pub returns : goal.returns
returns c =
    let room : 72 + 8 * length c.args.self.now.sizes.now ≤ length c.args.buf.now = omega (
      arith,
      c.requires,
      record_start-least (length c.args.self.now.sizes.now) (lengths_by c.args.self.now.sizes.now) (length c.args.self.now.sizes.now),
    ) in
    let a = c.args in
    let b = length a.self.now.sizes.now in
    let long = length_header a.party b a.self.now.posting.domain (length a.self.now.posting.points.now) a.self.now.posting.keys (omega (arith, c)) in
    let behind = length_directory b (lengths_by a.self.now.sizes.now) b in
    put_next a.buf.now 0 72 _ _ c.put_header.ensures c.put_directory.ensures (omega arith)
    (omega arith)

pub put_header-requires : goal.put_header-requires
put_header-requires c =
    let room : 72 + 8 * length c.args.self.now.sizes.now ≤ length c.args.buf.now = omega (
      arith,
      c.requires,
      record_start-least (length c.args.self.now.sizes.now) (lengths_by c.args.self.now.sizes.now) (length c.args.self.now.sizes.now),
    ) in
    omega arith

pub overflow_cast-p : goal.overflow_cast-p
overflow_cast-p c =
    let f = early (given_by c.args.self.now.posting) _ c.args.self.now.posting.passes in
    omega (arith, f.few_points, f.few_buckets)
