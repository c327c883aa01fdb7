-- `multi::read::lay_shares` meets its contract: starts and sizes are counted; where the sizes are the image's, every record is
-- expanded behind them. Assumes nothing.
use mathlib.Core.Path.{sym, ◌∙◌}
use native.Mathlib.Omega.{arith}
use Rattle.cipher.specs.TreeHash.{tree_hash}
use Rattle.bucket_hash.specs.BucketHash.{bucket_by}
use Rattle.multi.specs.Image.{buckets_in}
use Rattle.multi.proofs.ImageLaws.{well_formed}
use Rattle.multi.proofs.ReadLaws.{functions-below}
use Rattle.multi.proofs.ExpandLaws.{ready_of}
use Rattle.multi.proofs.DomainReads.{domain-starts, domain-compared, with_starts-long, with_shares-none, with_shares_by, found-one, found_none}
use Rattle.multi.proofs.ToldLaws.{refuses}
use Rattle.multi.proofs.read.lay_shares.Goals as goal

pub returns-in_err-starts : goal.returns-in_err-starts
returns-in_err-starts c =
    let key = c.args.image.now in
    let none = domain-starts (bucket_by c.args.hashes) key.bytes.now key.ok _ _ _ _ _ c.domain.ensures c.buckets-b.ensures c.requires
    c.in_err-starts.ensures in
    absurd (refuses c.in_err-starts.field-0.0 none.0)

pub same_sizes-requires : goal.same_sizes-requires
same_sizes-requires c =
    let key = c.args.image.now in
    let b = c.buckets-b.ensures in
    let counts = (domain-starts (bucket_by c.args.hashes) key.bytes.now key.ok _ _ _ _ _ c.domain.ensures b c.requires c.in_ok-starts.ensures).1 in
    omega (arith, with_starts-long _ key.bytes.now _ _ _ b counts, b, (well_formed _ key.ok).few_buckets)

pub returns-then-not-same_sizes : goal.returns-then-not-same_sizes
returns-then-not-same_sizes c =
    let key = c.args.image.now in
    let b = c.buckets-b.ensures in
    let counts = (domain-starts (bucket_by c.args.hashes) key.bytes.now key.ok _ _ _ _ _ c.domain.ensures b c.requires c.in_ok-starts.ensures).1 in
    let other = sym (domain-compared _ key.bytes.now _ _ _ _ b counts c.same_sizes.ensures) ∙ c.if-not-same_sizes.true in
    record { answer = found_none _ _ other; shares = counts ∙ sym (with_shares-none tree_hash _ _ _ other) }

pub expand-requires : goal.expand-requires
expand-requires c =
    let key = c.args.image.now in
    let b = c.buckets-b.ensures in
    let counts = (domain-starts (bucket_by c.args.hashes) key.bytes.now key.ok _ _ _ _ _ c.domain.ensures b c.requires c.in_ok-starts.ensures).1 in
    let matching = sym (domain-compared _ key.bytes.now _ _ _ _ b counts c.same_sizes.ensures) ∙ c.if-not-same_sizes.false in
    let low = functions-below c.args.hashes key.bytes.now key.ok in
    rw counts (ready_of key.bytes.now (bucket_by c.args.hashes (buckets_in key.bytes.now)) low matching c.args.scratch.now c.requires)

pub returns : goal.returns
returns c =
    let key = c.args.image.now in
    let b = c.buckets-b.ensures in
    let counts = (domain-starts (bucket_by c.args.hashes) key.bytes.now key.ok _ _ _ _ _ c.domain.ensures b c.requires c.in_ok-starts.ensures).1 in
    let matching = sym (domain-compared _ key.bytes.now _ _ _ _ b counts c.same_sizes.ensures) ∙ c.if-not-same_sizes.false in
    record { answer = found-one _ _ matching; shares = with_shares_by _ _ _ _ _ _ c.new.ensures matching counts c.expand.ensures }
