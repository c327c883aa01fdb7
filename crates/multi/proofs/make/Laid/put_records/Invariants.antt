-- `multi::make::Laid::put_records` meets its contract. The invariant is `Laying`: the records of the buckets before c are written.
-- Assumes nothing.
use Rattle.cipher.specs.TreeHash.{hash_by}
use Rattle.multi.proofs.LayingLaws.{Laying}
use Rattle.multi.proofs.make.Laid.put_records.Given as goal

abbrev pub invariant-loop-c : goal.invariant-loop-c
invariant-loop-c l =
    Laying (hash_by l.h) l.self.holders.now l.self.sizes.now l.self.spots.now l.self.posting.values.now l.self.posting.words.now l.initial.key0 l.initial.key1 l.key0 l.key1 l.at l.used l.c
