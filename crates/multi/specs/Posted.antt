-- What the code holds while it makes a pair of keys, as the lists and numbers of Calls and Making. H is the tree hash.
--     given_by p             what making was given
--     record_of H l u p c    party p's record of bucket c, from random word u on
--     bytes_in H l p c       the bytes of the record, from the word that it comes to
--     front_in l p           party p's header and directory
--     writing_of H l ..      what making writes and answers from what was laid out
-- Assumes nothing.
use Rattle.std.specs.Prelude.{Bool, List, ◌++◌, ℕ, length}
use Rattle.words.specs.declared.Word.{Word}
use Rattle.single.specs.Rules.{Record}
use Rattle.multi.specs.declared.make.Posting.{Posting}
use Rattle.multi.specs.declared.make.Laid.{Laid}
use Rattle.multi.specs.Image.{lengths_by, header_bytes, directory_bytes}
use Rattle.multi.specs.Calls.{Given, given}
use Rattle.multi.specs.Making.{record_from, laid_bytes, Writing, write_laid}

abbrev pub given_by : Posting → Given
given_by p = given p.domain p.buckets p.keys p.points.now p.values.now p.words.now

module _ (H : Word → Word) (l : Laid) where
  abbrev pub record_of : ℕ → Bool → ℕ → Record
  record_of u p c = record_from H l.holders.now l.sizes.now l.spots.now l.posting.values.now l.posting.words.now u p c

  abbrev pub bytes_in : Bool → ℕ → List ℕ
  bytes_in p c = laid_bytes H l.holders.now l.sizes.now l.spots.now l.posting.values.now l.posting.words.now p c

  abbrev pub writing_of : List ℕ → List ℕ → Writing
  writing_of k0 k1 =
      write_laid H l.posting.domain (length l.posting.points.now) l.posting.keys l.holders.now l.sizes.now l.spots.now
      l.posting.values.now l.posting.words.now l.evictions k0 k1

abbrev pub front_in : Laid → ℕ → List ℕ
front_in l party =
    let b = length l.sizes.now in
    header_bytes party b l.posting.domain (length l.posting.points.now) l.posting.keys
    ++ directory_bytes b (lengths_by l.sizes.now) b
