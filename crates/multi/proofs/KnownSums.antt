-- The known sums hold: the rows of the layers below are proved there, the others by computation, with the definitions of words,
-- single, placement and multi unfolded, in this order. Assumes nothing.
use mathlib.Core.Path.{refl}
use mathlib.Core.Bool.{xor}
use lib.Count.{count_leading_zeros}
use Rattle.words.specs.Word.{◌⊕◌, ◌when◌, is_odd, bit, odd, clear, mark, shift}
use Rattle.words.specs.Ring.{add, sub, low, conv}
use Rattle.words.specs.Bytes.{le_bytes, word_bytes}
use Rattle.words.specs.Cells.{sum_to, word_no}
use Rattle.words.specs.Height.{height, height_number}
use Rattle.words.specs.Refusals.{every, first}
use Rattle.words.proofs.KnownSums as words
use Rattle.single.specs.Rules.{step, descend, final, correction, corrections, split, hcw_of, lcw_of, last_word, start, levels, before, high_word, low_bit, reached, tall, made}
use Rattle.single.specs.Record.{lcw_number, head_bytes, words_bytes, record_bytes, record_length, length_for}
use Rattle.single.proofs.KnownSums as single
use Rattle.placement.specs.Buckets.{once_if, first_at, adds, list_of, size_of, pos_of}
use Rattle.placement.specs.Walk.{next_fn, take_up, unplaced, goes_to, step_of, insert_of, point_of, walk_from, walk_of}
use Rattle.placement.specs.Shares.{at_points, alpha_of, beta_of, rising_from}
use Rattle.placement.specs.Calls.{walk_in, place_rows, placeable, place_number}
use Rattle.placement.proofs.KnownSums as placement
use Rattle.multi.specs.Rules.{used_before, made_record}
use Rattle.multi.specs.Image.{record_start, header_bytes, entry_for, directory_bytes, records_bytes, multi_bytes, bytes_of}
use Rattle.multi.specs.Calls.{image_length, generate_number, image_made}
use Rattle.multi.specs.KnownSums.{KnownSums}

pub known_sums : KnownSums
unfolding count_leading_zeros xor ◌⊕◌ ◌when◌ is_odd bit odd clear mark shift add sub low conv le_bytes word_bytes sum_to word_no
    height height_number every first
    step descend final correction corrections split hcw_of lcw_of last_word start levels before high_word low_bit reached tall made
    lcw_number head_bytes words_bytes record_bytes record_length length_for
    once_if first_at adds list_of size_of pos_of next_fn take_up unplaced goes_to step_of insert_of point_of walk_from walk_of at_points
    alpha_of beta_of rising_from walk_in place_rows placeable place_number
    used_before made_record record_start header_bytes entry_for directory_bytes records_bytes multi_bytes bytes_of image_length
    generate_number image_made
known_sums = record {
  words = words.known_sums;
  single = single.known_sums;
  placement = placement.known_sums;
  place = refl;
  accepted = refl;
  answered = refl;
  written = refl;
}
