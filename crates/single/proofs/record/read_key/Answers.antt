-- `single::record::read_key` meets its contract: the key that an accepted record is read into is sound. Assumes nothing.
use Rattle.single.proofs.BareLaws.{sound_in}
use Rattle.single.proofs.record.read_key.Goals as goal

pub invariant_of-result : goal.invariant_of-result
invariant_of-result c = record { sound = rw c.get_key.ensures (sound_in _ c.requires) }
