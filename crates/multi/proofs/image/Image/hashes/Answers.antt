-- `multi::image::Image::hashes` meets its contract: the ciphers are made of the image's hash keys. Assumes nothing.
use Rattle.multi.proofs.ReadLaws.{functions_in_lem}
use Rattle.multi.proofs.image.Image.hashes.Goals as goal

pub returns : goal.returns
returns c = functions_in_lem c.args.self.now.bytes.now _ _ c.new.ensures c.hash_keys.ensures
