use Rattle.std.proofs.Common.{refl}
use Rattle.crc32.specs.Crc.{fresh}
use Rattle.crc32.proofs.Crc32.new.Goals as goal

pub returns : goal.returns
unfolding fresh
returns c = refl
