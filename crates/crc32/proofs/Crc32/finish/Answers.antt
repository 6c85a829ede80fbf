use Rattle.std.proofs.Common.{refl}
use Rattle.crc32.specs.Crc.{finish_of}
use Rattle.crc32.proofs.Crc32.finish.Goals as goal

pub returns : goal.returns
unfolding finish_of
returns c = refl
