use Rattle.std.proofs.Common.{refl}
use Rattle.crc32.specs.Crc.{fresh}
use Rattle.crc32.proofs.pieces.Crc32InPieces.new.Goals as goal

pub returns : goal.returns
unfolding fresh
returns c = rw c.new.ensures refl
