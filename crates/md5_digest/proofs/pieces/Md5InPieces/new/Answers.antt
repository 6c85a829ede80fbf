use Rattle.std.proofs.Common.{refl}
use Rattle.md5_digest.specs.Pieces.{fresh}
use Rattle.md5_digest.proofs.pieces.Md5InPieces.new.Goals as goal

pub returns : goal.returns
unfolding fresh
returns c = rw c.new.ensures refl
