use Rattle.md5_digest.proofs.pieces.Md5InPieces.update.Goals as goal

pub returns : goal.returns
returns c = c.update.ensures
