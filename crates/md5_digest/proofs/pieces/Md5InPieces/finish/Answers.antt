use Rattle.md5_digest.proofs.pieces.Md5InPieces.finish.Goals as goal

pub returns : goal.returns
returns c = c.finish.ensures
