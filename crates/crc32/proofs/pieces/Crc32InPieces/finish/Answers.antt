use Rattle.crc32.proofs.pieces.Crc32InPieces.finish.Goals as goal

pub returns : goal.returns
returns c = c.finish.ensures
