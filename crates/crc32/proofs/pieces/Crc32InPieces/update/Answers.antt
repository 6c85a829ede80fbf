use Rattle.crc32.proofs.pieces.Crc32InPieces.update.Goals as goal

pub returns : goal.returns
returns c = c.update.ensures
