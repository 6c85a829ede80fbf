use Rattle.dulavimorf.proofs.dulavimorf_crc32_update.Goals as goal

pub returns : goal.returns
returns c = c.update.ensures
