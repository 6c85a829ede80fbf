use Rattle.dulavimorf.proofs.dulavimorf_crc32_finish.Goals as goal

pub returns : goal.returns
returns c = c.finish.ensures
