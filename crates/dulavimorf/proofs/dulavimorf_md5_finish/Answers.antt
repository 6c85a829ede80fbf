use Rattle.dulavimorf.proofs.dulavimorf_md5_finish.Goals as goal

pub returns : goal.returns
returns c = c.finish.ensures
