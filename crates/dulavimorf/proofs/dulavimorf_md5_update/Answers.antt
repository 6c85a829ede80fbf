use Rattle.dulavimorf.proofs.dulavimorf_md5_update.Goals as goal

pub returns : goal.returns
returns c = c.update-n.ensures
