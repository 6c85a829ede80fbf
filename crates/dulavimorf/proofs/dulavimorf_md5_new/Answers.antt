use Rattle.dulavimorf.proofs.dulavimorf_md5_new.Goals as goal

pub returns : goal.returns
returns c = c.new-m.ensures
