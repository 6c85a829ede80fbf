use Rattle.std.proofs.Common.{ap, sym}
use Rattle.types.specs.Answers.{read_to_end}
use Rattle.types.proofs.VolumeEnd.read_to_end.Goals as goal

pub returns-in-Complete : goal.returns-in-Complete
unfolding read_to_end
returns-in-Complete c = ap read_to_end (sym c.in-Complete.is)

pub returns-in-Truncated : goal.returns-in-Truncated
unfolding read_to_end
returns-in-Truncated c = ap read_to_end (sym c.in-Truncated.is)

pub returns-in-CapReached : goal.returns-in-CapReached
unfolding read_to_end
returns-in-CapReached c = ap read_to_end (sym c.in-CapReached.is)
