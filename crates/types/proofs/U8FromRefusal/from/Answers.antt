-- The arms that edits change, so that an edit is refused where its value differs.
use Rattle.std.proofs.Common.{ap, sym}
use Rattle.types.specs.Answers.{number}
use Rattle.types.proofs.U8FromRefusal.from.Goals as goal

pub returns-in-BadState : goal.returns-in-BadState
unfolding number
returns-in-BadState c = ap number (sym c.in-BadState.is)

pub returns-in-ListShort : goal.returns-in-ListShort
unfolding number
returns-in-ListShort c = ap number (sym c.in-ListShort.is)
