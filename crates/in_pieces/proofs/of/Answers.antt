-- `take_all`: to take all of the message is no wrong answer, so an edit that takes less is refused for the bytes that it leaves out
use Rattle.std.proofs.Common.{ap, ◌∙◌, arith, take_all}
use Rattle.in_pieces.proofs.of.Goals as goal

pub returns : goal.returns
returns g c = c.at_once.ensures ∙ ap g.S.InPieces.whole (search (take_all, arith))
