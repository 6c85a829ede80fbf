-- `take_all`: to take all of the message is no wrong answer, so an edit that takes less is refused for the bytes that it leaves out
use Rattle.std.proofs.Common.{ap, ◌∙◌, arith, take_all}
use Rattle.in_pieces.proofs.InPieces.at_once.Goals as goal

pub returns : goal.returns
returns g c =
    rw (c.finish.ensures, c.update.ensures, c.new.ensures) (g.met.Self.InPieces.fresh_fed _ ∙ ap g.Self.InPieces.whole (search (take_all, arith)))
