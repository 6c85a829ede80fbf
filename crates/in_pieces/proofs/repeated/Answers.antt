use Rattle.std.proofs.Common.{sym, ap, ◌∙◌}
use Rattle.std.specs.List.{repeat}
use Rattle.in_pieces.proofs.Repeat.{repeat_more}
use Rattle.in_pieces.proofs.repeated.Goals as goal

pub loop-init : goal.loop-init
loop-init g c = c.new-under_way.ensures ∙ sym g.met.S.InPieces.feed_none

pub loop-preserved : goal.loop-preserved
loop-preserved g c =
    let s = g.S.InPieces in
    let piece = c.args.piece.now in
    let n = c.loop.counter in
    let begun = rw c.loop.invariant at c.update-under_way.ensures in
    begun ∙ g.met.S.InPieces.feed_feed (repeat n piece) piece ∙ ap (s.feed s.fresh) (repeat_more n piece)
