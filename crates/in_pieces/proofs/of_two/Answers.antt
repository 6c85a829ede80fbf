use Rattle.std.proofs.Common.{◌≡◌, ◌++◌}
use Rattle.in_pieces.proofs.of_two.Goals as goal

pub returns : goal.returns
returns g c =
    let s = g.S.InPieces in
    let laws = g.met.S.InPieces in
    let a = c.args.first.now in
    let b = c.args.second.now in
    let fed : c.update-2.result ≡ s.feed s.fresh (a ++ b) = rw (c.update-2.ensures, c.update.ensures, c.new.ensures) (laws.feed_feed a b) in
    rw (c.finish.ensures, fed) (laws.fresh_fed (a ++ b))
