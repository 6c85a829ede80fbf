use Rattle.std.proofs.Common.{◌≡◌}
use Rattle.std.specs.List.{repeat}
use Rattle.in_pieces.proofs.repeated.Given as goal

abbrev pub invariant-loop : goal.invariant-loop
invariant-loop g l = let s = g.S.InPieces in l.under_way ≡ s.feed s.fresh (repeat l.counter l.piece)
