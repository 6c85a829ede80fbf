-- `take_all`: to take all of the message is no wrong answer, so an edit that takes less is refused for the bytes that it leaves out
use Rattle.std.proofs.Common.{ap, ◌∙◌, arith, take_all}
use Rattle.crc32.specs.Crc.{crc32}
use Rattle.crc32.proofs.pieces.Crc32InPieces.at_once.Goals as goal

pub returns : goal.returns
returns c = c.checksum.ensures ∙ ap crc32 (search (take_all, arith))
