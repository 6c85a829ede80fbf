-- `take_all`: to take all of the message is no wrong answer, so an edit that takes less is refused for the bytes that it leaves out
use Rattle.std.proofs.Common.{ap, ◌∙◌, arith, take_all}
use Rattle.crc32.specs.Crc.{crc32}
use Rattle.crc32.proofs.Stream.{fresh-fed}
use Rattle.crc32.proofs.checksum.Goals as goal

pub returns : goal.returns
returns c = rw (c.finish.ensures, c.update.ensures, c.new.ensures) (fresh-fed _ ∙ ap crc32 (search (take_all, arith)))
