-- `take_all`: to take all of the message is no wrong answer, so an edit that takes less is refused for the bytes that it leaves out
use Rattle.std.proofs.Common.{ap, ◌∙◌, arith, take_all}
use Rattle.md5_digest.specs.Rfc1321.{md5}
use Rattle.md5_digest.proofs.Stream.{fresh-fed}
use Rattle.md5_digest.proofs.digest.Goals as goal

pub returns : goal.returns
returns c = rw (c.finish.ensures, c.update.ensures, c.new.ensures) (fresh-fed _ ∙ ap md5 (search (take_all, arith)))
