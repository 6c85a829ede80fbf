use Rattle.std.proofs.Common.{ℕ, List, ◌∙◌, ap, arith, take_all}
use Rattle.in_pieces.proofs.Chunks.{word-of}
use Rattle.crc32.specs.Crc.{crc_of}
use Rattle.crc32.proofs.Message.{sixteen-law}
use Rattle.crc32.proofs.sixteen.Goals as goal

pub returns : goal.returns
returns c =
    let s : List ℕ = c.args.s.now in
    sixteen-law s _ (omega arith) c.fits-s
    (word-of s _ 3 c.as_chunks.ensures.front (omega arith) (omega (arith, c.from_le_bytes.ensures))) c.four.ensures
    (word-of s _ 2 c.as_chunks.ensures.front (omega arith) (omega (arith, c.from_le_bytes-2.ensures))) c.four-2.ensures
    (word-of s _ 1 c.as_chunks.ensures.front (omega arith) (omega (arith, c.from_le_bytes-3.ensures))) c.four-3.ensures
    (word-of s _ 0 c.as_chunks.ensures.front (omega arith) (omega (arith, c.from_le_bytes-4.ensures))) c.four-4.ensures
    ∙ ap (crc_of c.args.r) (take_all 16 s (omega arith))
