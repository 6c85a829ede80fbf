-- Each public call's contract determines its result. No call lends a byte to be changed. Assumes nothing.
use mathlib.Core.Path.{sym, ◌∙◌}
use Rattle.determined.specs.Determined.{Determined}
use Rattle.crc32.proofs.Crc32 as Crc32
use Rattle.crc32.proofs.pieces.Crc32InPieces as Pieces
use Rattle.crc32.proofs.checksum as whole

pub new : Determined 0 Crc32.new.Kinds.ps Crc32.new.Kinds.r Crc32.new.Reads.Learnt
new κs a x y e f p q = p ∙ sym q

pub update : Determined 1 Crc32.update.Kinds.ps Crc32.update.Kinds.r Crc32.update.Reads.Learnt
update κs a x y e f p q = p ∙ sym q

pub finish : Determined 0 Crc32.finish.Kinds.ps Crc32.finish.Kinds.r Crc32.finish.Reads.Learnt
finish κs a x y e f p q = p ∙ sym q

pub checksum : Determined 1 whole.Kinds.ps whole.Kinds.r whole.Reads.Learnt
checksum κs a x y e f p q = p ∙ sym q

-- the same by the trait

pub pieces-new : Determined 0 Pieces.new.Kinds.ps Pieces.new.Kinds.r Pieces.new.Reads.Learnt
pieces-new κs a x y e f p q = p ∙ sym q

pub pieces-update : Determined 1 Pieces.update.Kinds.ps Pieces.update.Kinds.r Pieces.update.Reads.Learnt
pieces-update κs a x y e f p q = p ∙ sym q

pub pieces-finish : Determined 0 Pieces.finish.Kinds.ps Pieces.finish.Kinds.r Pieces.finish.Reads.Learnt
pieces-finish κs a x y e f p q = p ∙ sym q

pub pieces-at_once : Determined 1 Pieces.at_once.Kinds.ps Pieces.at_once.Kinds.r Pieces.at_once.Reads.Learnt
pieces-at_once κs a x y e f p q = p ∙ sym q
