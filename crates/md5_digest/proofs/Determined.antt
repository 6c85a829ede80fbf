-- Each public call's contract determines its result. No call lends a byte to be changed. Assumes nothing.
use Rattle.std.proofs.Common.{sym, ◌∙◌}
use Rattle.determined.specs.Determined.{Determined}
use Rattle.md5_digest.proofs.Md5 as Md5
use Rattle.md5_digest.proofs.pieces.Md5InPieces as Pieces
use Rattle.md5_digest.proofs.digest as whole

pub new : Determined 0 Md5.new.Kinds.ps Md5.new.Kinds.r Md5.new.Reads.Learnt
new κs a x y e f p q = p ∙ sym q

pub update : Determined 1 Md5.update.Kinds.ps Md5.update.Kinds.r Md5.update.Reads.Learnt
update κs a x y e f p q = p ∙ sym q

pub finish : Determined 0 Md5.finish.Kinds.ps Md5.finish.Kinds.r Md5.finish.Reads.Learnt
finish κs a x y e f p q = p ∙ sym q

pub digest : Determined 1 whole.Kinds.ps whole.Kinds.r whole.Reads.Learnt
digest κs a x y e f p q = p ∙ sym q

-- the same by the trait

pub pieces-new : Determined 0 Pieces.new.Kinds.ps Pieces.new.Kinds.r Pieces.new.Reads.Learnt
pieces-new κs a x y e f p q = p ∙ sym q

pub pieces-update : Determined 1 Pieces.update.Kinds.ps Pieces.update.Kinds.r Pieces.update.Reads.Learnt
pieces-update κs a x y e f p q = p ∙ sym q

pub pieces-finish : Determined 0 Pieces.finish.Kinds.ps Pieces.finish.Kinds.r Pieces.finish.Reads.Learnt
pieces-finish κs a x y e f p q = p ∙ sym q

pub pieces-at_once : Determined 1 Pieces.at_once.Kinds.ps Pieces.at_once.Kinds.r Pieces.at_once.Reads.Learnt
pieces-at_once κs a x y e f p q = p ∙ sym q
