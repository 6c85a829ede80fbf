-- Each public call's contract determines its result. No call lends a byte to be changed. Assumes nothing.
use mathlib.Core.Path.{sym, ◌∙◌}
use Rattle.determined.specs.Determined.{Determined}
use Rattle.types.proofs.VolumeEnd as VolumeEnd
use Rattle.types.proofs.U8FromRefusal as U8FromRefusal
use Rattle.types.proofs.RefusalTryFromU8 as RefusalTryFromU8

pub read_to_end : Determined 0 VolumeEnd.read_to_end.Kinds.ps VolumeEnd.read_to_end.Kinds.r VolumeEnd.read_to_end.Reads.Learnt
read_to_end κs a x y e f p q = p ∙ sym q

pub u8-from : Determined 0 U8FromRefusal.from.Kinds.ps U8FromRefusal.from.Kinds.r U8FromRefusal.from.Reads.Learnt
u8-from κs a x y e f p q = p ∙ sym q

pub refusal-try_from : Determined 0 RefusalTryFromU8.try_from.Kinds.ps RefusalTryFromU8.try_from.Kinds.r RefusalTryFromU8.try_from.Reads.Learnt
refusal-try_from κs a x y e f p q = p ∙ sym q
