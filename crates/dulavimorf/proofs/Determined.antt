-- Each call's contract determines its answer: the result, or what stands behind the pointers as it ends. Assumes nothing.
use mathlib.Core.Path.{sym, ap, ◌∙◌}
use mathlib.Core.List.{List}
use Prim.Native.Nat.{ℕ}
use Rattle.determined.specs.Determined.{Sees, Determined}
use Rattle.md5_digest.specs.declared.Md5.{Md5}
use Rattle.crc32.specs.declared.Crc32.{Crc32}
use Rattle.dulavimorf.proofs.dulavimorf_md5_new as md5-new-call
use Rattle.dulavimorf.proofs.dulavimorf_md5_update as md5-update-call
use Rattle.dulavimorf.proofs.dulavimorf_md5_finish as md5-finish-call
use Rattle.dulavimorf.proofs.dulavimorf_md5 as md5-call
use Rattle.dulavimorf.proofs.dulavimorf_crc32_new as crc32-new-call
use Rattle.dulavimorf.proofs.dulavimorf_crc32_update as crc32-update-call
use Rattle.dulavimorf.proofs.dulavimorf_crc32_finish as crc32-finish-call
use Rattle.dulavimorf.proofs.dulavimorf_crc32 as crc32-call

pub md5-new : Sees 3 md5-new-call.Kinds.ps md5-new-call.Kinds.r md5-new-call.Reads.Learnt (λ κs. Md5)
    (λ κs x e. record { state = e.0.now; tail = e.1.0.now; fed = e.1.1.0.now })
md5-new κs a x y e f p q = p ∙ sym q

pub md5-update : Sees 4 md5-update-call.Kinds.ps md5-update-call.Kinds.r md5-update-call.Reads.Learnt (λ κs. Md5)
    (λ κs x e. record { state = e.0.now; tail = e.1.0.now; fed = e.1.1.0.now })
md5-update κs a x y e f p q = p ∙ sym q

pub md5-finish : Sees 3 md5-finish-call.Kinds.ps md5-finish-call.Kinds.r md5-finish-call.Reads.Learnt (λ κs. List ℕ) (λ κs x e. e.1.1.1.0.now)
md5-finish κs a x y e f p q = p ∙ sym q

pub md5 : Sees 2 md5-call.Kinds.ps md5-call.Kinds.r md5-call.Reads.Learnt (λ κs. List ℕ) (λ κs x e. e.1.0.now)
md5 κs a x y e f p q = p ∙ sym q

pub crc32-new : Determined 0 crc32-new-call.Kinds.ps crc32-new-call.Kinds.r crc32-new-call.Reads.Learnt
crc32-new κs a x y e f p q = ap (λ (c : Crc32). c.register) (p ∙ sym q)

pub crc32-update : Determined 1 crc32-update-call.Kinds.ps crc32-update-call.Kinds.r crc32-update-call.Reads.Learnt
crc32-update κs a x y e f p q = ap (λ (c : Crc32). c.register) (p ∙ sym q)

pub crc32-finish : Determined 0 crc32-finish-call.Kinds.ps crc32-finish-call.Kinds.r crc32-finish-call.Reads.Learnt
crc32-finish κs a x y e f p q = p ∙ sym q

pub crc32 : Determined 1 crc32-call.Kinds.ps crc32-call.Kinds.r crc32-call.Reads.Learnt
crc32 κs a x y e f p q = p ∙ sym q
