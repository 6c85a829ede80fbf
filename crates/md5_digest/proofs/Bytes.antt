-- Lists of bytes: runs of zeros, and what the copies of `lay` leave. Assumes nothing.
use Rattle.std.proofs.lemmas.List.{drop-replicate}
use Rattle.std.proofs.Common.{◌≡◌, ℕ, ◌+◌, ◌-◌, ◌<◌, ◌≤◌, List, ◌++◌, length, get_or, drop, set, replicate, append_assoc, add-one, arith, length-append, refl, take_at, drop_at, ap, ◌∙◌}
use lib.ListN.{length-replicate}
use borrow.Rule.Slice.PartMut.{put_mid}
use lib.Seq.{paste, paste-suc}
use Rattle.md5_digest.specs.Pieces.{fill}

-- a turn of a loop that copies s to d from at on
pub copy_more : (d s : List ℕ) {r : List ℕ} (at j : ℕ) → at + j < length d → j < length s → r ≡ paste d at s j
    → set r (at + j) (get_or s j 0) ≡ paste d at s (j + 1)
copy_more d s at j h h' e = rw (e, add-one) (paste-suc d at s j 0 h h')

pub length-fill : (u : List ℕ) → length u ≤ 64 → length (fill u) ≡ 64
length-fill u h = length-append u (replicate (64 - length u) 0) ∙ ap (λ (k : ℕ). length u + k) (length-replicate (64 - length u) 0) ∙ omega arith

-- `lay`: u and then s, written over zeros
pub laid : (u s : List ℕ) {a b : List ℕ} → a ≡ u → b ≡ s
    → put_mid (length u) (length u + length s - length u) (a ++ drop (length u) (replicate 64 0)) b ≡ fill (u ++ s)
laid u s ea eb =
    let n : ℕ = length u in
    let k : n + length s - n ≡ length s = omega arith in
    let left : 64 - n - length s ≡ 64 - length (u ++ s) = omega (arith, length-append u s) in
    let z : List ℕ = drop n (replicate 64 0) in
    rw (ea, eb, k, take_at u z n refl, drop_at u z n refl, drop-replicate {X = ℕ} n 64 0, drop-replicate {X = ℕ} (length s) (64 - n) 0, left, append_assoc)
