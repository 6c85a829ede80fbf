-- The elements of the chunks that `as_chunks` gives, and those of four bytes as words. Assumes nothing.
use Rattle.std.proofs.Common.{◌≡◌, ℕ, zero, suc, ◌+◌, ◌*◌, ◌<◌, List, [], get_or, ap, ◌∙◌, arith, drop, not-suc-le-zero, suc-mul}
use Rattle.std.proofs.lemmas.List.{get_or-take, get_or-drop}
use Rattle.std.specs.Simd.{first_chunks}

pub get_or-first_chunks : (n k : ℕ) (s : List ℕ) (i j : ℕ) → i < k → j < n → get_or (get_or (first_chunks n k s) i []) j 0 ≡ get_or s (i * n + j) 0
get_or-first_chunks n zero s i j l h = absurd (not-suc-le-zero l)
get_or-first_chunks n (suc k) s zero j l h =
    let e : 0 * n + j ≡ j = omega arith in
    rw e (get_or-take n s j 0 h)
get_or-first_chunks n (suc k) s (suc i) j l h =
    let e : n + (i * n + j) ≡ suc i * n + j = omega (arith, suc-mul i n) in
    get_or-first_chunks n k (drop n s) i j (omega arith) h ∙ get_or-drop n s (i * n + j) 0 ∙ ap (λ (m : ℕ). get_or s m 0) e

-- chunk i of four bytes as a word, the low byte first: the word at byte 4 * i
pub word-of : (s : List ℕ) (k i : ℕ) {ws : List (List ℕ)} {r : ℕ} → ws ≡ first_chunks 4 k s → i < k
    → r ≡ get_or (get_or ws i []) 0 0 + get_or (get_or ws i []) 1 0 * 0x100 + get_or (get_or ws i []) 2 0 * 0x1_0000 + get_or (get_or ws i []) 3 0 * 0x100_0000
    → r ≡ get_or s (4 * i) 0 + get_or s (4 * i + 1) 0 * 0x100 + get_or s (4 * i + 2) 0 * 0x1_0000 + get_or s (4 * i + 3) 0 * 0x100_0000
word-of s k i e l er =
    let at : (j : ℕ) → j < 4 → get_or (get_or (first_chunks 4 k s) i []) j 0 ≡ get_or s (i * 4 + j) 0 = λ j h. get_or-first_chunks 4 k s i j l h in
    let first : i * 4 + 0 ≡ 4 * i = omega arith in
    let four : i * 4 ≡ 4 * i = omega arith in
    er ∙ rw (e, at 0 (omega arith), at 1 (omega arith), at 2 (omega arith), at 3 (omega arith), first, four)
